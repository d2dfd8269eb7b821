use Rattle.live_flash.proofs.Common.{arith}
use Rattle.live_flash.proofs.Once.{run_one, run_more}
use Rattle.live_flash.proofs.writing.run_at.Goals as goal

pub loop-count-init : goal.loop-count-init
loop-count-init c = record {
  some = omega arith;
  within = omega (arith, c.requires.from);
  run = run_one c.args.slots.now c.args.from;
}

pub loop-count-preserved : goal.loop-count-preserved
loop-count-preserved c = record {
  some = omega arith;
  within = omega (arith, c.is_in_run.ensures.within c.if-not-is_in_run.false);
  run = run_more c.args.slots.now c.args.from c.loop-count.count c.loop-count.invariant.run
      (c.is_in_run.ensures.number c.if-not-is_in_run.false);
}
