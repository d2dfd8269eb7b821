use Rattle.std.proofs.Common.{arith, rules}
use Rattle.list_flash.proofs.Moments.{IsDone-new}
use Rattle.list_flash.proofs.list_flash.ListFlash.new.Goals as goal

pub invariant_of-result : goal.invariant_of-result
invariant_of-result c = record {
  done = IsDone-new c.args.shape c.new.result.items c.requires (search rules);
  within = omega arith;
  registers = c.in_ok-empty_registers.ensures.room;
}
