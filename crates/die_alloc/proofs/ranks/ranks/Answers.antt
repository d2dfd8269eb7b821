use Rattle.std.proofs.Common.{◌≡◌, ℕ, ◌+◌, ◌-◌, ◌*◌, arith, ap, length, subst, take, drop}
use Rattle.die_alloc.specs.Ranks.{AreRanksOf}
use Rattle.die_alloc.proofs.RankedBlocks.{have_ranks_more}
use Rattle.die_alloc.proofs.ranks.ranks.Goals as goal

one_die : (die size : ℕ) → die * size + size - die * size ≡ size
one_die die size = omega arith

pub loop-die-init : goal.loop-die-init
loop-die-init c = (ap length c.new-all.ensures.items, λ die low. absurd (omega arith))

pub loop-die-preserved : goal.loop-die-preserved
loop-die-preserved c =
    have_ranks_more c.loop-die.die c.args.shape c.args.blocks.now c.loop-die.all.items _ c.in_ok-die_ranks.field-0
    (subst (λ n. AreRanksOf (take n (drop (c.loop-die.die * c.args.shape.blocks_per_die) c.args.blocks.now))
    c.in_ok-die_ranks.field-0)
    (one_die c.loop-die.die c.args.shape.blocks_per_die) c.in_ok-die_ranks.ensures)
    c.in_ok-push.ensures.items c.loop-die.invariant

pub returns : goal.returns
returns c = record {
  dies = (let n = c.loop-die.invariant.0 in omega arith);
  each = λ die low. c.loop-die.invariant.1 die (omega arith);
}
