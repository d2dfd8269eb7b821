-- All blocks are counted.
use Rattle.slot_tables.proofs.Common.{◌≡◌, subst, arith}
use Rattle.slot_tables.proofs.OfLiveSlots.Counted.{AreCounted, all_counted}
use Rattle.slot_tables.proofs.live_slots.count_all.Goals as goal

pub returns : goal.returns
returns c =
    let whole : c.loop-block.block ≡ c.args.blocks = omega arith in
    all_counted c.args.marks.now c.args.blocks c.loop-block.garbage
    (subst (λ upto. AreCounted c.args.marks.now upto c.args.blocks c.loop-block.garbage) whole c.loop-block.invariant)
