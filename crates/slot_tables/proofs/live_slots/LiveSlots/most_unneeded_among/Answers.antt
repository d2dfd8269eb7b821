-- All blocks of the group were looked at.
use Rattle.slot_tables.proofs.Common.{◌≡◌, ◌+◌, ◌*◌, arith}
use Rattle.std.specs.Prelude.{min}
use Rattle.slot_tables.specs.Counts.{unmarked_in}
use Rattle.slot_tables.proofs.OfLiveSlots.Walks.{group_most}
use Rattle.slot_tables.proofs.live_slots.LiveSlots.most_unneeded_among.Goals as goal

pub returns : goal.returns
returns c =
    let n = c.args.self.now in
    let ends : c.loop-block.block ≡ min (c.args.count * c.args.group + c.args.count) n.blocks =
    omega (arith, c.min-end.ensures, c.blocks-blocks.ensures.blocks) in
    group_most (unmarked_in n) n.blocks c.args.count c.args.group c.loop-block.block c.loop-block.most c.requires.exists
    ends c.loop-block.invariant
