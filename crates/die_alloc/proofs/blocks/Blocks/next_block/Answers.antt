use Rattle.std.proofs.Common.{◌≡◌, Some, arith, subst}
use Rattle.die_alloc.specs.BlocksState.{IsBlocksState}
use Rattle.die_alloc.specs.NextSlot.{next_block}
use Rattle.die_alloc.proofs.NextSlots.{next_block_split, next_block_has_room, no_block_where_full}
use Rattle.die_alloc.proofs.blocks.Blocks.next_block.Goals as goal

pub returns-in-Some-clause-room : goal.returns-in-Some-clause-room
returns-in-Some-clause-room c =
    let is : next_block c.args.self.now ≡ Some c.in-Some.block = grind (arith, next_block_split) in
    next_block_has_room _ (subst IsBlocksState c.self.view_is c.self.invariant.table) _ is

pub returns-in-Some-clause-full : goal.returns-in-Some-clause-full
returns-in-Some-clause-full c =
    let is : next_block c.args.self.now ≡ Some c.in-Some.block = grind (arith, next_block_split) in
    rw is at (no_block_where_full c.args.self.now (subst IsBlocksState c.self.view_is c.self.invariant.table))
