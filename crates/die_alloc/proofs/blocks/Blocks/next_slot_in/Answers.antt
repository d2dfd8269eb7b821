use Rattle.std.proofs.Common.{◌≡◌, Some, None, sym, ◌∙◌}
use Rattle.die_alloc.specs.NextSlot.{open_block}
use Rattle.die_alloc.proofs.NextSlots.{open_block_stands, no_open_block_where_full, die_of-first_unused}
use Rattle.die_alloc.proofs.blocks.Blocks.next_slot_in.Goals as goal

pub returns-in_err-block-clause-full : goal.returns-in_err-block-clause-full
returns-in_err-block-clause-full c =
    let none : open_block c.args.self.now c.args.die ≡ None = sym c.open_block.ensures.block ∙ c.in_err-block.was in
    let full = rw none at (no_open_block_where_full c.args.self.now c.open_block.ensures.table c.args.die c.requires) in
    rw c.from_residual.ensures full

pub first_unused-requires-clause-within : goal.first_unused-requires-clause-within
first_unused-requires-clause-within c =
    let some : open_block c.args.self.now c.args.die ≡ Some c.in_ok-block.block = sym c.open_block.ensures.block
    ∙ c.in_ok-block.was in
    (open_block_stands c.args.self.now c.open_block.ensures.table c.args.die c.in_ok-block.block c.requires some).within

pub first_unused-requires-clause-room : goal.first_unused-requires-clause-room
first_unused-requires-clause-room c =
    let some : open_block c.args.self.now c.args.die ≡ Some c.in_ok-block.block = sym c.open_block.ensures.block
    ∙ c.in_ok-block.was in
    (open_block_stands c.args.self.now c.open_block.ensures.table c.args.die c.in_ok-block.block c.requires some).room

pub returns-clause-die : goal.returns-clause-die
returns-clause-die c =
    let some : open_block c.args.self.now c.args.die ≡ Some c.in_ok-block.block = sym c.open_block.ensures.block
    ∙ c.in_ok-block.was in
    let stands = open_block_stands c.args.self.now c.open_block.ensures.table c.args.die c.in_ok-block.block
    c.requires some in
    rw c.first_unused.ensures.slot (die_of-first_unused c.args.self.now c.open_block.ensures.table c.args.die
    c.in_ok-block.block stands)

pub returns-clause-full : goal.returns-clause-full
returns-clause-full c =
    let some : open_block c.args.self.now c.args.die ≡ Some c.in_ok-block.block = sym c.open_block.ensures.block
    ∙ c.in_ok-block.was in
    rw some at (no_open_block_where_full c.args.self.now c.open_block.ensures.table c.args.die c.requires)
