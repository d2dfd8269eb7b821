mod InBlocks
use Rattle.slot_tables.proofs.slots.is_in_block.Answers.InBlocks.{in_block}
use Rattle.slot_tables.proofs.slots.is_in_block.Goals as goal

pub returns-then-first-at : goal.returns-then-first-at
returns-then-first-at c =
    let low = rw (c.from.ensures, c.from-size.ensures, c.from-at.ensures) at c.if-first-at.true in
    rw (c.from.ensures, c.from-size.ensures, c.from-at.ensures)
    (in_block c.args.at c.args.block.0 c.args.size c.requires low)
