-- Where the block is not shut its blank slots are no garbage.
use Rattle.slot_tables.proofs.Common.{sym, ◌∙◌, arith, tables_state}
use Rattle.slot_tables.proofs.OfLiveSlots.Garbage.{blank_count, garbage_shut, garbage_part}
use Rattle.slot_tables.proofs.tables.Tables.garbage.Goals as goal

pub returns-then-shut : goal.returns-then-shut
returns-then-shut c =
    let t = c.self.invariant in
    rw (← c.self.view_is, c.if-shut.true)
    (c.unneeded-unneeded.ensures ∙ sym (garbage_shut (tables_state c.self.inside.base) t.sized.kept c.self.inside.live
    t.live c.args.block.0))

pub returns : goal.returns
returns c =
    let t = c.self.invariant in
    let part = garbage_part (tables_state c.self.inside.base) t.sized.kept c.self.inside.live t.live c.args.block.0 in
    let blanks = blank_count (tables_state c.self.inside.base) t.sized.kept (record {
      marks = c.self.inside.live.blanks;
      size = c.self.inside.live.size;
    }) t.blanks c.args.block.0 (rw (← c.self.view_is) at c.requires) in
    rw (← c.self.view_is, c.if-shut.false) (omega (
      arith,
      part,
      blanks,
      c.unneeded-unneeded.ensures,
      c.blanks.ensures,
    ))
