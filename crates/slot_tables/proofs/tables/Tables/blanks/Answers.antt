-- The blank slots are counted.
use Rattle.slot_tables.proofs.Common.{◌∙◌, tables_state}
use Rattle.slot_tables.proofs.OfLiveSlots.Garbage.{blank_count}
use Rattle.slot_tables.proofs.tables.Tables.blanks.Goals as goal

pub returns : goal.returns
returns c =
    let t = c.self.invariant in
    rw (← c.self.view_is) (c.blanks.ensures
    ∙ blank_count (tables_state c.self.inside.base) t.sized.kept (record {
      marks = c.self.inside.live.blanks;
      size = c.self.inside.live.size;
    }) t.blanks c.args.block.0 (rw (← c.self.view_is) at c.requires))
