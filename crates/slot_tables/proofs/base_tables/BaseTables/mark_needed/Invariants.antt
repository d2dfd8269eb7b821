use Rattle.slot_tables.proofs.Common.{◌≡◌, length, tables_state}
use Rattle.slot_tables.proofs.OfBaseTables.RefreshedAll.{AreHomes}
use Rattle.slot_tables.proofs.base_tables.BaseTables.mark_needed.Given as goal

abbrev pub invariant-loop-number : goal.invariant-loop-number
invariant-loop-number l =
    (l.marks.size ≡ l.initial.marks.size) × (length l.marks.marks ≡ length l.self.slots)
    × AreHomes (tables_state l.self) l.number l.marks.marks
