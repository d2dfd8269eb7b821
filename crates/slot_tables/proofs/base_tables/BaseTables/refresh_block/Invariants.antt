pub mod SpareSetting
use Rattle.slot_tables.proofs.Common.{option_map, tables_state}
use Rattle.slot_tables.proofs.base_tables.BaseTables.refresh_block.Invariants.SpareSetting.{AreRefreshed}
use Rattle.slot_tables.proofs.base_tables.BaseTables.refresh_block.Given as goal

abbrev pub invariant-loop-at : goal.invariant-loop-at
invariant-loop-at l =
    AreRefreshed (tables_state l.self) (option_map (λ b. b.0) l.older) l.first l.at l.initial.live l.live
