-- A record that stands once keeps its home.
use Rattle.slot_tables.proofs.Common.{option_map, tables_state}
use Rattle.slot_tables.proofs.OfLiveSlots.Needing.{home_lies}
use Rattle.slot_tables.proofs.base_tables.BaseTables.refresh_slot.Goals as goal

pub refresh_moved-requires-clause-before : goal.refresh_moved-requires-clause-before
refresh_moved-requires-clause-before c =
    rw c.home_by.ensures (home_lies (record (tables_state c.args.self.now) {
      spare = option_map (λ b. b.0) c.args.older;
    }) c.number_in-number.result)
