-- What tables are made of: slots that read so, the list of the records that they hold, and the same records in the
-- order of their names, of which is known how they stand.
use Rattle.std.specs.Prelude.{◌≡◌, ℕ, Contains, List, length, map}
use Rattle.tx_types.specs.declared.config.Config.{Config}
use Rattle.tx_types.specs.declared.config.Protocol.{Protocol}
use Rattle.tx_types.specs.Config.{shape_of, slots_of}
use Rattle.flash_model.specs.declared.flash.Seen.{Seen}
use Rattle.record_list.specs.declared.found.Found.{Found}
use Rattle.record_list.specs.Records.{IsScanned}
use Rattle.record_list.specs.SoundList.{IsSoundList}
use Rattle.sorted_records.specs.SortedRecords.{Sorts}
use Rattle.sorted_records.specs.CurrentVersions as standing
use Rattle.slot_tables.specs.TablesState.{TablesState, blank_tables}
use Rattle.judged_records.specs.Notes.{complete_slots}
use Rattle.version_index.specs.Filling.{NamesAgree}

-- the records of a sound list, which slots that read so hold, stand so
pub record AreScanned (protocol : Protocol) (its : Config) (scanned : List Seen) (list : List Found)
    (judged : standing.CurrentVersionsState) : Type 0 where
  pub reads : length scanned ≡ slots_of (shape_of its)
  pub complete : map (λ f. f.slot.0) list ≡ complete_slots scanned
  pub slots : IsScanned list
  pub sound : IsSoundList protocol list its.logical
  pub sorts : Sorts list judged.list

-- blank tables have room for slots that read so and hold the records of a list
pub record CanFill (logical : ℕ) (scanned : List Seen) (list charted : List Found) (k : TablesState) : Type 0 where
  pub blank : k ≡ blank_tables k.shape logical
  pub reads : length scanned ≡ slots_of k.shape
  pub complete : map (λ f. f.slot.0) list ≡ complete_slots scanned
  pub agree : NamesAgree charted
  pub listed : (f : Found) → Contains list f → Contains charted f
  pub known : (f : Found) → Contains charted f → Contains list f
