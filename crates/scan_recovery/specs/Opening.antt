-- What a device keeps when it is opened: the block that becomes its spare, and its tables. How slots read is defined in
-- flash_model, the block table in die_alloc, the spare and the notes in judged_records: so collector states that such
-- tables match without this crate.
use Rattle.std.specs.Prelude.{◌≡◌, ℕ, ◌<◌, ◌⊎◌, List, Option, None, Some}
use Rattle.tx_types.specs.declared.config.Config.{Config}
use Rattle.tx_types.specs.declared.config.Block.{Block}
use Rattle.tx_types.specs.declared.config.Protocol.{Protocol}
use Rattle.tx_types.specs.declared.config.Shape.{Shape}
use Rattle.tx_types.specs.Config.{shape_of}
use Rattle.flash_model.specs.declared.flash.Seen.{Seen}
use Rattle.flash_model.specs.Flash.{Contents}
use Rattle.record_list.specs.declared.found.Found.{Found}
use Rattle.record_list.specs.declared.found.Breach.{Breach}
use Rattle.record_list.specs.SoundList.{IsSoundList, IsLeastBreach}
use Rattle.record_list.specs.Counts.{IsLeastMiscount}
use Rattle.record_list.specs.Written.{HasRemovable}
use Rattle.die_alloc.specs.BlocksState.{BlocksState}
use Rattle.judged_records.specs.IndexState.{IndexState, IsNotedFrom, with_spare}
use Rattle.flash_model.specs.Readings.{seen_in}
use Rattle.die_alloc.specs.Opening.{opening_table}
use Rattle.judged_records.specs.Opening.{IsHighest, IsChosenFrom, IsChosenSpare, opening_noted}

-- the highest block of which the fact holds, nothing where there is none
abbrev pub FindsHighest : (ℕ → Type 0) → ℕ → Option Block → Type 0
FindsHighest P blocks None = (k : ℕ) → k < blocks → P k → ⊥
FindsHighest P blocks (Some block) = IsHighest P blocks block.0

-- the block that becomes the spare, nothing where there is none, and then no block is removable
abbrev pub FindsSpare : Protocol → ℕ → Shape → List Seen → List Found → Option Block → Type 0
FindsSpare protocol logical shape slots list None =
    HasRemovable protocol list logical shape → ⊥
FindsSpare protocol logical shape slots list (Some spare) =
    IsChosenFrom protocol logical shape slots list spare.0
    × HasRemovable protocol list logical shape

-- what is noted of slots that read so and hold these records, and their block table
pub record IsOpenedFrom
    (config : Config) (slots : List Seen) (list : List Found) (noted : IndexState)
    (table : BlocksState) : Type 0 where
  pub spare : ℕ
  pub chosen : IsChosenFrom config.protocol config.logical (shape_of config) slots list spare
  pub scan : IndexState
  pub scanned : IsNotedFrom config slots list scan
  pub noted_is : noted ≡ with_spare scan spare
  pub table_is : table ≡ opening_table (shape_of config) slots spare

-- the records break one of laws 1 to 7 first, or law 8, which names slot 0, or law 9 alone
abbrev pub IsBroken : Protocol → List Found → ℕ → Shape → Breach → Type 0
IsBroken protocol list logical shape b =
    IsLeastBreach protocol list logical b
    ⊎ (IsSoundList protocol list logical × (b.law ≡ 8) × (b.slot.0 ≡ 0)
    × (HasRemovable protocol list logical shape → ⊥))
    ⊎ (IsSoundList protocol list logical × HasRemovable protocol list logical shape
    × IsLeastMiscount list b)

-- the tables of a device that was opened from this image
pub record IsOpened (config : Config) (image : List Contents) (noted : IndexState)
    (table : BlocksState) : Type 0 where
  pub spare : ℕ
  pub chosen : IsChosenSpare config image spare
  pub noted_is : noted ≡ opening_noted config image spare
  pub table_is : table ≡ opening_table (shape_of config) (seen_in image) spare
