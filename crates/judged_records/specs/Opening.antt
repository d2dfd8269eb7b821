-- The block that becomes the spare when a device is opened, and what is noted then.
use Rattle.std.specs.Prelude.{◌≡◌, ℕ, ◌<◌, ◌⊎◌, true, false, List, map, replicate, slice_set, Some}
use Rattle.std.specs.List.{range_with_len}
use Rattle.tx_types.specs.declared.config.Config.{Config}
use Rattle.tx_types.specs.declared.config.Protocol.{Protocol}
use Rattle.tx_types.specs.declared.config.Shape.{Shape}
use Rattle.tx_types.specs.Config.{shape_of, blocks_of}
use Rattle.flash_model.specs.declared.flash.Seen.{Seen}
use Rattle.flash_model.specs.Flash.{Contents}
use Rattle.record_list.specs.declared.found.Found.{Found}
use Rattle.record_list.specs.Records.{mention}
use Rattle.record_list.specs.Written.{IsRemovable}
use Rattle.judged_records.specs.Images.{records_in}
use Rattle.judged_records.specs.Notes.{notes_of}
use Rattle.judged_records.specs.IndexState.{IndexState, used_blocks}
use Rattle.flash_model.specs.Readings.{seen_in, reads_blank_block}

-- of this many blocks this one is the highest of which the fact holds
pub record IsHighest (P : ℕ → Type 0) (blocks block : ℕ) : Type 0 where
  pub exists : block < blocks
  pub holds : P block
  pub none_above : (k : ℕ) → block < k → k < blocks → P k → ⊥

-- a block's slots are all blank
abbrev pub IsBlankBlock : Shape → List Seen → ℕ → Type 0
IsBlankBlock shape slots block = reads_blank_block shape slots block ≡ true

abbrev pub HasNoBlankBlock : Shape → List Seen → Type 0
HasNoBlankBlock shape slots =
    (block : ℕ) → block < blocks_of shape → IsBlankBlock shape slots block → ⊥

-- this is the block that becomes the spare, of slots that read so and hold these records: the highest one that is all
-- blank, or, where there is none, the highest removable one
abbrev pub IsChosenFrom : Protocol → ℕ → Shape → List Seen → List Found → ℕ → Type 0
IsChosenFrom protocol logical shape slots list spare =
    IsHighest (IsBlankBlock shape slots) (blocks_of shape) spare
    ⊎ (HasNoBlankBlock shape slots
    × IsHighest (IsRemovable protocol list logical shape) (blocks_of shape) spare)

-- this is the block that becomes the spare of an image
abbrev pub IsChosenSpare : Config → List Contents → ℕ → Type 0
IsChosenSpare config image spare =
    IsChosenFrom config.protocol config.logical (shape_of config) (seen_in image)
    (records_in config.protocol image) spare

-- what is noted of an image when its device is opened with this spare
abbrev pub opening_noted : Config → List Contents → ℕ → IndexState
opening_noted config image spare = record {
  config = config;
  notes = notes_of config.protocol image;
  pins = replicate config.logical 0;
  spare = Some spare;
  mentions = map (mention (records_in config.protocol image)) (range_with_len 0 config.logical);
  closed = slice_set (used_blocks (shape_of config) (seen_in image)) spare false;
}
