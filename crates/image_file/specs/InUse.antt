-- The bytes of an image file that is in use: header and states are those of an image file, and the own bytes of a slot
-- without contents may be any.
use Rattle.std.specs.Prelude.{◌≡◌, ℕ, ◌+◌, ◌*◌, ◌==◌, List, length, map, take, drop, replicate, slice_range, Option, None, Result, Ok, Err}
use Rattle.std.specs.Option.{option_or, option_map_or}
use Rattle.tx_types.specs.Config.{shape_of, slots_of, image_bytes}
use Rattle.tx_types.specs.Limits.{header_bytes}
use Rattle.tx_types.specs.declared.config.Config.{Config}
use Rattle.tx_types.specs.declared.config.Shape.{Shape}
use Rattle.flash_model.specs.declared.flash.Seen.{Seen}
use Rattle.flash_model.specs.declared.flash.Seen.TheVariants.{Blank, Complete, Damaged}
use Rattle.flash_model.specs.Flash.{Contents, Extras}
use Rattle.flash_model.specs.Calls.{seen_of}
use Rattle.mem_flash.specs.Slots.{cell_bytes, image_of, AreFilled}
use Rattle.image_file.specs.declared.error.ImageError.{ImageError}
use Rattle.image_file.specs.declared.error.ImageError.TheVariants as error
use Rattle.image_file.specs.Rules.{blank_byte, config_in, shape_in, extras_in, image_in, states_in, broken_header, broken_states, unless}
use Rattle.image_file.specs.Spelling.{header_of, state_byte, CanBeSpelled}
use Rattle.image_file.specs.States.{head_bytes}

-- the first rule of what is behind the header that is broken: of the own bytes only their number counts
abbrev pub broken_slots_in_use : List ℕ → Option ImageError
broken_slots_in_use bytes =
    unless (length bytes == image_bytes (shape_in bytes)) error.Length (broken_states (states_in bytes))

-- the first rule that is broken
unfoldable pub broken_in_use : List ℕ → Option ImageError
broken_in_use bytes = option_or (broken_header bytes) (broken_slots_in_use bytes)

-- The configuration, the slots, and what is told of retired blocks; or the first rule that is broken. A slot holds what
-- its state says, and its own bytes count where it is complete.
abbrev pub reading_in_use : List ℕ → Result (Config × List Contents × Extras) ImageError
reading_in_use bytes =
    option_map_or Err (broken_in_use bytes) (Ok (config_in bytes, image_in bytes, extras_in bytes))

-- these bytes are an image file in use of this configuration, these slots and these retired blocks
pub record IsInUse (bytes : List ℕ) (config : Config) (image : List Contents) (extras : Extras) : Type 0 where
  pub can : CanBeSpelled config image extras
  pub long : length bytes ≡ image_bytes (shape_of config)
  pub header : take header_bytes bytes ≡ header_of config extras
  pub states : slice_range bytes header_bytes (header_bytes + slots_of (shape_of config))
      ≡ map (λ slot. state_byte (seen_of slot)) image
  pub cells : image_of config.page_bytes (map seen_of image)
      (drop (header_bytes + slots_of (shape_of config)) bytes) ≡ image

-- the bytes of a slot once it is filled, where it has no contents
abbrev pub filled_as : ℕ → Seen → List ℕ → List ℕ
filled_as size Blank cell = replicate size blank_byte
filled_as size Damaged cell = replicate size 0
filled_as size Complete cell = cell

-- the slots of a file in use of this shape read this way, and in the new bytes each without contents is filled
pub record AreFilledSlotsOf (old new : List ℕ) (shape : Shape) (seen : List Seen) : Type 0 where
  pub sound : broken_slots_in_use old ≡ None
  pub many : length seen ≡ slots_of shape
  pub whole : length new ≡ head_bytes shape + slots_of shape * cell_bytes shape.page_bytes
  pub filled : AreFilled shape.page_bytes seen (drop (head_bytes shape) new)
  pub image : image_of shape.page_bytes seen (drop (head_bytes shape) new) ≡ image_in old
