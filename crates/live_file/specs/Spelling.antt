-- The bytes of an image file in its live format. Numbers are unsigned and little endian.
use Rattle.std.specs.Prelude.{◌≡◌, ℕ, ◌<◌, List, [], ◌∷◌, ◌++◌, length, take, replicate, codes}
use Rattle.std.specs.List.{flat_map}
use Rattle.std.specs.Int.{w32, to_le_bytes}
use Rattle.tx_types.specs.Config.{shape_of, slots_of}
use Rattle.tx_types.specs.Limits.{header_bytes}
use Rattle.tx_types.specs.declared.config.Config.{Config}
use Rattle.flash_model.specs.Flash.{Contents, Extras}
use Rattle.image_file.specs.Spelling.{numbers_of, CanBeSpelled}
use Rattle.live_image.specs.Slots.{live_slot, IsCounted}
use Rattle.live_image.specs.Layout.{live_bytes, slot_in, live_image}

-- what a live file begins with
abbrev pub third_magic : List ℕ
third_magic = codes "TXFLASH3"

-- Magic, the numbers of a header, how many blocks may be retired and how many are, and 20 zeros. These two may be 0,
-- too: they say which of the first two magics the image file has.
unfoldable pub live_header : Config → Extras → List ℕ
live_header c extras =
    third_magic ++ flat_map (to_le_bytes w32) (numbers_of c)
    ++ (flat_map (to_le_bytes w32) (extras.allowance ∷ extras.retired ∷ []) ++ replicate 20 0)

-- the header, and the slots
unfoldable pub live_spelling : Config → List Contents → Extras → List ℕ
live_spelling config image extras = live_header config extras ++ flat_map (live_slot config.page_bytes) image

-- These bytes are a live file of this configuration, these slots and these retired blocks. There are many such files.
pub record IsLive (bytes : List ℕ) (config : Config) (image : List Contents) (extras : Extras) : Type 0 where
  pub can : CanBeSpelled config image extras
  pub long : length bytes ≡ live_bytes (shape_of config)
  pub header : take header_bytes bytes ≡ live_header config extras
  pub counts : (k : ℕ) → k < slots_of (shape_of config) → IsCounted (slot_in (shape_of config) bytes k)
  pub slots : live_image (shape_of config) bytes ≡ image
