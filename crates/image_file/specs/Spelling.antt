-- The one spelling of a configuration, the slots of a flash and what it tells of retired blocks, as the bytes of an
-- image file. Numbers are unsigned and little endian.
use Rattle.std.specs.Prelude.{◌≡◌, ℕ, ◌≤◌, ◌==◌, List, [], ◌∷◌, ◌++◌, map, replicate, codes, Ok, if◌then◌else◌}
use Rattle.std.specs.List.{flat_map}
use Rattle.std.specs.Int.{w32, to_le_bytes}
use Rattle.tx_types.specs.Config.{checked, shape_of}
use Rattle.tx_types.specs.declared.config.Config.{Config}
use Rattle.tx_types.specs.declared.config.Protocol.{Protocol}
use Rattle.tx_types.specs.declared.config.Protocol.TheVariants.{Scc, Bpcc}
use Rattle.flash_model.specs.declared.flash.Seen.{Seen}
use Rattle.flash_model.specs.declared.flash.Seen.TheVariants.{Blank, Complete, Damaged}
use Rattle.flash_model.specs.Flash.{Contents, Extras, IsImage}
use Rattle.flash_model.specs.Calls.{seen_of}
use Rattle.flash_model.specs.Retiring.{max_allowance}
use Rattle.mem_flash.specs.Slots.{cell_of}

-- what an image file begins with where no block may be retired, and where some may
abbrev pub first_magic : List ℕ
first_magic = codes "TXFLASH1"

abbrev pub second_magic : List ℕ
second_magic = codes "TXFLASH2"

abbrev pub magic_of : Extras → List ℕ
magic_of extras = if extras.allowance == 0 then first_magic else second_magic

-- the number that stands for a protocol
abbrev pub code_of : Protocol → ℕ
code_of Scc = 1
code_of Bpcc = 2

-- the numbers of a header, in order
abbrev pub numbers_of : Config → List ℕ
numbers_of c =
    code_of c.protocol ∷ c.page_bytes ∷ c.pages_per_block ∷ c.blocks_per_die ∷ c.dies ∷ c.logical
    ∷ c.pending ∷ []

-- what stands behind these numbers: two more where blocks may be retired, and reserved bytes
abbrev pub rest_of : Extras → List ℕ
rest_of extras =
    if extras.allowance == 0 then replicate 28 0
    else flat_map (to_le_bytes w32) (extras.allowance ∷ extras.retired ∷ []) ++ replicate 20 0

-- magic, numbers of four bytes, and the rest
unfoldable pub header_of : Config → Extras → List ℕ
header_of c extras = magic_of extras ++ flat_map (to_le_bytes w32) (numbers_of c) ++ rest_of extras

-- the byte that stands for how a slot reads
abbrev pub state_byte : Seen → ℕ
state_byte Blank = 0
state_byte Complete = 1
state_byte Damaged = 2

-- the header, a byte for each slot that says how it reads, and for each slot its contents and its spare area
unfoldable pub spelling : Config → List Contents → Extras → List ℕ
spelling config image extras =
    header_of config extras ++ map (λ slot. state_byte (seen_of slot)) image
    ++ flat_map (cell_of config.page_bytes) image

-- the configuration is one of a device, whose flash may have these slots, allow this many retired blocks, and have this
-- many
pub record CanBeSpelled (config : Config) (image : List Contents) (extras : Extras) : Type 0 where
  pub checks : checked config ≡ Ok (shape_of config)
  pub fits : IsImage (shape_of config) image
  pub within : extras.retired ≤ extras.allowance
  pub few : extras.allowance ≤ max_allowance

-- these bytes are the image file of this configuration, these slots and these retired blocks
pub record Spells (bytes : List ℕ) (config : Config) (image : List Contents) (extras : Extras) : Type 0 where
  pub can : CanBeSpelled config image extras
  pub same : bytes ≡ spelling config image extras
