-- Retiring a block of the device of an image: when the block is refused, and what is left of the image.
use Rattle.std.specs.Prelude.{◌≡◌, ◌≢◌, ℕ, ◌+◌, ◌*◌, ◌/◌, ◌<◌, ◌==◌, nat_lt, List, [], filter, map, Option, None, Some, Ok, if◌then◌else◌}
use Rattle.std.specs.List.{range_with_len}
use Rattle.tx_types.specs.Config.{blocks_of, shape_of, slots_of}
use Rattle.tx_types.specs.declared.config.Config.{Config}
use Rattle.flash_model.specs.Flash.{Contents, Extras, blank, slot_at}
use Rattle.flash_model.specs.Operations.{with_block}
use Rattle.flash_model.specs.Retiring.{one_more}
use Rattle.mem_flash.specs.MemFlashState.{MemFlashState, state_of}
use Rattle.record_list.specs.Written.{is_needed}
use Rattle.judged_records.specs.Images.{IsSoundImage, array_in, records_in}
use Rattle.judged_records.specs.Opening.{IsChosenSpare}
use Rattle.tx_engine.specs.DeviceState.{DeviceState}
use Rattle.tx_engine.specs.Retire.{RetireEnds}
use Rattle.desk_tasks.specs.Ending.{Ending, RefusedBlock, RefusedWorn}

-- so many blocks may be retired, and none is
abbrev pub new_extras : ℕ → Extras
new_extras allowance = record { allowance = allowance; retired = 0 }

-- why no block is left, if none is: as many were retired as may be
abbrev pub worn_ending : Extras → Option Ending
worn_ending extras =
    if extras.retired == extras.allowance then Some (RefusedWorn extras.allowance) else None

-- why a block is not retired, if it is not: first that there is no such block, and then that none is left
abbrev pub block_refusal : Config → Extras → ℕ → Option Ending
block_refusal its extras block =
    if nat_lt block (blocks_of (shape_of its)) then worn_ending extras else Some (RefusedBlock block)

-- each slot of the block is blank
abbrev pub IsBlankBlock : Config → List Contents → ℕ → Type 0
IsBlankBlock its image block =
    (slot : ℕ) → slot < slots_of (shape_of its) → slot / its.pages_per_block ≡ block →
    slot_at image slot ≡ blank

-- the slots of a block that are needed in an image with this spare, in their order: each is the home of a record that
-- is current or held
abbrev pub needed_in : Config → List Contents → ℕ → ℕ → List ℕ
needed_in its image spare block =
    filter
    (is_needed its.protocol (records_in its.protocol image) its.logical (shape_of its) (Some spare) [])
    (range_with_len (block * its.pages_per_block) its.pages_per_block)

-- Where the records of an image stand once a block was retired. Each slot outside of the block and of the spare holds
-- what it held. The spare was made blank, and holds what was needed in the block, in its order, from the first slot on.
pub record MovesNeeded (its : Config) (image : List Contents) (block : ℕ)
    (left : List Contents) : Type 0 where
  pub spare : ℕ
  pub chosen : IsChosenSpare its image spare
  pub others : (slot : ℕ) → slot / its.pages_per_block ≢ block → slot / its.pages_per_block ≢ spare →
      slot_at left slot ≡ slot_at image slot
  pub moved : block ≢ spare → (k : ℕ) → k < its.pages_per_block →
      slot_at left (spare * its.pages_per_block + k)
      ≡ slot_at (map (slot_at image)
      (needed_in its (with_block (shape_of its) image spare blank) spare block)) k

-- The image is sound, and so is what is left of it, which has the same array. The block is all blank in it, and what
-- was needed there stands in what was the spare.
pub record EmptiesBlock (its : Config) (image : List Contents) (block : ℕ)
    (left : List Contents) : Type 0 where
  pub sound : IsSoundImage its.protocol its.logical (shape_of its) image
  pub left_sound : IsSoundImage its.protocol its.logical (shape_of its) left
  pub array : array_in its.protocol its.logical left ≡ array_in its.protocol its.logical image
  pub blank : IsBlankBlock its left block
  pub moves : MovesNeeded its image block left

-- A block of a device with nothing open was retired, by these operations on its flash. The image is sound, its array is
-- that of the device, and the block is all blank in it.
pub record RetiresIdle (old new : DeviceState MemFlashState) (block : ℕ) : Type 0 where
  pub shape : new.flash.shape ≡ old.flash.shape
  pub extras : new.flash.extras ≡ one_more old.flash.extras
  pub sound : IsSoundImage old.config.protocol old.config.logical old.flash.shape new.flash.image
  pub array : array_in old.config.protocol old.config.logical new.flash.image ≡ old.machine.pages
  pub blank : IsBlankBlock old.config new.flash.image block
  pub ends : RetireEnds state_of old new block (Ok tt)

-- a block of the device of a flash was retired, and this flash is left
pub record LeavesRetired (its : Config) (flash : MemFlashState) (block : ℕ)
    (left : MemFlashState) : Type 0 where
  pub refusal : block_refusal its flash.extras block ≡ None
  pub shape : left.shape ≡ shape_of its
  pub extras : left.extras ≡ one_more flash.extras
  pub empties : EmptiesBlock its flash.image block left.image
