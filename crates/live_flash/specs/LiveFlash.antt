-- How a flash that is a live file is kept.
use Rattle.std.specs.Prelude.{◌≡◌, ◌≤◌, ◌<◌, ℕ, true, false, [], length, map, Option, Ok, IfSome}
use Rattle.std.specs.Vec.{vec_capacity}
use Rattle.tx_types.specs.Config.{checked, shape_of}
use Rattle.flash_model.specs.Retiring.{max_allowance}
use Rattle.file_flash.specs.Files.{FileState}
use Rattle.file_flash.specs.Following.{AreProgrammed}
use Rattle.file_flash.specs.FileFlashState.{FileFlashState, slot_loaded}
use Rattle.live_file.specs.Spelling.{live_header}
use Rattle.live_flash.specs.Following.{IsOpened, IsLiveFile, Follows}
use Rattle.live_flash.specs.Losing.{LeavesCounted}
use Rattle.live_flash.specs.Waiting.{HasRoom, room_bytes}
use Rattle.live_flash.specs.declared.live_flash.LiveFlash.TheInside.{Inside}

abbrev pub live_flash_of : {S : Type 0} → (S → Option FileState) → (S → ℕ) → Inside S → FileFlashState
live_flash_of told faults f = record {
  config = f.config;
  memory = f.memory;
  waiting = f.follower.waiting.items;
  failed = f.failed;
  faults = faults f.follower.store;
  file = told f.follower.store;
}

-- The header of the file is that of a live file of the device, and no slot has more zero bits than its number says.
-- Until a call of it has failed a sync makes durable what was written, the file follows the flash in memory, and the
-- slots that wait were programmed; where it has failed, the store counts a failure. There is room for each slot that is
-- to wait, and for the bytes of those of a block. The places of the dies have the slots of what is loaded in their
-- registers.
pub record LiveFlashInvariant {S : Type 0} (told : S → Option FileState) (faults : S → ℕ) (f : Inside S) : Type 0 where
  pub checks : checked f.config ≡ Ok (shape_of f.config)
  pub shape : f.memory.shape ≡ shape_of f.config
  pub within : f.memory.extras.retired ≤ f.memory.extras.allowance
  pub few : f.memory.extras.allowance ≤ max_allowance
  pub file : IfSome (told f.follower.store) (IsLiveFile f.memory.shape (live_header f.config f.memory.extras))
  pub counts : IfSome (told f.follower.store) (LeavesCounted f.memory.shape)
  pub opened : f.failed ≡ false → IfSome (told f.follower.store) (IsOpened f.memory.shape)
  pub follows : f.failed ≡ false → IfSome (told f.follower.store)
      (Follows f.memory.shape f.memory.image [] f.follower.waiting.items)
  pub programmed : f.failed ≡ false → AreProgrammed f.memory.image f.follower.waiting.items
  pub cause : f.failed ≡ true → 0 < faults f.follower.store
  pub places : f.failed ≡ false →
      HasRoom f.memory.shape (vec_capacity f.follower.waiting) f.follower.waiting.items
  pub room : length f.follower.room.items ≡ room_bytes f.memory.shape
  pub loaded : f.loaded.items ≡ map slot_loaded f.memory.registers
  pub dies : length f.loaded.items ≡ f.memory.shape.dies
