-- A flash that is a file, as its callers see it.
use Rattle.std.specs.Prelude.{◌≡◌, ℕ, true, false, Bool, List, Option, None, Some, map, Result}
use Rattle.std.specs.Option.{option_map}
use Rattle.std.specs.Result.{is_err}
use Rattle.tx_types.specs.declared.config.Config.{Config}
use Rattle.tx_types.specs.declared.config.Slot.{Slot}
use Rattle.flash_model.specs.declared.flash.Broken.{Broken}
use Rattle.flash_model.specs.Flash.{FlashState, counted}
use Rattle.flash_model.specs.Operations.{Load}
use Rattle.mem_flash.specs.MemFlashState.{MemFlashState}
use Rattle.file_flash.specs.Files.{FileState}

-- The configuration of its device, the flash in memory, the slots that wait to become durable, whether a call of
-- the file has failed since it is that of the flash, how many calls of the file failed, and what a loss of power may
-- leave of it, where that is told.
pub record FileFlashState : Type 0 where
  pub config : Config
  pub memory : MemFlashState
  pub waiting : List Slot
  pub failed : Bool
  pub faults : ℕ
  pub file : Option FileState

-- A flash that does not tell what is to come: a call of its file may fail at any time.
abbrev pub untold : MemFlashState → FlashState
untold s = record {
  shape = s.shape;
  image = s.image;
  live = s.live;
  faults = s.faults;
  programs = s.programs;
  erases = s.erases;
  reads = s.reads;
  started = s.started;
  told = None;
  extras = Some s.extras;
}

-- the slots of programs that are loaded
abbrev pub slots_of_loads : List Load → List Slot
slots_of_loads loads = map (λ load. record { 0 = load.at }) loads

-- the slot of a program that is loaded in a register
abbrev pub slot_loaded : Option Load → Option Slot
slot_loaded register = option_map (λ load. record { 0 = load.at }) register

-- a flash in memory that has lost power in a call: what the call did stays, and the counts are those from before it
abbrev pub powerless : (before after : MemFlashState) → MemFlashState
powerless before after = record after {
  live = false;
  faults = counted after.faults;
  programs = before.programs;
  erases = before.erases;
}

-- a call of a flash whose file has failed changes no slot, and leaves it without power
pub record IsCut (old new : MemFlashState) : Type 0 where
  pub shape : new.shape ≡ old.shape
  pub image : new.image ≡ old.image
  pub extras : new.extras ≡ old.extras
  pub live : new.live ≡ false

-- nothing changes in a file that has failed, and no call of it is made
pub record IsFrozen (old new : FileFlashState) : Type 0 where
  pub faults : new.faults ≡ old.faults
  pub file : new.file ≡ old.file
  pub image : new.memory.image ≡ old.memory.image
  pub failed : new.failed ≡ true

-- where a call of the file fails or has failed, the call of the flash is broken and power is off
abbrev pub LosesPower : FileFlashState → Result (Unit {0}) Broken → Type 0
LosesPower new result = new.failed ≡ true → (is_err result ≡ true) × (new.memory.live ≡ false)
