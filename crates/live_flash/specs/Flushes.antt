-- A flush of a flash that is a live file.
use Rattle.std.specs.Prelude.{◌≡◌, true, false, if◌then◌else◌, [], IfSome, OnOk, Result}
use Rattle.std.specs.Result.{is_err}
use Rattle.flash_model.specs.Flash.{counted}
use Rattle.flash_model.specs.declared.cached.NotDurable.{NotDurable}
use Rattle.file_flash.specs.FileFlashState.{FileFlashState, IsFrozen}
use Rattle.live_flash.specs.Losing.{LosesOnly}

-- What a flush does, done or failed: the flash in memory is as before; once it is done nothing waits, and a loss leaves
-- each slot as it is; where it failed, so did a call of the file, then or before, and a loss leaves each slot as it is,
-- or blank where it waited.
pub record Flushes (old new : FileFlashState) (result : Result (Unit {0}) NotDurable) : Type 0 where
  pub stays : new.memory ≡ old.memory
  pub config : new.config ≡ old.config
  pub answer : is_err result ≡ new.failed
  pub counts : old.failed ≡ false → new.faults ≡ (if new.failed then counted old.faults else old.faults)
  pub none : OnOk result (new.waiting ≡ [])
  pub durable : OnOk result (IfSome new.file (LosesOnly new.memory.shape new.memory.image []))
  pub loses : old.failed ≡ false → IfSome new.file (LosesOnly new.memory.shape new.memory.image old.waiting)
  pub frozen : old.failed ≡ true → IsFrozen old new
