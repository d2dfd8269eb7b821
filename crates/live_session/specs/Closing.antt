-- How the file of a session is closed.
use Rattle.std.specs.Prelude.{◌≡◌, ◌<◌, Bool, true, false, List, ℕ, IfSome, OnOk, Result, Ok, Err}
use Rattle.std.specs.Option.{option_map}
use Rattle.std.specs.Result.{is_err}
use Rattle.tx_types.specs.declared.config.Config.{Config}
use Rattle.flash_model.specs.declared.cached.NotDurable.{NotDurable}
use Rattle.file_flash.specs.FileFlashState.{FileFlashState}
use Rattle.file_flash.specs.Losing.{LeavesSpelling}
use Rattle.live_session.specs.declared.answering.Stop.{Stop}
use Rattle.live_session.specs.declared.answering.Stop.TheVariants as stop
use Rattle.live_session.specs.declared.desk.CallError.TheVariants as call
use Rattle.live_session.specs.LineDesk.{Closes, LineDeskState}
use Rattle.live_session.specs.Saying.{IsClosed, IsLeft, with_closed}

-- why there is no image file: the flush failed, or there was no memory for it
abbrev pub IsStoppedBy : Result (Unit {0}) NotDurable → Stop → Type 0
IsStoppedBy flushed stop.Fault = is_err flushed ≡ true
IsStoppedBy flushed stop.Memory = flushed ≡ Ok tt

-- the image file of a flash was put in the place of its live file, which the desk closed, or was not
abbrev pub PutsImage : FileFlashState → List ℕ → LineDeskState → LineDeskState → Result (Unit {0}) Stop → Type 0
PutsImage flash bytes old new (Ok done) = Closes flash old new bytes (Ok tt)
PutsImage flash bytes old new (Err stop.Fault) = Closes flash old new bytes (Err call.Failed)
PutsImage flash bytes old new (Err stop.Memory) = Closes flash old new bytes (Err call.Memory)

-- A flash was closed, and is left with this configuration: in memory it is as before. Nothing but its image file was to
-- be put at its name. Once this is done, a loss leaves that, to the byte.
pub record ClosesFlash (flash : FileFlashState) (old new : LineDeskState) (result : Result (Unit {0}) Stop)
    (config : Config) : Type 0 where
  pub left : FileFlashState
  pub put : Bool
  pub same : left.config ≡ config
  pub stays : left.memory ≡ flash.memory
  pub frozen : flash.failed ≡ true → left.failed ≡ true
  pub cause : left.failed ≡ true → 0 < left.faults
  pub fails : result ≡ Err stop.Fault → left.failed ≡ true
  pub done : OnOk result ((put ≡ true) × (left.failed ≡ false))
  pub spelled : OnOk result (IfSome left.file (LeavesSpelling left.config left.memory.image left.memory.extras))
  pub closed : (result ≡ Err stop.Memory → ⊥) → IsClosed left
  pub kept : IsLeft left
  pub leaves : new.told ≡ option_map (with_closed put left) old.told
  pub faults : new.faults ≡ old.faults
