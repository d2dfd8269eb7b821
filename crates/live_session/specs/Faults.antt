-- Why a call ends with status 5: what failed.
use Rattle.std.specs.Prelude.{◌≡◌, ◌⊎◌, ◌<◌, ℕ, Bool, true, false, List, [], Option, Some, IfSome, OnSome}
use Rattle.tx_types.specs.declared.config.Config.{Config}
use Rattle.flash_model.specs.Flash.{FlashState}
use Rattle.host_protocol.specs.declared.command.Command.{Command}
use Rattle.host_protocol.specs.declared.reply.Reply.{Reply}
use Rattle.mounted_session.specs.Sessions.{is_mounted}
use Rattle.cut_replay.specs.FlashRun.{Point}
use Rattle.cut_replay.specs.ServerRuns.{IsServed}
use Rattle.cut_replay.specs.Sessions.{flash_in}
use Rattle.desk_io.specs.Desk.{Rose, counted}
use Rattle.file_flash.specs.FileFlashState.{FileFlashState}
use Rattle.live_session.specs.declared.answering.Stop.{Stop}
use Rattle.live_session.specs.declared.answering.Stop.TheVariants as stop
use Rattle.live_session.specs.Endings.{LiveEnding, Refused, BadCount, InUse, Fault}
use Rattle.live_session.specs.Hearing.{FileSession}
use Rattle.live_session.specs.LineDesk.{BothTell, DeskTold, LineDeskState}
use Rattle.live_session.specs.Opening.{OpensFile}
use Rattle.live_session.specs.Saying.{with_closed}
use Rattle.live_session.specs.Talks.{shown}

-- this is so where a fault stopped a session
abbrev pub WhereFault : Type 0 → Stop → Type 0
WhereFault P stop.Fault = P
WhereFault P stop.Memory = Unit {0}

-- Where a fault ended it, the first is so, and where the file was refused or is in use the second.
abbrev pub WhereFailed : (P Q : Type 0) → LiveEnding → Type 0
WhereFailed P Q Fault = P
WhereFailed P Q (Refused why) = Q
WhereFailed P Q (BadCount at) = Q
WhereFailed P Q InUse = Q
WhereFailed P Q _ = Unit {0}

-- no run leads to this session
abbrev pub IsUnserved : Config → FileSession → Type 0
IsUnserved its s =
    (init : FlashState) → (cs : List Command) → (rs : List Reply) → (ps : List Point) →
    IsServed shown its init cs rs ps s → ⊥

-- none begins with it
abbrev pub IsUnstarted : Config → FileSession → Type 0
IsUnstarted its s = (init : FlashState) → IsServed shown its init [] [] [] s → ⊥

-- A command was stopped by a fault: of the desk, which is counted, or of the file; on a session of a run by no other.
abbrev pub FaultsCommand : Config → (before now : LineDeskState) → (old new : FileSession) → Type 0
FaultsCommand its before now old new =
    (now.faults ≡ counted before.faults) ⊎ (((flash_in new).failed ≡ true) ⊎ IsUnserved its old)

-- And the lines were: or the flash is not mounted, and nothing was done.
abbrev pub FaultsLines : Config → (before now : LineDeskState) → (old new : FileSession) → Type 0
FaultsLines its before now old new =
    (now.faults ≡ counted before.faults)
    ⊎ (((flash_in new).failed ≡ true)
    ⊎ (((is_mounted old ≡ false) × (now ≡ before) × (new ≡ old))
    ⊎ ((is_mounted old ≡ true) × OnSome before.told (IsUnstarted its old))))

-- the file of a flash has failed, and a call of it did
abbrev pub HasFailed : FileFlashState → Type 0
HasFailed flash = (flash.failed ≡ true) × (0 < flash.faults)

-- Why it is that the flash of a session is left so after a fault: its file failed, or it was not mounted, or it has
-- another configuration.
abbrev pub FaultsLeft : Config → (before now : Option DeskTold) → FileSession → FileFlashState → Type 0
FaultsLeft its before now s left =
    HasFailed left ⊎ ((left.config ≡ its → ⊥)
    ⊎ (((is_mounted s ≡ false) × ((put : Bool) × BothTell (λ a b. b ≡ with_closed put left a) before now)
    × (left.memory ≡ (flash_in s).memory))
    ⊎ ((is_mounted s ≡ true) × OnSome before (IsUnstarted its s))))

-- the lines were answered and the file was closed, with a fault
abbrev pub FaultsClosing : Config → (before now : LineDeskState) → FileSession → Type 0
FaultsClosing its before now s =
    (now.faults ≡ counted before.faults)
    ⊎ ((left : FileFlashState) × IfSome now.told (λ b. b.left ≡ Some left)
    × FaultsLeft its before.told now.told s left)

-- The file of the flash that is left has failed, or that flash has another configuration; or a read of it met a fault
-- when it was mounted, and nothing was read of the input.
abbrev pub FailsFlash : FileFlashState → DeskTold → DeskTold → Type 0
FailsFlash flash a b =
    (left : FileFlashState) × (b.left ≡ Some left)
    × (HasFailed left ⊎ ((left.config ≡ flash.config → ⊥)
    ⊎ ((b.input ≡ a.input) × (flash.memory.live ≡ true → Rose flash.memory.faults left.memory.faults))))

-- a session on a flash ended with a fault: of the desk, or of its file
abbrev pub FaultsSession : FileFlashState → (before now : LineDeskState) → Type 0
FaultsSession flash before now =
    (now.faults ≡ counted before.faults) ⊎ BothTell (FailsFlash flash) before.told now.told

-- Nothing was read of the input, and no flash was left, since the file that the words name could not be opened, which
-- no store tells; or a session on its flash failed.
abbrev pub FailsFile : Option (List ℕ) → DeskTold → DeskTold → Type 0
FailsFile name a b =
    (path : List ℕ) × (name ≡ Some path)
    × (((b.input ≡ a.input) × (b.left ≡ a.left))
    ⊎ ((flash : FileFlashState) × OpensFile path flash a × FailsFlash flash a b))

-- A call of the desk failed, or one of the file.
abbrev pub IsFaulted : Option (List ℕ) → LineDeskState → LineDeskState → Type 0
IsFaulted name old new = Rose old.faults new.faults ⊎ BothTell (FailsFile name) old.told new.told
