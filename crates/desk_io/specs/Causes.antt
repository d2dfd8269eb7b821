-- Why a call of a desk of the system's files fails.
use Rattle.std.specs.Prelude.{◌≡◌, ◌⊎◌, ℕ, List, Option, Result, Err}
use Rattle.durable_folder.specs.Causes.{AllTaken, AtNow, HasFailed, IsLater}
use Rattle.durable_folder.specs.FolderState.{target}
use Rattle.durable_folder.specs.Histories.{History, Learns}
use Rattle.durable_folder.specs.Locking.{IsStale}
use Rattle.desk_io.specs.Noted.{noted}
use Rattle.desk_io.specs.declared.desk.LoadError.{LoadError}
use Rattle.desk_io.specs.declared.desk.LoadError.TheVariants as load
use Rattle.desk_io.specs.declared.desk.SinkError.{SinkError}
use Rattle.desk_io.specs.declared.desk.SinkError.TheVariants as sink
use Rattle.desk_io.specs.declared.findings.Findings.{Findings}

-- A load that failed met a fault of the system.
abbrev pub LoadHasCause : {T : Type 0} → Result T LoadError → Option History → Option History → Type 0
LoadHasCause result a b = result ≡ Err load.Failed → HasFailed a b

-- A save fails where the system met a fault or another program holds the file, where all names for a new file were
-- taken, or where the file is not as it was when it was loaded.
abbrev pub FailsWithCause : Findings → List ℕ → Result (Unit {0}) SinkError → Option History → Option History → Type 0
FailsWithCause findings name result a b =
    IsLater a b ×
    (result ≡ Err sink.Failed →
    HasFailed a b ⊎
    (AtNow (λ s. AllTaken (target s name) s) a ⊎ Learns (IsStale (noted findings name) name) a b))
