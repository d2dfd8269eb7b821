-- A load changes nothing of the disk, and says what is there.
use Rattle.std.proofs.Common.{List, ℕ, Option, None, Some, Result, Ok, Err}
use Rattle.std.specs.Prelude.{Vec}
use Rattle.std.specs.Global.{Global}
use Rattle.durable_folder.specs.Causes.{AtNow}
use Rattle.durable_folder.specs.FolderState.{FolderState}
use Rattle.durable_folder.specs.Histories.{History, Rests}
use Rattle.durable_folder.proofs.Learning.{learns_rests}
use Rattle.desk_io.specs.Disk.{LoadsOnDisk}
use Rattle.desk_io.specs.declared.desk.LoadError.{LoadError}
use Rattle.desk_io.specs.declared.desk.LoadError.TheVariants as load

pub loads_rests : (name : List ℕ) (result : Result (Vec ℕ Global) LoadError) (a b : Option History) →
    LoadsOnDisk name result a b → Rests a b
loads_rests name (Ok loaded) a b loads = learns_rests _ a b loads
loads_rests name (Err load.Missing) a b loads = learns_rests _ a b loads
loads_rests name (Err load.TooLong) a b loads = learns_rests _ a b loads
loads_rests name (Err load.Failed) a b loads = loads
loads_rests name (Err load.Memory) a b loads = loads

-- what is there once nothing has changed was there before
pub there_before : (P : FolderState → Type 0) (a b : Option History) → Rests a b → AtNow P b → AtNow P a
there_before P None b rests now = tt
there_before P (Some h) None rests now = absurd rests.run
there_before P (Some h) (Some k) rests now = rw rests.run.4 at now
