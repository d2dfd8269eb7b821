-- What a load of a file gives.
use Rattle.std.proofs.Common.{◌≡◌, inl, inr, ℕ, List, Option, Result, Ok, Err}
use Rattle.std.specs.Prelude.{Vec}
use Rattle.std.specs.Global.{Global}
use Rattle.durable_folder.specs.Histories.{History}
use Rattle.durable_folder.proofs.Learning.{learned_now}
use Rattle.desk_io.specs.Desk.{DeskState, Loads}
use Rattle.desk_io.specs.Disk.{FindsBoth, LoadsOnDisk}
use Rattle.desk_io.specs.declared.desk.LoadError.{LoadError}
use Rattle.desk_io.specs.declared.desk.LoadError.TheVariants as load
use Rattle.program_base.specs.Loading.{Fetches}
use Rattle.program_base.specs.Refusals.{Missing, TooLong, image_refused}
use Rattle.program_base.specs.declared.stop.ImageStop.{ImageStop}
use Rattle.program_base.specs.declared.stop.ImageStop.TheVariants as stop

-- why it stops, by the desk's error
abbrev pub StopsFor : List ℕ → LoadError → ImageStop → Type 0
StopsFor name load.Missing (stop.Refused refusal) = image_refused refusal ≡ Missing name
StopsFor name load.TooLong (stop.Refused refusal) = image_refused refusal ≡ TooLong name
StopsFor name load.Failed stopped = stopped ≡ stop.Fault
StopsFor name load.Memory stopped = stopped ≡ stop.Memory
StopsFor name _ _ = ⊥

-- what the desk's answer is made
abbrev pub Becomes : List ℕ → Result (Vec ℕ Global) LoadError → Result (Vec ℕ Global) ImageStop → Type 0
Becomes name (Ok loaded) result = result ≡ Ok loaded
Becomes name (Err error) (Err stopped) = StopsFor name error stopped
Becomes name (Err error) (Ok bytes) = ⊥

stopped_so : (name : List ℕ) (error : LoadError) (stopped : ImageStop) (old new : DeskState) (a b : Option History) →
    Loads old new name (Err error) →
    LoadsOnDisk name (Err error) a b → StopsFor name error stopped →
    Fetches (FindsBoth old a) old new name (Err stopped)
stopped_so name load.Missing (stop.Refused refusal) old new a b loads disk is =
    (loads.1, inl ((loads.0, learned_now _ a b disk), is))
stopped_so name load.TooLong (stop.Refused refusal) old new a b loads disk is =
    (loads.1, inr ((loads.0, learned_now _ a b disk), is))
stopped_so name load.Failed stopped old new a b loads disk is = rw is loads
stopped_so name load.Memory stopped old new a b loads disk is = rw is loads
stopped_so name load.Missing stop.Fault old new a b loads disk is = absurd is
stopped_so name load.Missing stop.Memory old new a b loads disk is = absurd is
stopped_so name load.TooLong stop.Fault old new a b loads disk is = absurd is
stopped_so name load.TooLong stop.Memory old new a b loads disk is = absurd is

pub fetched : (name : List ℕ) (loaded : Result (Vec ℕ Global) LoadError) (result : Result (Vec ℕ Global) ImageStop)
    (old new : DeskState) (a b : Option History) →
    Loads old new name loaded → LoadsOnDisk name loaded a b → Becomes name loaded result →
    Fetches (FindsBoth old a) old new name result
fetched name (Ok loaded) result old new a b loads disk is = rw is ((loads.0, learned_now _ a b disk), loads.1)
fetched name (Err error) (Ok bytes) old new a b loads disk is = absurd is
fetched name (Err error) (Err stopped) old new a b loads disk is =
    stopped_so name error stopped old new a b loads disk is
