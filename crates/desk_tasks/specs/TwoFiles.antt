-- The loading of an image file and of a file of text, one after the other.
use Rattle.std.specs.Prelude.{◌≡◌, ℕ, List, [], ◌∷◌, Result, Ok, Err, Vec}
use Rattle.std.specs.Global.{Global}
use Rattle.desk_io.specs.Desk as found
use Rattle.desk_io.specs.Desk.{DeskState, FileFound}
use Rattle.program_base.specs.Refusals.{image_refused}
use Rattle.program_base.specs.declared.stop.ImageStop.{ImageStop}
use Rattle.program_base.specs.declared.stop.ImageStop.TheVariants as stop
use Rattle.desk_tasks.specs.Ending.{Ending, Image}
use Rattle.desk_tasks.specs.Loads.{FailsIn, StarvesIn, after_loads}
use Rattle.desk_tasks.specs.Steps.{Loading, WithoutLoad}

-- both are loaded, and then comes what their bytes give
abbrev pub LoadingBoth : (List ℕ → FileFound → Type 0) → List ℕ → List ℕ → (List ℕ → List ℕ → Ending → Type 0) →
    Ending → ℕ → Type 0
LoadingBoth finds image text next =
    Loading finds image (λ bytes. Loading finds text (λ lines. WithoutLoad (next bytes lines)))

-- one of them is refused, whatever would come of their bytes
abbrev pub RefusesOne : (List ℕ → FileFound → Type 0) → List ℕ → List ℕ → Ending → ℕ → Type 0
RefusesOne finds image text = LoadingBoth finds image text (λ bytes lines ending. ⊥)

-- the loads of these files, of which some come to such an ending, stop before the last one gave bytes
abbrev pub LoadsStop : List (List ℕ) → (Ending → ℕ → Type 0) → DeskState → DeskState → ImageStop → Type 0
LoadsStop names comes old new (stop.Refused refusal) =
    (loads : ℕ) × comes (Image (image_refused refusal)) loads × (new ≡ after_loads loads old)
LoadsStop names comes old new stop.Fault = FailsIn names old new
LoadsStop names comes old new stop.Memory = StarvesIn names old new

-- the bytes of both are loaded, or their loads stop
abbrev pub LoadsBoth : (List ℕ → FileFound → Type 0) → DeskState → DeskState → List ℕ → List ℕ →
    Result (Vec ℕ Global × Vec ℕ Global) ImageStop → Type 0
LoadsBoth finds old new image text (Ok both) =
    finds image (found.Bytes both.0.items) × finds text (found.Bytes both.1.items) × (new ≡ after_loads 2 old)
LoadsBoth finds old new image text (Err stopped) =
    LoadsStop (image ∷ text ∷ []) (RefusesOne finds image text) old new stopped
