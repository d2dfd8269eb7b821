-- How a file is loaded and read, and how that stops before its end.
use Rattle.std.specs.Prelude.{◌≡◌, ◌⊎◌, ℕ, List, Result, Ok, Err, IfOk, Vec}
use Rattle.std.specs.Global.{Global}
use Rattle.tx_types.specs.declared.config.Config.{Config}
use Rattle.flash_model.specs.Flash.{Contents, Extras}
use Rattle.image_file.specs.Rules.{reading}
use Rattle.image_file.specs.Spelling.{Spells}
use Rattle.image_file.specs.declared.error.ImageError.{ImageError}
use Rattle.desk_io.specs.Desk as found
use Rattle.desk_io.specs.Desk.{DeskState, FileFound, after_answer, after_fault, after_memory, as_before}
use Rattle.program_base.specs.Refusals.{ImageEnding, Missing, TooLong, BadImage, image_refused}
use Rattle.program_base.specs.declared.stop.ImageStop.{ImageStop}
use Rattle.program_base.specs.declared.stop.ImageStop.TheVariants as stop

-- the bytes are the spelling of this configuration, this image and these retired blocks, or this is
-- the first rule that they break
abbrev pub ReadsImage : List ℕ → Result (Config × List Contents × Extras) ImageError → Type 0
ReadsImage bytes read = (reading bytes ≡ read) × IfOk read (λ r. Spells bytes r.0 r.1 r.2)

-- the bytes of an image file break this rule first
abbrev pub RefusesImage : List ℕ → ImageEnding → Type 0
RefusesImage bytes why = (rule : ImageError) × ReadsImage bytes (Err rule) × (why ≡ BadImage rule)

-- work that asks nothing of the desk is refused so, or memory runs out
abbrev pub ImageStops : (ImageEnding → Type 0) → ImageStop → Type 0
ImageStops comes (stop.Refused refusal) = comes (image_refused refusal)
ImageStops comes stop.Fault = ⊥
ImageStops comes stop.Memory = Unit {0}

-- a load, by what is found at a name: its bytes are given, and a file that is missing or too long is refused
abbrev pub Fetches : (List ℕ → FileFound → Type 0) → DeskState → DeskState → List ℕ →
    Result (Vec ℕ Global) ImageStop → Type 0
Fetches finds old new name (Ok bytes) =
    finds name (found.Bytes bytes.items) × (new ≡ after_answer as_before old)
Fetches finds old new name (Err (stop.Refused refusal)) =
    (new ≡ after_answer as_before old)
    × ((finds name found.Missing × (image_refused refusal ≡ Missing name))
    ⊎ (finds name found.TooLong × (image_refused refusal ≡ TooLong name)))
Fetches finds old new name (Err stop.Fault) = new ≡ after_fault as_before old
Fetches finds old new name (Err stop.Memory) = new ≡ after_memory old
