-- How the steps of the work end, and how the work stops before its end.
use Rattle.std.specs.Prelude.{◌≡◌, ◌⊎◌, ℕ, List, Option, Some, Result, Ok, Err}
use Rattle.std.specs.Option.{option_map}
use Rattle.tx_types.specs.declared.config.Config.{Config}
use Rattle.flash_model.specs.Flash.{Contents, Extras}
use Rattle.record_list.specs.declared.found.Breach.{Breach}
use Rattle.desk_io.specs.Desk.{DeskState, FileFound}
use Rattle.host_protocol.specs.declared.error.TextError.{TextError}
use Rattle.host_protocol.specs.declared.error.TextError.TheVariants as parse
use Rattle.cut_replay.specs.declared.serving.ServeError.{ServeError}
use Rattle.cut_replay.specs.declared.serving.ServeError.TheVariants as unserved
use Rattle.page_keys.specs.declared.key_error.KeyServeError.{KeyServeError}
use Rattle.page_keys.specs.declared.key_error.KeyServeError.TheVariants as keys_unserved
use Rattle.program_base.specs.Refusals.{Unsound, image_refused}
use Rattle.program_base.specs.declared.refusal.ImageRefusal.TheVariants as image_refusal
use Rattle.program_base.specs.declared.stop.ImageStop.{ImageStop}
use Rattle.program_base.specs.declared.stop.ImageStop.TheVariants as image
use Rattle.desk_tasks.specs.Ending.{Ending, Image, BadLine, BadBucket, BadConfiguration, BadAllowance, RefusedBlock, RefusedWorn, WrongLine, DifferShape, DifferBlank}
use Rattle.desk_tasks.specs.Ending.{DifferAt, status}
use Rattle.desk_tasks.specs.Gives.{OutputState, SavedFile, Gives}
use Rattle.desk_tasks.specs.KeyWork.{HoldsKeys, ParsesScript}
use Rattle.desk_tasks.specs.Retirements.{block_refusal}
use Rattle.desk_tasks.specs.Steps.{IsEnding, Parses, Opens}
use Rattle.desk_tasks.specs.Loads.{LoadFails, WorkRunsOut, after_loads}
use Rattle.desk_tasks.specs.Request.{Request}
use Rattle.desk_tasks.specs.declared.refusal.Refusal.{Refusal}
use Rattle.desk_tasks.specs.declared.refusal.Refusal.TheVariants as refusal
use Rattle.desk_tasks.specs.declared.output.Failure.{Failure}
use Rattle.desk_tasks.specs.declared.output.Failure.TheVariants as stop
use Rattle.desk_tasks.specs.declared.output.Text.{Text}
use Rattle.desk_tasks.specs.declared.output.Text.TheVariants as text
use Rattle.desk_tasks.specs.declared.output.File.{File}
use Rattle.desk_tasks.specs.declared.output.Output.{Output}

-- the ending that a refusal is
abbrev pub refused : Refusal → Ending
refused (refusal.Image why) = Image (image_refused why)
refused (refusal.BadLine n) = BadLine n
refused (refusal.BadBucket page) = BadBucket page
refused (refusal.BadConfiguration rule) = BadConfiguration rule
refused refusal.BadAllowance = BadAllowance
refused (refusal.NoBlock block) = RefusedBlock block
refused (refusal.Worn allowance) = RefusedWorn allowance
refused (refusal.WrongLine k) = WrongLine k
refused refusal.DifferShape = DifferShape
refused (refusal.DifferBlank page) = DifferBlank page
refused (refusal.DifferAt page at) = DifferAt page at

-- why work stops where work on an image file does
abbrev pub failure_of : ImageStop → Failure
failure_of (image.Refused why) = stop.Refused (refusal.Image why)
failure_of image.Fault = stop.Fault
failure_of image.Memory = stop.Memory

-- why it stops where a file has no commands, where an image is not sound, and where commands are not all served
abbrev pub lines_failure : TextError → Failure
lines_failure (parse.Line n) = stop.Refused (refusal.BadLine n)
lines_failure parse.Memory = stop.Memory

abbrev pub breach_failure : Breach → Failure
breach_failure breach = stop.Refused (refusal.Image (image_refusal.Unsound breach))

abbrev pub serving_failure : ServeError → Failure
serving_failure (unserved.Unsound law slot) = breach_failure (record { law = law; slot = slot })
serving_failure unserved.Memory = stop.Memory

abbrev pub key_serving_failure : KeyServeError → Failure
key_serving_failure (keys_unserved.Unsound law slot) = breach_failure (record { law = law; slot = slot })
key_serving_failure (keys_unserved.Bucket page) = stop.Refused (refusal.BadBucket page)
key_serving_failure keys_unserved.Memory = stop.Memory

-- the bytes of a text
abbrev pub bytes_of : Text → List ℕ
bytes_of (text.Replies lines) = lines
bytes_of (text.Other bytes) = bytes.items

abbrev pub file_saved : File → SavedFile
file_saved f = record { name = f.name.now; bytes = f.bytes.items }

-- what a product of the work stands for
abbrev pub output_of : Output → OutputState
output_of p = record { saved = option_map file_saved p.saved; text = bytes_of p.text }

-- this line of a command file is the first bad one
abbrev pub RefusesLine : ℕ → List ℕ → Ending → Type 0
RefusesLine page_bytes bytes ending = (n : ℕ) × Parses page_bytes bytes (Err n) × (ending ≡ BadLine n)

-- the image of a device breaks this law first
abbrev pub RefusesDevice : Config → List Contents → Ending → Type 0
RefusesDevice its image ending =
    (breach : Breach) × Opens its image (Err breach) × (ending ≡ Image (Unsound breach))

-- this line of a key script is the first bad one
abbrev pub RefusesScript : List ℕ → Ending → Type 0
RefusesScript bytes ending = (n : ℕ) × ParsesScript bytes (Err n) × (ending ≡ BadLine n)

-- the image of a device breaks this law first, or it is sound and this is its least page that is no bucket
abbrev pub RefusesStore : Config → List Contents → Ending → Type 0
RefusesStore its image ending =
    RefusesDevice its image ending
    ⊎ (Opens its image (Ok tt)
    × ((page : ℕ) × HoldsKeys its image (Err page) × (ending ≡ BadBucket page)))

-- the image of a device breaks this law first, or it is sound and the block is refused so
abbrev pub RefusesRetirement : Config → List Contents → Extras → ℕ → Ending → Type 0
RefusesRetirement its image extras block ending =
    RefusesDevice its image ending
    ⊎ (Opens its image (Ok tt) × (block_refusal its extras block ≡ Some ending))

-- a step that asks nothing of the desk is refused so, or memory runs out
abbrev pub StopsBy : (Ending → Type 0) → Failure → Type 0
StopsBy comes (stop.Refused refusal) = comes (refused refusal)
StopsBy comes stop.Fault = ⊥
StopsBy comes stop.Memory = Unit {0}

-- work that asks nothing of the desk is done: it comes to such an ending, with what it gives
abbrev pub WorksTo : (Ending → Type 0) → Result Output Failure → Type 0
WorksTo comes (Ok product) =
    (ending : Ending) × comes ending × (status ending ≡ 0) × Gives ending (output_of product)
WorksTo comes (Err stopped) = StopsBy comes stopped

-- an ending decides, by what is found at a name, and its loads were made
abbrev pub Comes : Option Request → (List ℕ → FileFound → Type 0) → DeskState → DeskState → Ending → Type 0
Comes task finds old new ending = (loads : ℕ) × IsEnding task finds ending loads × (new ≡ after_loads loads old)

-- the work for a task gives what its ending gives, or stops
abbrev pub Works : Option Request → (List ℕ → FileFound → Type 0) → DeskState → DeskState →
    Result Output Failure → Type 0
Works task finds old new (Ok product) =
    (ending : Ending) × Comes task finds old new ending × (status ending ≡ 0) × Gives ending (output_of product)
Works task finds old new (Err (stop.Refused refusal)) = Comes task finds old new (refused refusal)
Works task finds old new (Err stop.Fault) = LoadFails task old new
Works task finds old new (Err stop.Memory) = WorkRunsOut task old new
