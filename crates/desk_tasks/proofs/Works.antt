-- How the work of a task ends, from its parts.
use Rattle.desk_tasks.proofs.Common.{◌≡◌, inl, inr, ℕ, suc, ◌<◌, List, [], ◌∷◌, length, take, Option, None, Some, Result, Ok, Err, refl, ap, ◌∙◌, All, Config, Contents, Extras, after_answer, as_before, Ending, Image, Reading}
use Rattle.std.specs.Prelude.{IfErr, IfSome}
use Rattle.std.specs.Option.{option_map}
use Rattle.std.specs.Result.{IsErrAnd}
use Rattle.std.proofs.lemmas.List.Elements.{All-cons, All-nil}
use Rattle.durable_folder.specs.Histories.{History, Rests}
use Rattle.desk_io.specs.Desk as found
use Rattle.desk_io.specs.Desk.{DeskContents, DeskState, FileFound, Finds, after_memory, called, file_at, file_found}
use Rattle.desk_io.specs.Disk.{FindsBoth, IsThere}
use Rattle.desk_io.proofs.Resting.{there_before}
use Rattle.host_protocol.specs.Reading.{EndsAt}
use Rattle.host_protocol.specs.declared.error.TextError.{TextError}
use Rattle.host_protocol.specs.declared.error.TextError.TheVariants as parse
use Rattle.program_base.specs.Loading.{Fetches, ImageStops, RefusesImage}
use Rattle.program_base.specs.Refusals.{ImageEnding, Missing, TooLong, image_refused}
use Rattle.program_base.specs.declared.stop.ImageStop.{ImageStop}
use Rattle.program_base.specs.declared.stop.ImageStop.TheVariants as image
use Rattle.desk_tasks.specs.Steps.{IsEnding}
use Rattle.desk_tasks.specs.Stops.{RefusesLine, StopsBy, Works, WorksTo, refused, failure_of, lines_failure}
use Rattle.desk_tasks.specs.Loads.{CameThrough, FindsBytes, after_loads}
use Rattle.desk_tasks.specs.TwoFiles.{LoadsStop}
use Rattle.desk_tasks.specs.Request.{Request, IsWorkedAfter, files_of}
use Rattle.desk_tasks.specs.declared.output.Output.{Output}
use Rattle.desk_tasks.specs.declared.output.Failure.{Failure}
use Rattle.desk_tasks.specs.declared.output.Failure.TheVariants as stop

-- a step that is refused in one way is refused in another
pub stops_by : (P Q : Ending → Type 0) → ((ending : Ending) → P ending → Q ending) → (stopped : Failure) →
    StopsBy P stopped → StopsBy Q stopped
stops_by P Q leads (stop.Refused refusal) h = leads (refused refusal) h
stops_by P Q leads stop.Fault h = h
stops_by P Q leads stop.Memory h = h

-- work that comes to an ending in one way comes to it in another
pub works_on : (P Q : Ending → Type 0) → ((ending : Ending) → P ending → Q ending) → (result : Result Output Failure) →
    WorksTo P result → WorksTo Q result
works_on P Q leads (Ok product) h = (h.0, leads h.0 h.1, h.2, h.3)
works_on P Q leads (Err stopped) h = stops_by P Q leads stopped h

-- the work stops where a step does
pub stopped : (P Q : Ending → Type 0) (result : Result Output Failure) (e : Failure) → IsErrAnd result (λ x. x ≡ e) →
    ((ending : Ending) → P ending → Q ending) → StopsBy P e → WorksTo Q result
stopped P Q (Ok product) e same leads h = absurd same
stopped P Q (Err x) e same leads h = stops_by P Q leads x (rw same h)

-- what nothing refuses stops only where memory runs out
pub only_memory : (P : Ending → Type 0) → ((ending : Ending) → P ending → ⊥) → (stopped : Failure) → StopsBy P stopped →
    stopped ≡ stop.Memory
only_memory P never (stop.Refused refusal) h = absurd (never (refused refusal) h)
only_memory P never stop.Fault h = absurd h
only_memory P never stop.Memory h = refl

-- and so does what stops with it
pub memory_alone : {T : Type 0} → (result : Result T Failure) (e : Failure) → IsErrAnd result (λ x. x ≡ e) →
    e ≡ stop.Memory →
    IfErr result (λ x. x ≡ stop.Memory)
memory_alone (Ok done) e same memory = absurd same
memory_alone (Err x) e same memory = same ∙ memory

pub out_of_memory : (Q : Ending → Type 0) (result : Result Output Failure) (e : Failure) →
    IsErrAnd result (λ x. x ≡ e) →
    e ≡ stop.Memory → WorksTo Q result
out_of_memory Q (Ok product) e same memory = absurd same
out_of_memory Q (Err x) e same memory = rw (same, memory) tt

pub memory_stops : {T : Type 0} → (P : Ending → Type 0) (result : Result T Failure) →
    IfErr result (λ e. e ≡ stop.Memory) → IfErr result (StopsBy P)
memory_stops P (Ok done) h = h
memory_stops P (Err x) h = rw h tt

-- so is what stops where reading an image does
image_stops_by : (P : ImageEnding → Type 0) (Q : Ending → Type 0) → ((why : ImageEnding) → P why → Q (Image why)) →
    (stopped : ImageStop) →
    ImageStops P stopped → StopsBy Q (failure_of stopped)
image_stops_by P Q leads (image.Refused refusal) h = leads (image_refused refusal) h
image_stops_by P Q leads image.Fault h = h
image_stops_by P Q leads image.Memory h = h

pub unread : (P : ImageEnding → Type 0) (Q : Ending → Type 0) (result : Result Output Failure) (e : ImageStop) →
    IsErrAnd result (λ x. x ≡ failure_of e) →
    ((why : ImageEnding) → P why → Q (Image why)) → ImageStops P e → WorksTo Q result
unread P Q (Ok product) e same leads h = absurd same
unread P Q (Err x) e same leads h = rw same (image_stops_by P Q leads e h)

-- the work on the bytes of an image stops where reading them does
pub unread_image : (bytes : List ℕ) (next : Config → List Contents → Extras → Ending → Type 0)
    (result : Result Output Failure) (e : ImageStop) →
    IsErrAnd result (λ x. x ≡ failure_of e) → ImageStops (RefusesImage bytes) e → WorksTo (Reading bytes next) result
unread_image bytes next result e same h =
    unread (RefusesImage bytes) (Reading bytes next) result e same
    (λ why refuses. (Err refuses.0, refuses.1, (ap Image refuses.2, refl))) h

-- and what asks for commands stops where a file has none
pub unparsed : {T : Type 0} → (size : ℕ) (bytes : List ℕ) (result : Result T Failure) (e : TextError) →
    IsErrAnd result (λ x. x ≡ lines_failure e) → EndsAt size bytes e → IfErr result (StopsBy (RefusesLine size bytes))
unparsed size bytes (Ok list) e same h = absurd same
unparsed size bytes (Err x) (parse.Line n) same h = rw same (n, h, refl)
unparsed size bytes (Err x) parse.Memory same h = rw same tt

-- after its loads, the work of a task comes to what its last part comes to
pub works : (task : Option Request) (finds : List ℕ → FileFound → Type 0) (old new : DeskState) (n : ℕ)
    (comes : Ending → Type 0)
    (result : Result Output Failure) →
    new ≡ after_loads n old → IsWorkedAfter task n → CameThrough task old n →
    ((ending : Ending) → comes ending → IsEnding task finds ending n) → WorksTo comes result →
    Works task finds old new result
works task finds old new n comes (Ok product) loaded all came leads h = (h.0, (n, leads h.0 h.1, loaded), h.2, h.3)
works task finds old new n comes (Err (stop.Refused refusal)) loaded all came leads h =
    (n, leads (refused refusal) h, loaded)
works task finds old new n comes (Err stop.Fault) loaded all came leads h = absurd h
works task finds old new n comes (Err stop.Memory) loaded all came leads h =
    inr (n, all, came, loaded)

-- loads stop where one gives no bytes
pub stopped_at : (names : List (List ℕ)) (comes : Ending → ℕ → Type 0) (here : List ℕ → FileFound → Type 0)
    (old mid new : DeskState) (n : ℕ)
    (name : List ℕ) (stopped : ImageStop) →
    mid ≡ after_loads n old → n < length names → All (FindsBytes old) (take n names) →
    (here name found.Missing → comes (Image (Missing name)) (suc n)) →
    (here name found.TooLong → comes (Image (TooLong name)) (suc n)) →
    Fetches here mid new name (Err stopped) → LoadsStop names comes old new stopped
stopped_at names comes here old mid new n name (image.Refused refusal) loaded most came missing long h =
    let after : new ≡ after_loads (suc n) old = h.0 ∙ ap (after_answer as_before) loaded in
    elim h.1 [
      | inl none ↦ (suc n, rw none.1 (missing none.0), after)
      | inr much ↦ (suc n, rw much.1 (long much.0), after)
    ]
stopped_at names comes here old mid new n name image.Fault loaded most came missing long h =
    (n, most, came, rw (← loaded) h)
stopped_at names comes here old mid new n name image.Memory loaded most came missing long h =
    (n, most, came, h ∙ ap after_memory loaded)

-- the work of a task ends where its loads stop
unloaded_by : (task : Option Request) (finds : List ℕ → FileFound → Type 0) (old new : DeskState)
    (stopped : ImageStop) → LoadsStop (files_of task) (IsEnding task finds) old new stopped →
    Works task finds old new (Err (failure_of stopped))
unloaded_by task finds old new (image.Refused refusal) h = h
unloaded_by task finds old new image.Fault h = h
unloaded_by task finds old new image.Memory h = inl h

pub unloaded : (task : Option Request) (finds : List ℕ → FileFound → Type 0) (old new : DeskState)
    (stopped : ImageStop) (result : Result Output Failure) →
    IsErrAnd result (λ x. x ≡ failure_of stopped) →
    LoadsStop (files_of task) (IsEnding task finds) old new stopped → Works task finds old new result
unloaded task finds old new stopped (Ok product) same h = absurd same
unloaded task finds old new stopped (Err x) same h = rw same (unloaded_by task finds old new stopped h)

-- so it ends where one of them gives no bytes
pub unfetched : (task : Option Request) (finds here : List ℕ → FileFound → Type 0) (old mid new : DeskState) (n : ℕ)
    (name : List ℕ) (stopped : ImageStop)
    (result : Result Output Failure) →
    IsErrAnd result (λ x. x ≡ failure_of stopped) → mid ≡ after_loads n old → n < length (files_of task) →
    CameThrough task old n →
    (here name found.Missing → IsEnding task finds (Image (Missing name)) (suc n)) →
    (here name found.TooLong → IsEnding task finds (Image (TooLong name)) (suc n)) →
    Fetches here mid new name (Err stopped) → Works task finds old new result
unfetched task finds here old mid new n name stopped result same loaded most came missing long h =
    unloaded task finds old new stopped result same
    (stopped_at (files_of task) (IsEnding task finds) here old mid new n name stopped loaded most came missing long h)

-- a load changes no file
found_before : (told : Option DeskContents) (name : List ℕ) (found : FileFound) →
    IfSome (option_map (called as_before) told) (λ c. file_found (file_at c.files name) ≡ found) →
    IfSome told (λ c. file_found (file_at c.files name) ≡ found)
found_before None name found h = h
found_before (Some c) name found h = h

-- what is found after a load was there before it
pub finds_before : (old mid : DeskState) (before after : Option History) (name : List ℕ) (found : FileFound) →
    mid ≡ after_answer as_before old →
    Rests before after → FindsBoth mid after name found → FindsBoth old before name found
finds_before old mid before after name found e rests h =
    let now : Finds (after_answer as_before old) name found = rw e at h.0 in
    ((now.0, found_before old.told name found now.1), there_before (IsThere name found) before after rests h.1)

-- ---- the loads that found bytes

pub found_none : (desk : DeskState) → All (FindsBytes desk) []
found_none desk = All-nil (FindsBytes desk)

pub found_more : (desk : DeskState) (name bytes : List ℕ) (names : List (List ℕ)) →
    Finds desk name (found.Bytes bytes) →
    All (FindsBytes desk) names → All (FindsBytes desk) (name ∷ names)
found_more desk name bytes names finds rest = All-cons (FindsBytes desk) name names (bytes, finds) rest
