-- What comes of the bytes of an image.
use Rattle.std.proofs.Common.{◌≡◌, inl, inr, ℕ, Bool, List, Option, Some, Result, Ok, Err, refl, sym, ap}
use Rattle.std.specs.Prelude.{IfOk, IfErr, Vec}
use Rattle.std.specs.Global.{Global}
use Rattle.std.specs.Result.{IsErrAnd}
use Rattle.tx_types.specs.declared.config.Config.{Config}
use Rattle.flash_model.specs.Flash.{Contents}
use Rattle.judged_records.specs.Notes.{notes_of}
use Rattle.durable_folder.specs.Histories.{History}
use Rattle.desk_io.specs.Desk as found
use Rattle.desk_io.specs.Desk.{DeskState, Finds, after_answer, as_before}
use Rattle.desk_io.specs.Disk.{FindsBoth}
use Rattle.program_base.specs.Loading.{Fetches, ImageStops}
use Rattle.program_base.specs.declared.stop.ImageStop.{ImageStop}
use Rattle.program_base.specs.declared.stop.ImageStop.TheVariants as stop
use Rattle.view_command_line.specs.Request.{Request}
use Rattle.view_command_line.specs.declared.words.Form.{Form}
use Rattle.view_command_line.specs.declared.opening.Opening.{Opening}
use Rattle.view_command_line.specs.Ending.{Drawn, Refused, Drawing, Gives, IsOpening, Opens, ending_of, marks_of, picture_in}
use Rattle.view_command_line.specs.Top.{Works}

-- what is drawn of an opening that may be drawn
pub opens_drawn : (form : Form) (unsound : Bool) (its : Config) (image : List Contents) (opened : Opening)
    (text : List ℕ) → IsOpening its image opened →
    ending_of form unsound its image opened ≡ Drawn form its image (marks_of opened) →
    text ≡ picture_in form its (notes_of its.protocol image) (marks_of opened) →
    Gives (Opens form unsound its image) text
opens_drawn form unsound its image opened text is drawn text_is =
    (Drawn form its image (marks_of opened), (opened, is, sym drawn), refl, text_is)

-- ---- the work of a call

-- a load gives no bytes
unfetched_by : (a : Request) (old new : DeskState) (disk : Option History) (e : ImageStop) →
    Fetches (FindsBoth old disk) old new a.image (Err e) →
    Works (Some a) old new (Err e)
unfetched_by a old new disk (stop.Refused refusal) (after, inl (none, is)) =
    ((found.Missing, none.0, ap Refused is), after)
unfetched_by a old new disk (stop.Refused refusal) (after, inr (much, is)) =
    ((found.TooLong, much.0, ap Refused is), after)
unfetched_by a old new disk stop.Fault fault = fault
unfetched_by a old new disk stop.Memory starved = inl starved

pub unfetched : (a : Request) (old new : DeskState) (disk : Option History) (e : ImageStop)
    (result : Result (Vec ℕ Global) ImageStop) →
    IsErrAnd result (λ x. x ≡ e) → Fetches (FindsBoth old disk) old new a.image (Err e) → Works (Some a) old new result
unfetched a old new disk e (Ok text) same fetches = absurd same
unfetched a old new disk e (Err x) same fetches = rw same (unfetched_by a old new disk e fetches)

-- it gives bytes, and the work comes to what they come to
pub fetched : (a : Request) (old new : DeskState) (bytes : List ℕ) (result : Result (Vec ℕ Global) ImageStop) →
    Finds old a.image (found.Bytes bytes) → new ≡ after_answer as_before old →
    IfOk result (λ text. Gives (Drawing a.form a.unsound bytes) text.items) →
    IfErr result (ImageStops (λ why. Drawing a.form a.unsound bytes (Refused why))) →
    Works (Some a) old new result
fetched a old new bytes (Ok text) finds after (ending, comes, done, said) none =
    ((ending, (found.Bytes bytes, finds, comes), done, said), after)
fetched a old new bytes (Err (stop.Refused refusal)) finds after none why = ((found.Bytes bytes, finds, why), after)
fetched a old new bytes (Err stop.Fault) finds after none fault = absurd fault
fetched a old new bytes (Err stop.Memory) finds after none starved = inr (bytes, finds, after)
