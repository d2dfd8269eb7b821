-- How a call of the program ends.
use Rattle.std.proofs.Common.{◌≡◌, ◌≢◌, inl, inr, ℕ, Bool, true, false, cond, List, ◌++◌, Option, None, Some, Result, Ok, Err, refl, sym, ap, ap₂, ◌∙◌, subst, arith}
use Rattle.std.specs.Prelude.{IfOk, String, string_bytes}
use Rattle.std.specs.Global.{Global}
use Rattle.std.specs.declared.alloc.AllocError.{AllocError}
use Rattle.tx_types.specs.declared.config.Config.{Config}
use Rattle.tx_types.specs.declared.config.Protocol.{Protocol}
use Rattle.tx_types.specs.declared.config.Protocol.TheVariants.{Scc, Bpcc}
use Rattle.judged_records.specs.declared.note.Note.{Note}
use Rattle.flash_picture.specs.declared.marks.Marks.{Marks}
use Rattle.flash_picture.specs.Picture.{picture, heading, cells_of, breach_line}
use Rattle.flash_picture.specs.Map.{map_text}
use Rattle.flash_picture.specs.Overview.{counts_text, rows_text}
use Rattle.flash_picture.specs.OverviewSvg.{overview}
use Rattle.flash_picture.specs.Selection.{selected, selected_lines, selected_walks}
use Rattle.flash_picture.specs.declared.selection.Selection.{Selection}
use Rattle.flash_picture.specs.Svg.{above, svg}
use Rattle.flash_picture.specs.Walks.{walks_text}
use Rattle.tx_types.specs.Config.{shape_of}
use Rattle.judged_records.specs.Notes.{found_in, notes_of}
use Rattle.desk_io.specs.Desk.{DeskState, Rose, after_answer, as_before, counted, with_said}
use Rattle.desk_io.specs.declared.desk.SinkError.{SinkError}
use Rattle.desk_io.specs.declared.desk.SinkError.TheVariants as sink
use Rattle.program_base.specs.Refusals.{ImageEnding, image_line, image_status}
use Rattle.program_base.specs.Saying.{Refuses, Speaks, TextStops, after_text, files_in}
use Rattle.program_base.proofs.Refusing.{line_said, never_done, never_fault}
use Rattle.program_base.proofs.Spoken.{faults_tried, files_asked, files_said, files_tried, same_files}
use Rattle.view_command_line.specs.Request.{Request}
use Rattle.view_command_line.specs.Ending.{Ending, Drawn, IsEnding, Refused, is_large, said, status}
use Rattle.view_command_line.specs.declared.words.Form.TheVariants.{Text, Svg, Selected}
use Rattle.view_command_line.specs.Top.{CallFails, EndsCall, Decided, Faulted, Starved, LoadFails, SayStops, WorkRunsOut, after_load}

-- ---- what is said

-- a picture begins with the word of its protocol
picture_said : (its : Config) (notes : List Note) (marks : Marks) (desk : DeskState) →
    after_text (picture its notes marks) desk ≡ after_answer (with_said (picture its notes marks)) desk
unfolding picture
picture_said its notes marks desk = by_protocol its.protocol
  where
    by_protocol : (protocol : Protocol) →
        after_text (heading (record its { protocol = protocol }) ++ map_text (shape_of its) (cells_of its notes) marks
        ++ walks_text its.protocol
        (found_in notes) its.logical ++ breach_line marks.breach) desk
        ≡ after_answer (with_said (heading (record its { protocol = protocol })
        ++ map_text (shape_of its) (cells_of its notes) marks ++ walks_text its.protocol
        (found_in notes) its.logical ++ breach_line marks.breach)) desk
    by_protocol Scc = refl
    by_protocol Bpcc = refl

-- one in SVG with its tag
svg_said : (its : Config) (notes : List Note) (marks : Marks) (desk : DeskState) →
    after_text (svg its notes marks) desk ≡ after_answer (with_said (svg its notes marks)) desk
unfolding svg above
svg_said its notes marks desk = refl

-- an overview begins as a picture does
overview_said : (its : Config) (notes : List Note) (marks : Marks) (desk : DeskState) →
    after_text (overview false its notes marks) desk ≡ after_answer (with_said (overview false its notes marks)) desk
unfolding overview
overview_said its notes marks desk = by_protocol its.protocol
  where
    by_protocol : (protocol : Protocol) →
        after_text (heading (record its { protocol = protocol }) ++ rows_text (shape_of its) (cells_of its notes) marks
        ++ counts_text (shape_of its) (cells_of its notes) ++ walks_text its.protocol (found_in notes) its.logical
        ++ breach_line marks.breach) desk
        ≡ after_answer (with_said (heading (record its { protocol = protocol })
        ++ rows_text (shape_of its) (cells_of its notes) marks ++ counts_text (shape_of its) (cells_of its notes)
        ++ walks_text its.protocol (found_in notes) its.logical ++ breach_line marks.breach)) desk
    by_protocol Scc = refl
    by_protocol Bpcc = refl

overview_svg_said : (its : Config) (notes : List Note) (marks : Marks) (desk : DeskState) →
    after_text (overview true its notes marks) desk ≡ after_answer (with_said (overview true its notes marks)) desk
unfolding overview
overview_svg_said its notes marks desk = refl

-- either of two texts is said whole
either_said : (large : Bool) (a b : List ℕ) (desk : DeskState) →
    after_text a desk ≡ after_answer (with_said a) desk → after_text b desk ≡ after_answer (with_said b) desk →
    after_text (cond large a b) desk ≡ after_answer (with_said (cond large a b)) desk
either_said true a b desk one other = one
either_said false a b desk one other = other

-- what is said of a selection begins as a picture does
selected_said : (its : Config) (notes : List Note) (marks : Marks) (selection : Selection) (desk : DeskState) →
    after_text (selected its notes marks selection) desk
    ≡ after_answer (with_said (selected its notes marks selection)) desk
unfolding selected
selected_said its notes marks selection desk = by_protocol its.protocol
  where
    by_protocol : (protocol : Protocol) →
        after_text (heading (record its { protocol = protocol })
        ++ selected_lines (shape_of its) (cells_of its notes) marks selection
        ++ selected_walks its.protocol (found_in notes) its.logical selection
        ++ breach_line marks.breach) desk
        ≡ after_answer (with_said (heading (record its { protocol = protocol })
        ++ selected_lines (shape_of its) (cells_of its notes) marks selection
        ++ selected_walks its.protocol (found_in notes) its.logical selection
        ++ breach_line marks.breach)) desk
    by_protocol Scc = refl
    by_protocol Bpcc = refl

-- each ending has a text
said_whole : (ending : Ending) (desk : DeskState) → after_text (said ending) desk
    ≡ after_answer (with_said (said ending)) desk
said_whole (Drawn Text its image marks) desk =
    let notes = notes_of its.protocol image in
    either_said (is_large its) (overview false its notes marks) (picture its notes marks) desk
    (overview_said its notes marks desk) (picture_said its notes marks desk)
said_whole (Drawn Svg its image marks) desk =
    let notes = notes_of its.protocol image in
    either_said (is_large its) (overview true its notes marks) (svg its notes marks) desk
    (overview_svg_said its notes marks desk) (svg_said its notes marks desk)
said_whole (Drawn (Selected selection) its image marks) desk = selected_said its _ marks selection desk
said_whole (Refused why) desk = line_said why desk

-- ---- the end

-- the text of an ending stops where the saying of it does
say_stops : (error : SinkError) (task : Option Request) (old mid new : DeskState) (ending : Ending) (text : List ℕ) →
    IsEnding task old ending →
    mid ≡ after_load task old → text ≡ said ending → TextStops error text mid new → SayStops error task old new
say_stops error task old mid new ending text is loaded text_is stops = (
  ending,
  is,
  subst (λ t. TextStops error t (after_load task old) new) text_is
      (subst (λ d. TextStops error text d new) loaded stops),
)

-- after a load, what is decided is said
pub ends : (task : Option Request) (old mid new : DeskState) (ending : Ending) (text : List ℕ) (wanted answer : ℕ) →
    IsEnding task old ending → mid ≡ after_load task old → text ≡ said ending → wanted ≡ status ending →
    Speaks mid new text wanted answer → EndsCall task old new answer
ends task old mid new ending text wanted answer is loaded text_is wanted_is (inl (same, after)) =
    Decided ending is (same ∙ wanted_is)
    (after ∙ ap₂ after_text text_is loaded ∙ said_whole ending (after_load task old))
ends task old mid new ending text wanted answer is loaded text_is wanted_is (inr (inl (failed, stops, told))) =
    Faulted told.0 (failed, inr (say_stops sink.Failed task old mid failed ending text is loaded text_is stops), told.1)
ends task old mid new ending text wanted answer is loaded text_is wanted_is (inr (inr (starved, stops, told))) =
    Starved told.0 (
      starved,
      inr (inr (say_stops sink.Memory task old mid starved ending text is loaded text_is stops)),
      told.1,
    )

-- so is a refusal, where there is memory for its line
pub ends_refused : (task : Option Request) (old mid new : DeskState) (why : ImageEnding)
    (line : Result (String Global) AllocError) (wanted answer : ℕ) →
    IsEnding task old (Refused why) → mid ≡ after_load task old → IfOk line (λ l. string_bytes l ≡ image_line why) →
    wanted ≡ image_status why →
    Refuses mid new line wanted answer → EndsCall task old new answer
ends_refused task old mid new why (Ok text) wanted answer is loaded text_is wanted_is speaks =
    ends task old mid new (Refused why) (string_bytes text) wanted answer is loaded text_is wanted_is speaks
ends_refused task old mid new why (Err none) wanted answer is loaded text_is wanted_is told =
    Starved told.0 (mid, inr (inl (Refused why, is, never_done why, loaded)), told.1)

-- ---- a status for a fault

faults_loaded : (task : Option Request) (desk : DeskState) → (after_load task desk).faults ≡ desk.faults
faults_loaded None desk = refl
faults_loaded (Some a) desk = refl

call_failed : (task : Option Request) (old mid : DeskState) → CallFails task old mid → mid.faults ≡ counted old.faults
call_failed None old mid (inl fails) = absurd fails
call_failed (Some a) old mid (inl fails) = ap (λ (d : DeskState). d.faults) fails
call_failed task old mid (inr (ending, is, stops)) = ap (λ (d : DeskState). d.faults) stops.1.1
    ∙ ap counted (faults_loaded task old)

no_fault : (ending : Ending) → 5 ≢ status ending
no_fault (Drawn form its image marks) e = absurd (omega arith)
no_fault (Refused why) e = never_fault why e

-- the count of faults rose where the status is that of a fault
pub only_fault : (task : Option Request) (old new : DeskState) (answer : ℕ) → EndsCall task old new answer →
    answer ≡ 5 → Rose old.faults new.faults
only_fault task old new answer (Decided ending is gives after) five = absurd (no_fault ending (sym five ∙ gives))
only_fault task old new answer (Faulted five_is (mid, fails, tried)) five =
    faults_tried old.faults mid new _ (call_failed task old mid fails) tried
only_fault task old new answer (Starved six starved) five = absurd (omega arith)

-- ---- no file changes

files_loaded : (task : Option Request) (old : DeskState) → files_in (after_load task old) ≡ files_in old
files_loaded None old = refl
files_loaded (Some a) old = same_files as_before old.told (λ c. refl)

files_failed : (task : Option Request) (old mid : DeskState) → LoadFails task old mid → files_in mid ≡ files_in old
files_failed None old mid fails = absurd fails
files_failed (Some a) old mid fails = ap files_in fails ∙ same_files as_before old.told (λ c. refl)

files_ran_out : (task : Option Request) (old mid : DeskState) → WorkRunsOut task old mid → files_in mid ≡ files_in old
files_ran_out None old mid runs_out = absurd runs_out
files_ran_out (Some a) old mid (inl starved) = ap files_in starved ∙ files_asked old
files_ran_out (Some a) old mid (inr (bytes, finds, after)) = ap files_in after ∙ files_loaded (Some a) old

files_stopped : (error : SinkError) (task : Option Request) (old mid : DeskState) → SayStops error task old mid →
    files_in mid ≡ files_in old
files_stopped error task old mid (ending, is, stops) =
    files_said (after_load task old) mid (said ending) (Err error) stops.1 ∙ files_loaded task old

pub files_kept : (task : Option Request) (old new : DeskState) (answer : ℕ) → EndsCall task old new answer →
    files_in new ≡ files_in old
files_kept task old new answer (Decided ending is gives after) =
    ap files_in after ∙ same_files (with_said (said ending)) (after_load task old).told (λ c. refl)
    ∙ files_loaded task old
files_kept task old new answer (Faulted five (mid, inl fails, tried)) = files_tried mid new _ tried
    ∙ files_failed task old mid fails
files_kept task old new answer (Faulted five (mid, inr stops, tried)) = files_tried mid new _ tried
    ∙ files_stopped sink.Failed task old mid stops
files_kept task old new answer (Starved six (mid, inl runs_out, tried)) = files_tried mid new _ tried
    ∙ files_ran_out task old mid runs_out
files_kept task old new answer (Starved six (mid, inr (inl (ending, is, some, loaded)), tried)) =
    files_tried mid new _ tried ∙ ap files_in loaded ∙ files_loaded task old
files_kept task old new answer (Starved six (mid, inr (inr stops), tried)) = files_tried mid new _ tried
    ∙ files_stopped sink.Memory task old mid stops
