-- How a call of the program ends, and what follows for its status and the files.
use Rattle.std.proofs.Common.{◌≡◌, ◌≢◌, ◌⊎◌, inl, inr, ℕ, zero, suc, List, Option, None, Some, Result, Ok, Err, refl, ap, sym, subst, ◌∙◌, arith}
use Rattle.std.specs.Prelude.{IfOk, String, string_bytes}
use Rattle.std.specs.Global.{Global}
use Rattle.std.specs.declared.alloc.AllocError.{AllocError}
use Rattle.std.specs.Option.{option_map}
use Rattle.desk_io.specs.Desk.{DeskContents, DeskState, Files, Finds, Rose, as_before, called, counted, files_with, with_file}
use Rattle.desk_io.specs.declared.desk.SinkError.TheVariants as sink
use Rattle.program_base.specs.Refusals.{image_refused}
use Rattle.program_base.specs.Saying.{MemoryTold, Refuses, Speaks, files_in}
use Rattle.program_base.proofs.Refusing as done
use Rattle.program_base.proofs.Spoken.{faults_tried, files_asked, files_said, files_text, same_files}
use Rattle.desk_tasks.specs.Ending.{Ending, status, refusal_line}
use Rattle.desk_tasks.specs.Gives.{OutputState, SavedFile, Gives}
use Rattle.desk_tasks.specs.Steps.{IsEnding}
use Rattle.desk_tasks.specs.Stops.{Comes, refused}
use Rattle.command_line.specs.Top.{Decision, EndsCall, Decided, Faulted, Starved, IsExact, IsFaulted, Leaves, LeavesFiles, CallFails, FileStops, RunsOutOfMemory}
use Rattle.desk_tasks.specs.Loads.{after_loads}
use Rattle.command_line.specs.Top.{Delivers, TellsEnding, after_save, after_loading, after_saving}
use Rattle.desk_tasks.specs.Request.{Request, file_of}
use Rattle.desk_tasks.specs.declared.refusal.Refusal.{Refusal}
use Rattle.desk_tasks.specs.declared.refusal.Refusal.TheVariants as refusal
use Rattle.command_line.proofs.OneEnding.{one_ending}
use Rattle.command_line.proofs.Saving.{ending_saves, gives_saves, never_five, refusal_saves, saver}

-- ---- the end after an ending

-- after an ending, what it gives is saved and said
pub ends_delivered : (task : Option Request) (old mid new : DeskState) (ending : Ending) (given : OutputState)
    (wanted answer : ℕ) →
    Comes task (Finds old) old mid ending → Gives ending given → wanted ≡ status ending →
    Delivers mid new given wanted answer →
    EndsCall task old new answer
ends_delivered task old mid new ending given wanted answer (loads, is, at) gives same delivers =
    by_delivery (subst (λ desk. Delivers desk new given wanted answer) at delivers)
  where
    it : Decision task (Finds old)
    it = record { ending = ending; loads = loads; given = given; is_ending = is; gives = gives }

    by_delivery : Delivers (after_loading old it) new given wanted answer → EndsCall task old new answer
    by_delivery (inl (inl (said, after))) = Decided it (said ∙ same) after
    by_delivery (inl (inr (inl (mid, says, told)))) = Faulted told.0 (mid, inr (inr (it, says)), told.1)
    by_delivery (inl (inr (inr (mid, starves, told)))) = Starved told.0 (mid, inr (inr (it, starves)), told.1)
    by_delivery (inr (inl (mid, fails, told))) = Faulted told.0 (mid, inr (inl (it, fails)), told.1)
    by_delivery (inr (inr (mid, starves, told))) = Starved told.0 (mid, inr (inl (it, starves)), told.1)

-- ---- status 5 comes only where the count of faults rose

faults_loads : (n : ℕ) (desk : DeskState) → (after_loads n desk).faults ≡ desk.faults
faults_loads zero desk = refl
faults_loads (suc n) desk = faults_loads n desk

faults_save : (file : Option SavedFile) (desk : DeskState) → (after_save file desk).faults ≡ desk.faults
faults_save None desk = refl
faults_save (Some file) desk = refl

faults_file : (file : Option SavedFile) (old new : DeskState) → FileStops sink.Failed file old new →
    new.faults ≡ counted old.faults
faults_file None old new fails = absurd fails
faults_file (Some file) old new fails = ap (λ (d : DeskState). d.faults) fails.1

faults_call : (task : Option Request) (old new : DeskState) → CallFails task old new → new.faults ≡ counted old.faults
faults_call task old new (inl (n, less, came, after)) = ap (λ (d : DeskState). d.faults) after
    ∙ ap counted (faults_loads n old)
faults_call task old new (inr (inl (it, fails))) =
    faults_file it.given.saved (after_loading old it) new fails ∙ ap counted (faults_loads it.loads old)
faults_call task old new (inr (inr (it, fails))) =
    ap (λ (d : DeskState). d.faults) fails.1.1 ∙ ap counted (faults_save it.given.saved (after_loading old it)
    ∙ faults_loads it.loads old)

pub faulted : (task : Option Request) (old new : DeskState) → IsFaulted task old new → Rose old.faults new.faults
faulted task old new (mid, fails, tried) = faults_tried old.faults mid new _ (faults_call task old mid fails) tried

pub only_fault : (task : Option Request) (old new : DeskState) (answer : ℕ) → EndsCall task old new answer →
    answer ≡ 5 → Rose old.faults new.faults
only_fault task old new answer (Decided it same said) five = absurd (never_five it.ending (sym five ∙ same))
only_fault task old new answer (Faulted is faults) five = faulted task old new faults
only_fault task old new answer (Starved six starves) five = absurd (omega arith)

-- ---- each ending gives its status

pub exact : (task : Option Request) (old new : DeskState) (answer : ℕ) → EndsCall task old new answer →
    IsExact task old new answer
exact task old new answer ends = record {
  one_ending = λ a b m n tells is also. one_ending task old a b m n tells is also;
  ending_gives = gives ends;
}
  where
    gives : EndsCall task old new answer → (ending : Ending) (loads : ℕ) → IsEnding task (Finds old) ending loads →
        TellsEnding task old →
        (Rose old.faults new.faults → ⊥) → (answer ≡ status ending) ⊎ (answer ≡ 6)
    gives (Decided it same said) ending loads is tells steady =
        inl (same ∙ ap status (one_ending task old it.ending ending it.loads loads tells it.is_ending is))
    gives (Faulted five faults) ending loads is tells steady = absurd (steady (faulted task old new faults))
    gives (Starved six starves) ending loads is tells steady = inr six

-- ---- which file changes

files_loads : (n : ℕ) (desk : DeskState) → files_in (after_loads n desk) ≡ files_in desk
files_loads zero desk = refl
files_loads (suc n) desk = same_files as_before (after_loads n desk).told (λ c. refl) ∙ files_loads n desk

-- a call that changes a file changes that one
other_files : (name : List ℕ) (left : Option (List ℕ)) (told : Option DeskContents) →
    option_map (λ c. c.files) (option_map (called (with_file name left)) told)
    ≡ option_map (λ files. files_with files name left)
    (option_map (λ c. c.files) told)
other_files name left None = refl
other_files name left (Some c) = refl

-- ---- at each place where a call may end

leaves_same : (file : Option (List ℕ)) (old new : Option Files) → new ≡ old → Leaves file old new
leaves_same None old new e = e
leaves_same (Some name) old new e = inl e

-- where nothing else changes
leaves_also : (file : Option (List ℕ)) (old mid new : Option Files) → Leaves file old mid → new ≡ mid →
    Leaves file old new
leaves_also None old mid new h e = e ∙ h
leaves_also (Some name) old mid new (inl h) e = inl (e ∙ h)
leaves_also (Some name) old mid new (inr (left, h)) e = inr (left, e ∙ h)

-- the file that an ending gives is that of its task
saves_its : (task : Option Request) (old : DeskState) (it : Decision task (Finds old)) (file : SavedFile) →
    it.given.saved ≡ Some file →
    file_of task ≡ Some file.name
saves_its task old it file e =
    let named : Some file.name ≡ saver it.ending = sym (ap (option_map (λ f. f.name)) e)
    ∙ gives_saves it.ending it.given it.gives in
    elim (ending_saves task (Finds old) it.ending it.loads it.is_ending) [
      | inl none ↦ absurd (cc)
      | inr some ↦ sym (named ∙ some)
    ]

-- so is the one that is changed
leaves_file : (task : Option Request) (old new : DeskState) (it : Decision task (Finds old)) (file : SavedFile)
    (left : Option (List ℕ)) →
    it.given.saved ≡ Some file → files_in new ≡ option_map (λ files. files_with files file.name left)
    (files_in (after_loading old it)) →
    Leaves (file_of task) (files_in old) (files_in new)
leaves_file task old new it file left e changed =
    rw (saves_its task old it file e) (inr (
      left,
      changed ∙ ap (option_map (λ files. files_with files file.name left))
          (files_loads it.loads old),
    ))

leaves_saved : (task : Option Request) (old : DeskState) (it : Decision task (Finds old)) →
    Leaves (file_of task) (files_in old) (files_in (after_saving old it))
leaves_saved task old it = by_file it.given.saved refl
  where
    by_file : (file : Option SavedFile) → it.given.saved ≡ file →
        Leaves (file_of task) (files_in old) (files_in (after_save file (after_loading old it)))
    by_file None e = leaves_same (file_of task) (files_in old) (files_in (after_loading old it))
        (files_loads it.loads old)
    by_file (Some file) e =
        leaves_file task old (after_save (Some file) (after_loading old it)) it file (Some file.bytes) e
        (other_files file.name (Some file.bytes) (after_loading old it).told)

leaves_failed : (task : Option Request) (old new : DeskState) (it : Decision task (Finds old)) →
    FileStops sink.Failed it.given.saved (after_loading old it) new →
    Leaves (file_of task) (files_in old) (files_in new)
leaves_failed task old new it fails = by_file it.given.saved refl fails
  where
    by_file : (file : Option SavedFile) → it.given.saved ≡ file →
        FileStops sink.Failed file (after_loading old it) new →
        Leaves (file_of task) (files_in old) (files_in new)
    by_file None e fails = absurd fails
    by_file (Some file) e fails =
        leaves_file task old new it file fails.0 e (ap files_in fails.1
        ∙ other_files file.name fails.0 (after_loading old it).told)

leaves_call : (task : Option Request) (old new : DeskState) → CallFails task old new →
    Leaves (file_of task) (files_in old) (files_in new)
leaves_call task old new (inl (n, less, came, after)) =
    leaves_same (file_of task) (files_in old) (files_in new)
    (ap files_in after ∙ same_files as_before (after_loads n old).told (λ c. refl) ∙ files_loads n old)
leaves_call task old new (inr (inl (it, fails))) = leaves_failed task old new it fails
leaves_call task old new (inr (inr (it, fails))) =
    leaves_also (file_of task) (files_in old) (files_in (after_saving old it)) (files_in new) (leaves_saved task old it)
    (files_said (after_saving old it) new it.given.text (Err sink.Failed) fails.1)

leaves_out : (task : Option Request) (old new : DeskState) → RunsOutOfMemory task old new →
    Leaves (file_of task) (files_in old) (files_in new)
leaves_out task old new (inl (inl (inl (n, less, came, after)))) =
    leaves_same (file_of task) (files_in old) (files_in new) (ap files_in after ∙ files_asked (after_loads n old)
    ∙ files_loads n old)
leaves_out task old new (inl (inl (inr (n, worked, came, after)))) =
    leaves_same (file_of task) (files_in old) (files_in new) (ap files_in after ∙ files_loads n old)
leaves_out task old new (inl (inr (it, unsaid, after))) =
    leaves_same (file_of task) (files_in old) (files_in new) (ap files_in after ∙ files_loads it.loads old)
leaves_out task old new (inr (inl (it, starves))) =
    leaves_same (file_of task) (files_in old) (files_in new) (unsaved_file it.given.saved starves
    ∙ files_loads it.loads old)
  where
    unsaved_file : (file : Option SavedFile) → FileStops sink.Memory file (after_loading old it) new →
        files_in new ≡ files_in (after_loading old it)
    unsaved_file None starves = absurd starves
    unsaved_file (Some file) starves = ap files_in starves ∙ files_asked (after_loading old it)
leaves_out task old new (inr (inr (it, starves))) =
    leaves_also (file_of task) (files_in old) (files_in (after_saving old it)) (files_in new) (leaves_saved task old it)
    (files_said (after_saving old it) new it.given.text (Err sink.Memory) starves.1)

others : (task : Option Request) (old new : DeskState) (answer : ℕ) → EndsCall task old new answer →
    Leaves (file_of task) (files_in old) (files_in new)
others task old new answer (Decided it same said) =
    leaves_also (file_of task) (files_in old) (files_in (after_saving old it)) (files_in new) (leaves_saved task old it)
    (ap files_in said ∙ files_text it.given.text (after_saving old it))
others task old new answer (Faulted five (mid, fails, (result, says))) =
    leaves_also (file_of task) (files_in old) (files_in mid) (files_in new) (leaves_call task old mid fails)
    (files_said mid new _ result says)
others task old new answer (Starved six (mid, out, (result, says))) =
    leaves_also (file_of task) (files_in old) (files_in mid) (files_in new) (leaves_out task old mid out)
    (files_said mid new _ result says)

-- a refusal saves nothing
unsaved : (task : Option Request) (old : DeskState) (it : Decision task (Finds old)) → (status it.ending ≡ 0 → ⊥) →
    files_in (after_saving old it) ≡ files_in old
unsaved task old it refused = by_file it.given.saved (gives_saves it.ending it.given it.gives
    ∙ refusal_saves it.ending refused)
  where
    by_file : (file : Option SavedFile) → option_map (λ f. f.name) file ≡ None →
        files_in (after_save file (after_loading old it)) ≡ files_in old
    by_file None e = files_loads it.loads old
    by_file (Some file) e = absurd (cc)

refusals : (task : Option Request) (old new : DeskState) (answer : ℕ) → EndsCall task old new answer →
    (answer ≡ 0 → ⊥) → (answer ≡ 5 → ⊥) → (answer ≡ 6 → ⊥) → files_in new ≡ files_in old
refusals task old new answer (Decided it same said) done five six =
    ap files_in said ∙ files_text it.given.text (after_saving old it) ∙ unsaved task old it (λ e. done (same ∙ e))
refusals task old new answer (Faulted is faults) done five six = absurd (five is)
refusals task old new answer (Starved is starves) done five six = absurd (six is)

-- no file changes but the one that a task saves
pub leaves_files : (task : Option Request) (old new : DeskState) (answer : ℕ) → EndsCall task old new answer →
    LeavesFiles task old new answer
leaves_files task old new answer ends =
    record { others = others task old new answer ends; refused = refusals task old new answer ends }

-- ---- refusals

-- a refusal gives its line
pub refusal_gives : (r : Refusal) (text : List ℕ) → text ≡ refusal_line (refused r) →
    Gives (refused r) (record { saved = None; text = text })
refusal_gives (refusal.BadLine n) text e = record { saves_nothing = refl; said = e }
refusal_gives (refusal.Image why) text e = record { saves_nothing = refl; said = e }
refusal_gives (refusal.BadConfiguration rule) text e = record { saves_nothing = refl; said = e }
refusal_gives refusal.BadAllowance text e = record { saves_nothing = refl; said = e }
refusal_gives (refusal.NoBlock block) text e = record { saves_nothing = refl; said = e }
refusal_gives (refusal.Worn allowance) text e = record { saves_nothing = refl; said = e }
refusal_gives (refusal.WrongLine k) text e = record { saves_nothing = refl; said = e }
refusal_gives (refusal.BadBucket page) text e = record { saves_nothing = refl; said = e }
refusal_gives refusal.DifferShape text e = record { saves_nothing = refl; said = e }
refusal_gives (refusal.DifferBlank page) text e = record { saves_nothing = refl; said = e }
refusal_gives (refusal.DifferAt page at) text e = record { saves_nothing = refl; said = e }

-- the end after a refusal whose line is tried
ends_refused : (task : Option Request) (old mid new : DeskState) (r : Refusal) (text : List ℕ) (wanted answer : ℕ) →
    Comes task (Finds old) old mid (refused r) → text ≡ refusal_line (refused r) → wanted ≡ status (refused r) →
    Speaks mid new text wanted answer →
    EndsCall task old new answer
ends_refused task old mid new r text wanted answer comes is_line same speaks =
    ends_delivered task old mid new (refused r) (record { saved = None; text = text }) wanted answer comes
    (refusal_gives r text is_line) same (inl speaks)

-- the end after a refusal for whose line there was no memory
ends_unsaid : (task : Option Request) (old mid new : DeskState) (r : Refusal) (answer : ℕ) →
    Comes task (Finds old) old mid (refused r) → MemoryTold mid new answer → EndsCall task old new answer
ends_unsaid task old mid new r answer (loads, is, at) told =
    Starved told.0 (mid, inl (inr (it, never_done r, at)), told.1)
  where
    it : Decision task (Finds old)
    it = record {
      ending = refused r;
      loads = loads;
      given = record { saved = None; text = refusal_line (refused r) };
      is_ending = is;
      gives = refusal_gives r (refusal_line (refused r)) refl;
    }

    never_done : (r : Refusal) → status (refused r) ≢ 0
    never_done refusal.BadAllowance e = absurd (omega arith)
    never_done (refusal.NoBlock block) e = absurd (omega arith)
    never_done (refusal.Worn allowance) e = absurd (omega arith)
    never_done (refusal.WrongLine k) e = absurd (omega arith)
    never_done (refusal.BadBucket page) e = absurd (omega arith)
    never_done refusal.DifferShape e = absurd (omega arith)
    never_done (refusal.DifferBlank page) e = absurd (omega arith)
    never_done (refusal.DifferAt page at) e = absurd (omega arith)
    never_done (refusal.BadLine n) e = absurd (omega arith)
    never_done (refusal.Image why) e = done.never_done (image_refused why) e
    never_done (refusal.BadConfiguration rule) e = absurd (omega arith)

-- the end after a refusal
pub ends_stopped : (task : Option Request) (old mid new : DeskState) (r : Refusal)
    (line : Result (String Global) AllocError) (wanted answer : ℕ) →
    Comes task (Finds old) old mid (refused r) → IfOk line (λ l. string_bytes l ≡ refusal_line (refused r)) →
    wanted ≡ status (refused r) →
    Refuses mid new line wanted answer → EndsCall task old new answer
ends_stopped task old mid new r (Ok text) wanted answer comes is_line same speaks =
    ends_refused task old mid new r (string_bytes text) wanted answer comes is_line same speaks
ends_stopped task old mid new r (Err none) wanted answer comes is_line same told =
    ends_unsaid task old mid new r answer comes told
