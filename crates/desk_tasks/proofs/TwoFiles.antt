-- What comes of loading an image file and a file of text.
use Rattle.desk_tasks.proofs.Common.{◌≡◌, ℕ, List, [], ◌∷◌, take, Option, Result, Ok, Err, refl, sym, ap, subst, ◌∙◌, arith, All, after_answer, as_before, Ending}
use Rattle.std.specs.Prelude.{Vec}
use Rattle.std.specs.Global.{Global}
use Rattle.std.specs.Result.{IsErrAnd}
use Rattle.durable_folder.specs.Histories.{History, Rests}
use Rattle.desk_io.specs.Desk as found
use Rattle.desk_io.specs.Desk.{DeskState, FileFound}
use Rattle.desk_io.specs.Disk.{FindsBoth}
use Rattle.program_base.specs.Loading.{Fetches}
use Rattle.program_base.specs.declared.stop.ImageStop.{ImageStop}
use Rattle.program_base.specs.declared.stop.ImageStop.TheVariants as image
use Rattle.desk_tasks.specs.Loads.{FindsBytes}
use Rattle.desk_tasks.specs.Request.{Request, IsWorkedAfter, files_of}
use Rattle.desk_tasks.specs.Steps.{IsEnding}
use Rattle.desk_tasks.specs.Stops.{Works, WorksTo, failure_of}
use Rattle.desk_tasks.specs.TwoFiles.{LoadingBoth, LoadsBoth, LoadsStop, RefusesOne}
use Rattle.desk_tasks.specs.declared.output.Output.{Output}
use Rattle.desk_tasks.specs.declared.output.Failure.{Failure}
use Rattle.desk_tasks.proofs.Weakening.{loading_weaker}
use Rattle.desk_tasks.proofs.Works.{finds_before, found_more, found_none, stopped_at, unloaded, works}

-- ---- the loads

-- the first gives no bytes
pub first_unloaded : (old new : DeskState) (disk : Option History) (name text : List ℕ) (stopped : ImageStop)
    (result : Result (Vec ℕ Global × Vec ℕ Global) ImageStop) →
    IsErrAnd result (λ x. x ≡ stopped) → Fetches (FindsBoth old disk) old new name (Err stopped) →
    LoadsBoth (FindsBoth old disk) old new name text result
first_unloaded old new disk name text stopped (Ok both) same h = absurd same
first_unloaded old new disk name text stopped (Err x) same h =
    rw same
    (stopped_at (name ∷ text ∷ []) (RefusesOne (FindsBoth old disk) name text) (FindsBoth old disk) old old new 0 name
    stopped refl (omega arith) (found_none old)
    (λ there. (found.Missing, there, (refl, refl))) (λ there. (found.TooLong, there, (refl, refl))) h)

-- the second gives none
pub second_unloaded : (old mid new : DeskState) (disk between : Option History) (name text bytes : List ℕ)
    (stopped : ImageStop) (result : Result (Vec ℕ Global × Vec ℕ Global) ImageStop) →
    IsErrAnd result (λ x. x ≡ stopped) → FindsBoth old disk name (found.Bytes bytes) →
    mid ≡ after_answer as_before old → Rests disk between →
    Fetches (FindsBoth mid between) mid new text (Err stopped) →
    LoadsBoth (FindsBoth old disk) old new name text result
second_unloaded old mid new disk between name text bytes stopped (Ok both) same first at rests h = absurd same
second_unloaded old mid new disk between name text bytes stopped (Err x) same first at rests h =
    rw same
    (stopped_at (name ∷ text ∷ []) (RefusesOne (FindsBoth old disk) name text) (FindsBoth mid between) old mid new 1
    text stopped at (omega arith) (found_more old name bytes [] first.0 (found_none old))
    (λ there. (
      found.Bytes bytes,
      first,
      (1, (found.Missing, finds_before old mid disk between text found.Missing at rests there, (refl, refl)), refl),
    ))
    (λ there. (
      found.Bytes bytes,
      first,
      (1, (found.TooLong, finds_before old mid disk between text found.TooLong at rests there, (refl, refl)), refl),
    ))
    h)

-- both give their bytes
pub both_loaded : (old mid new : DeskState) (disk between : Option History) (name text : List ℕ)
    (bytes lines : Vec ℕ Global) →
    Fetches (FindsBoth old disk) old mid name (Ok bytes) → Rests disk between →
    Fetches (FindsBoth mid between) mid new text (Ok lines) →
    LoadsBoth (FindsBoth old disk) old new name text (Ok (bytes, lines))
both_loaded old mid new disk between name text bytes lines first rests second = (
  first.0,
  finds_before old mid disk between text (found.Bytes lines.items) first.1 rests second.0,
  second.1 ∙ ap (after_answer as_before) first.1,
)

-- ---- the work of a task that loads them

-- where one of them is refused, that is an ending whatever would come of their bytes
one_refused : (finds : List ℕ → FileFound → Type 0) (name text : List ℕ) (next : List ℕ → List ℕ → Ending → Type 0)
    (ending : Ending) (loads : ℕ) → RefusesOne finds name text ending loads →
    LoadingBoth finds name text next ending loads
one_refused finds name text next ending loads h =
    loading_weaker finds finds name _ _ (λ there h. h)
    (λ bytes. loading_weaker finds finds text _ _ (λ there h. h) (λ lines ending more h. absurd h.0)) ending loads h

stop_leads : (names : List (List ℕ)) (P Q : Ending → ℕ → Type 0) →
    ((ending : Ending) (loads : ℕ) → P ending loads → Q ending loads) →
    (old new : DeskState) (stopped : ImageStop) → LoadsStop names P old new stopped → LoadsStop names Q old new stopped
stop_leads names P Q leads old new (image.Refused refusal) h = (h.0, leads _ h.0 h.1, h.2)
stop_leads names P Q leads old new image.Fault h = h
stop_leads names P Q leads old new image.Memory h = h

module _ (task : Option Request) (old new : DeskState) (disk : Option History) (name text : List ℕ)
    (next : List ℕ → List ℕ → Ending → Type 0) (files : files_of task ≡ name ∷ text ∷ [])
    (is : (ending : Ending) (loads : ℕ) → LoadingBoth (FindsBoth old disk) name text next ending loads →
    IsEnding task (FindsBoth old disk) ending loads) where
  -- it ends where their loads stop
  pub unloaded_both : (stopped : ImageStop) (result : Result Output Failure) →
      IsErrAnd result (λ x. x ≡ failure_of stopped) →
      LoadsBoth (FindsBoth old disk) old new name text (Err stopped) → Works task (FindsBoth old disk) old new result
  unloaded_both stopped result same h =
      let finds = FindsBoth old disk in
      let stops = subst (λ names. LoadsStop names (RefusesOne finds name text) old new stopped) (sym files) h in
      unloaded task finds old new stopped result same
      (stop_leads (files_of task) (RefusesOne finds name text) (IsEnding task finds)
      (λ ending loads h. is ending loads (one_refused finds name text next ending loads h)) old new stopped stops)

  -- else it comes to what their bytes give
  pub works_on_both : IsWorkedAfter task 2 → (bytes lines : Vec ℕ Global) (result : Result Output Failure) →
      LoadsBoth (FindsBoth old disk) old new name text (Ok (bytes, lines)) →
      WorksTo (next bytes.items lines.items) result → Works task (FindsBoth old disk) old new result
  works_on_both worked bytes lines result loaded h =
      works task (FindsBoth old disk) old new 2 (next bytes.items lines.items) result loaded.2 worked
      (subst (λ names. All (FindsBytes old) (take 2 names)) (sym files)
      (found_more old name bytes.items (text ∷ []) loaded.0.0
      (found_more old text lines.items [] loaded.1.0 (found_none old))))
      (λ ending h. is ending 2
      (found.Bytes bytes.items, loaded.0, (1, (found.Bytes lines.items, loaded.1, (0, (h, refl), refl)), refl))) h
