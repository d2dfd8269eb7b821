-- Filling a new file.
use Rattle.durable_folder.proofs.Common.{◌≡◌, inl, inr, ℕ, ◌+◌, max, Bool, true, false, List, [], ◌∷◌, ◌++◌, length, Option, None, Some, Result, Ok, Err, refl, sym, ap, ◌∙◌, arith, IsErr, ext_get_or, Error, Replaced, Found, FolderState, file_of, byte_at, newest, Handle, OfFile, Written, Writes, Synced, SyncsFile, Finds, FindsOpen, History, Turns, Runs, Answer, Rests, AfterOk, Fills}
use Rattle.std.specs.Result.{is_ok, is_err}
use Rattle.durable_folder.specs.declared.answers.Replaced.TheVariants as replaced
use Rattle.durable_folder.specs.Calls.{Overlaid, Stays}
use Rattle.durable_folder.specs.Counting.{answer_to_give}
use Rattle.durable_folder.specs.Histories.{Refusal, Giving, Setting, file_at}
use Rattle.durable_folder.specs.declared.replacing.Owner.{Owner}
use Rattle.durable_folder.specs.Saving.{Gives, IsGiving, IsOwner, WritesWhole}
use Rattle.durable_folder.proofs.Heads.{after_err, then_synced}
use Rattle.durable_folder.proofs.Making.{still_then}
use Rattle.durable_folder.proofs.Passing.{runs_of, runs_weaker, runs_then, runs_counted}
use Rattle.durable_folder.proofs.Refusing.{kept_refused, refused_one}
use Rattle.durable_folder.proofs.Writing.{of_file_stays, of_file_weaker, file_turn, file_weaker, file_then}

is_ok_refused : (q : Refusal) (r : Result (Unit {0}) Error) → is_ok r ≡ false → (answer_to_give q r).refusals ≡ q ∷ []
is_ok_refused q (Ok done) is = absurd (cc)
is_ok_refused q (Err error) is = refl

is_err_refused : (q : Refusal) (r : Result (Unit {0}) Error) → is_err r ≡ true → (answer_to_give q r).refusals ≡ q ∷ []
is_err_refused q (Ok done) is = absurd (cc)
is_err_refused q (Err error) is = refl

-- a call that gives the file of a name to somebody
pub giving_runs : (beside : List ℕ) (user group : ℕ) (r : Result (Unit {0}) Error) (a b : Option History) →
    Turns Stays (answer_to_give (Giving (file_at beside a) user group) r) a b →
    Runs (λ s t. t ≡ s) (λ h k. (k.now ≡ h.now)
    × (k.refusals ≡ (answer_to_give (Giving (file_of h.now beside) user group) r).refusals ++ h.refusals))
    a b
giving_runs beside user group r None None turn = record { run = tt }
giving_runs beside user group r None (Some k) turn = absurd turn
giving_runs beside user group r (Some h) None turn = absurd turn
giving_runs beside user group r (Some h) (Some k) turn =
    let once = (runs_of Stays (answer_to_give (Giving (file_of h.now beside) user group) r) (Some h)
    (Some k) turn).run in
    record { run = (once.0, once.1, once.2, once.3, (turn.0, turn.2)) }

pub not_given : (beside : List ℕ) (opened : Option ℕ) (owner : Option Owner) (o : Owner)
    (r : Result (Unit {0}) Error) (g : Bool)
    (a b : Option History) → owner ≡ Some o → is_err r ≡ true →
    Turns Stays (answer_to_give (Giving (file_at beside a) o.user o.group) r) a b → Gives beside opened owner g a b
not_given beside opened owner o r g a b has is turn =
    runs_weaker a b (giving_runs beside o.user o.group r a b turn) (λ s t x. x)
    (λ h k x.
    let q : Refusal = Giving (file_of h.now beside) o.user o.group in
    let one : k.refusals ≡ q ∷ h.refusals = rw (is_err_refused q r is) at x.1 in (
      x.0,
      λ no_leave. refused_one (IsGiving beside opened owner h.now) q h k one
          (inr (o.user, o.group, rw has (refl, refl), refl)),
    ))

pub given_last : (beside : List ℕ) (opened : Option ℕ) (owner : Option Owner) (q : Refusal)
    (r p : Result (Unit {0}) Error) (g : Bool)
    (a b c : Option History) → g ≡ is_ok p → Turns Stays (answer_to_give q r) a b →
    Turns Stays (answer_to_give (Setting opened) p) b c → Gives beside opened owner g a c
given_last beside opened owner q r p g a b c is first last =
    runs_then a b c (runs_counted a b (runs_of Stays (answer_to_give q r) a b first))
    (runs_of Stays (answer_to_give (Setting opened) p) b c last)
    (λ s t x. x) (λ h k u x y. y ∙ x.1.0)
    (λ h k l x y. (
      y.0 ∙ x.1.0,
      λ no_leave.
          let one : l.refusals ≡ Setting opened ∷ k.refusals =
          rw (is_ok_refused (Setting opened) p (sym is ∙ no_leave)) at y.1 in
          kept_refused (IsGiving beside opened owner h.now) h k l x.0
          (refused_one (IsGiving beside opened owner h.now) (Setting opened) k l one (inl refl)),
    ))

-- the first bytes of an empty file
first_bytes : (bytes w : List ℕ) → Overlaid 0 bytes [] w → w ≡ bytes
first_bytes bytes w over =
    let size : length w ≡ max 0 (0 + length bytes) = over.size (omega arith) in
    ext_get_or 0 w bytes (omega arith) (λ i below. ap (λ j. byte_at w j) (omega arith) ∙ over.within i (omega arith))

whole_synced : (offset : ℕ) (bytes : List ℕ) (old mid : List (List ℕ)) (result : Result (Unit {0}) Error)
    (new : List (List ℕ)) → offset ≡ 0 →
    old ≡ [] ∷ [] →
    Written offset bytes (Ok tt) old mid → Synced mid result new → AfterOk result (new ≡ bytes ∷ [])
whole_synced offset bytes old mid (Ok done) new start empty w s =
    let over : Overlaid 0 bytes [] w.0 = rw (start, empty) at w.1 in
    s ∙ ap (λ vs. newest [] vs ∷ []) w.2 ∙ ap (λ b. b ∷ []) (first_bytes bytes w.0 over)
whole_synced offset bytes old mid (Err error) new start empty w s = tt

pub whole_failed : (file : Handle) (bytes : List ℕ) (n : Answer) (wrote result : Result (Unit {0}) Error)
    (a b : Option History) → IsErr result →
    Turns (Writes file bytes wrote) n a b → WritesWhole file bytes result a b
whole_failed file bytes n wrote result a b err turn =
    file_weaker a b (file_turn (Written file.offset bytes wrote) file.file n a b turn) (λ vs ws w. tt)
    (λ vs ws w start empty. after_err result (ws ≡ bytes ∷ []) err)

pub whole_done : (file mid : Handle) (bytes : List ℕ) (n m : Answer) (wrote result : Result (Unit {0}) Error)
    (a b c : Option History) → wrote ≡ Ok tt →
    mid.file ≡ file.file →
    Turns (Writes file bytes wrote) n a b → Turns (SyncsFile mid.file result) m b c → WritesWhole file bytes result a c
whole_done file mid bytes n m wrote result a b c ok same turn sync =
    file_then a b c (file_turn (Written file.offset bytes wrote) file.file n a b turn)
    (then_synced file.file mid m result b c same sync)
    (λ vs ws w. tt) (λ vs ws us w s. tt)
    (λ vs ws us w s start empty. whole_synced file.offset bytes vs ws result us start empty (rw ok at w) s)

-- a file that was not given
pub fill_refused : (file : Handle) (beside : List ℕ) (owner : Option Owner) (bytes : List ℕ) (given : Bool)
    (a b : Option History) → given ≡ false → Gives beside file.file owner given a b →
    Fills file beside owner bytes (Ok replaced.Refused) a b
fill_refused file beside owner bytes given a b no_leave gives =
    runs_weaker a b gives (λ s t x. of_file_stays (λ old new. Unit {0}) file.file s t x (λ vs. tt))
    (λ h k x. (x.0, x.1 no_leave))

pub filled : (file : Handle) (beside : List ℕ) (owner : Option Owner) (bytes : List ℕ) (given : Bool)
    (wrote : Result (Unit {0}) Error) (a b c : Option History) → Gives beside file.file owner given a b →
    WritesWhole file bytes wrote b c →
    Runs (OfFile (λ old new. Unit {0}) file.file) (λ h k. OfFile (λ old new. file.offset ≡ 0 → old ≡ [] ∷ [] →
    AfterOk wrote (new ≡ bytes ∷ []))
    file.file h.now k.now) a c
filled file beside owner bytes given wrote a b c gives whole =
    runs_then a b c gives whole.run (λ s t x. of_file_stays (λ old new. Unit {0}) file.file s t x (λ vs. tt))
    (λ h k u x y. let at : OfFile (λ old new. Unit {0}) file.file h.now u = rw x.0 at y in at)
    (λ h k l x y. let at : OfFile (λ old new. file.offset ≡ 0 → old ≡ [] ∷ [] → AfterOk wrote (new ≡ bytes ∷ []))
    file.file h.now l.now = rw x.0 at y
    in at)

pub fill_done : (file : Handle) (beside : List ℕ) (owner : Option Owner) (bytes : List ℕ) (given : Bool)
    (wrote : Result (Unit {0}) Error) (a b c : Option History) → wrote ≡ Ok tt →
    Gives beside file.file owner given a b → WritesWhole file bytes wrote b c →
    Fills file beside owner bytes (Ok replaced.Done) a c
fill_done file beside owner bytes given wrote a b c ok gives whole =
    runs_weaker a c (filled file beside owner bytes given wrote a b c gives whole) (λ s t x. x)
    (λ h k x. of_file_weaker (λ old new. file.offset ≡ 0 → old ≡ [] ∷ [] → AfterOk wrote (new ≡ bytes ∷ []))
    (λ old new. file.offset ≡ 0 → old ≡ [] ∷ [] → new ≡ bytes ∷ []) file.file h.now k.now x
    (λ vs ws y start empty. let held : AfterOk (Ok tt) (ws ≡ bytes ∷ []) = rw ok at (y start empty) in held))

pub fill_failed : (file : Handle) (beside : List ℕ) (owner : Option Owner) (bytes : List ℕ) (given : Bool)
    (wrote : Result (Unit {0}) Error) (result : Result Replaced Error)
    (a b c : Option History) → IsErr result → Gives beside file.file owner given a b →
    WritesWhole file bytes wrote b c → Fills file beside owner bytes result a c
fill_failed file beside owner bytes given wrote (Ok done) a b c err gives whole = absurd (cc)
fill_failed file beside owner bytes given wrote (Err error) a b c err gives whole =
    runs_weaker a c (filled file beside owner bytes given wrote a b c gives whole) (λ s t x. x)
    (λ h k x. of_file_weaker (λ old new. file.offset ≡ 0 → old ≡ [] ∷ [] → AfterOk wrote (new ≡ bytes ∷ []))
    (λ old new. Unit {0}) file.file h.now
    k.now x (λ vs ws y. tt))

-- what is found is only read
pub finds_still : (name : List ℕ) (found : Result Found Error) (n : Answer) (a b : Option History) →
    Turns (Finds name found) n a b → Rests a b
finds_still name (Ok f) n a b turn = runs_weaker a b (runs_of (Finds name (Ok f)) n a b turn) (λ s t x. x.0)
    (λ h k x. x.0.0)
finds_still name (Err e) n a b turn = runs_weaker a b (runs_of (Finds name (Err e)) n a b turn) (λ s t x. x.0)
    (λ h k x. x.0.0)

open_stays : (handle : Handle) (found : Result Found Error) (s t : FolderState) → FindsOpen handle found s t → t ≡ s
open_stays handle (Ok f) s t x = x.0
open_stays handle (Err e) s t x = x

pub both_still : (name : List ℕ) (handle : Handle) (found other : Result Found Error) (n m : Answer)
    (a b c : Option History) →
    Turns (Finds name found) n a b → Turns (FindsOpen handle other) m b c → Rests a c
both_still name handle found other n m a b c turn more =
    still_then (FindsOpen handle other) m a b c (finds_still name found n a b turn) more (open_stays handle other)
