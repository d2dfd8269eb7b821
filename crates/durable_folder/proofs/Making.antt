-- Making a new file beside another one.
use Rattle.durable_folder.proofs.Common.{◌≡◌, ◌≢◌, inl, inr, ℕ, ◌++◌, true, false, List, Option, None, Some, Ok, Err, refl, sym, ap, ◌∙◌, error_kind, Error, FolderState, newest, Handle, is_refusal, quiet, History, Turns, Runs, Answer, IsNew, IsMade, Prepares}
use Rattle.std.proofs.lemmas.Slice.Eq.{bytes_eq-Decides}
use Rattle.std.specs.Str.{bytes_eq}
use Rattle.std.specs.declared.io.ErrorKind.TheVariants as kind
use Rattle.durable_folder.specs.Calls.{Creates, Makes}
use Rattle.durable_folder.specs.Counting.{is_passed_over, refused_answer, refused_if}
use Rattle.durable_folder.specs.Histories.{Making, KeepsRefusals}
use Rattle.durable_folder.specs.Places.{IsLeftover}
use Rattle.durable_folder.specs.Saving.{IsNotMade, WasRefused, Tries}
use Rattle.durable_folder.proofs.Passing.{runs_of, runs_weaker, runs_then, runs_counted}
use Rattle.durable_folder.proofs.Refusing.{kept_refused, refused_where}

-- nothing has changed
abbrev pub Still : Option History → Option History → Type 0
Still = Runs (λ s t. t ≡ s) (λ h k. k.now ≡ h.now)

pub still_then : (S : FolderState → FolderState → Type 0) (n : Answer) (a b c : Option History) → Still a b →
    Turns S n b c →
    ((s t : FolderState) → S s t → t ≡ s) → Still a c
still_then S n a b c run turn same =
    runs_then a b c run (runs_of S n b c turn) (λ s t x. x) (λ h k u x y. same k.now u y ∙ x)
    (λ h k l x y. same k.now l.now y.0 ∙ x)

is_new : (name beside : List ℕ) (file : ℕ) (s t : FolderState) → beside ≢ name → IsLeftover name beside →
    Makes file beside s t → IsNew name beside file s t
is_new name beside file s t apart left m = record {
  apart = apart;
  leftover = left;
  is_free = m.is_free;
  is_fresh = m.is_fresh;
  spares = m.spares;
}

made_by : {X : Type 0} (handle : X → Handle) (opened : X) (name beside : List ℕ) (r s t : FolderState) → beside ≢ name →
    IsLeftover name beside → s ≡ r →
    Creates handle beside (Ok opened) s t → (file : ℕ) × IsMade (handle opened) name beside file r t
made_by handle opened name beside r s t apart left same x = (
  x.0,
  record {
    opened = x.1;
    new = rw same at (is_new name beside x.0 s t apart left x.2);
    named = ap (newest None) x.2.named;
    empty = x.2.empty;
  },
)

pub made_new : {X : Type 0} (handle : X → Handle) (opened : X) (name beside : List ℕ) (n : Answer)
    (a b c : Option History) → beside ≢ name →
    IsLeftover name beside → Still a b →
    Turns (Creates handle beside (Ok opened)) n b c →
    Runs (Prepares name) (λ h k. (file : ℕ) × IsMade (handle opened) name beside file h.now k.now)
    a c
made_new handle opened name beside n a b c apart left run turn =
    runs_then a b c run (runs_of (Creates handle beside (Ok opened)) n b c turn) (λ s t x. inl x)
    (λ h k u x y. let m = made_by handle opened name beside h.now k.now u apart left x y in inr (beside, m.0, m.1.new))
    (λ h k l x y. made_by handle opened name beside h.now k.now l.now apart left x y.0)

not_made_since : (name text : List ℕ) (e : Error) (h k l : History) → IsLeftover name text → KeepsRefusals h k →
    l.refusals ≡ refused_if (is_refusal (error_kind e)) (Making text) ++ k.refusals → WasRefused name e h l
not_made_since name text e h k l left kept are refused =
    kept_refused (IsNotMade name) h k l kept
    (refused_where (IsNotMade name) (is_refusal (error_kind e)) (Making text) k l are refused (text, refl, left))

-- a call that failed and changed nothing
pub refused_by : (S : FolderState → FolderState → Type 0) (name text : List ℕ) (e : Error) (a b c : Option History) →
    IsLeftover name text →
    Still a b → Turns S (refused_answer is_passed_over (Making text) e) b c → ((s t : FolderState) → S s t → t ≡ s) →
    Runs (Prepares name) (λ h k. (k.now ≡ h.now) × WasRefused name e h k) a c
refused_by S name text e a b c left run turn same =
    runs_then a b c (runs_counted a b run) (runs_of S (refused_answer is_passed_over (Making text) e) b c turn)
    (λ s t x. inl x)
    (λ h k u x y. inl (same k.now u y ∙ x.1))
    (λ h k l x y. (same k.now l.now y.0 ∙ x.1, not_made_since name text e h k l left x.0 y.1))

-- an error that is no refusal
pub not_refused : (name : List ℕ) (e : Error) (a b : Option History) → Still a b → is_refusal (error_kind e) ≡ false →
    Runs (Prepares name) (λ h k. (k.now ≡ h.now) × WasRefused name e h k) a b
not_refused name e a b run no_refusal = runs_weaker a b run (λ s t x. inl x) (λ h k x. (x, λ refused. absurd (cc)))

-- texts that do not compare equal differ
pub differ : (xs ys : List ℕ) → false ≡ bytes_eq xs ys → xs ≢ ys
differ xs ys is same = let yes : bytes_eq xs ys ≡ true = (bytes_eq-Decides xs ys).1 same in absurd (cc)

turn_weaker : {S R : FolderState → FolderState → Type 0} (n : Answer) (a b : Option History) → Turns S n a b →
    ((s t : FolderState) → S s t → R s t) → Turns R n a b
turn_weaker n None None turn f = turn
turn_weaker n None (Some k) turn f = absurd turn
turn_weaker n (Some h) None turn f = absurd turn
turn_weaker n (Some h) (Some k) turn f = (f h.now k.now turn.0, turn.1, turn.2, turn.3, turn.4)

-- a name that is tried
pub tried_made : {F X : Type 0} (handle : F → Handle) (beside : F → List ℕ) (file_handle : X → Handle) (opened : X)
    (new : F) (text : List ℕ)
    (a b : Option History) → handle new ≡ file_handle opened → beside new ≡ text →
    Turns (Creates file_handle text (Ok opened)) quiet a b →
    Tries handle beside text (Ok (Some new)) a b
tried_made handle beside file_handle opened new text a b same is turn =
    (is, turn_weaker quiet a b turn (λ s t x. (x.0, same ∙ x.1, x.2)))

pub tried_taken : {F X : Type 0} (handle : F → Handle) (beside : F → List ℕ) (file_handle : X → Handle) (e : Error)
    (text : List ℕ)
    (a b : Option History) → error_kind e ≡ kind.AlreadyExists →
    Turns (Creates file_handle text (Err e)) (refused_answer is_passed_over (Making text) e) a b →
    Tries handle beside text (Ok None) a b
tried_taken handle beside file_handle e text a b is turn = (e, is, turn)

pub tried_failed : {F X : Type 0} (handle : F → Handle) (beside : F → List ℕ) (file_handle : X → Handle) (e : Error)
    (text : List ℕ)
    (a b : Option History) → error_kind e ≢ kind.AlreadyExists →
    Turns (Creates file_handle text (Err e)) (refused_answer is_passed_over (Making text) e) a b →
    Tries handle beside text (Err e) a b
tried_failed handle beside file_handle e text a b apart turn = (apart, turn)

pub still_untaken : {F : Type 0} (handle : F → Handle) (beside : F → List ℕ) (text : List ℕ) (a b c : Option History) →
    Still a b →
    Tries handle beside text (Ok None) b c → Still a c
still_untaken handle beside text a b c run tries =
    still_then (Creates handle text (Err tries.0)) (refused_answer is_passed_over (Making text) tries.0) a b c run
    tries.2 (λ s t x. x.0)

pub made_tried : {F : Type 0} (handle : F → Handle) (beside : F → List ℕ) (new : F) (name text : List ℕ)
    (a b c : Option History) →
    text ≢ name → IsLeftover name text → Still a b → Tries handle beside text (Ok (Some new)) b c →
    Runs (Prepares name) (λ h k. (file : ℕ) × IsMade (handle new) name (beside new) file h.now k.now) a c
made_tried handle beside new name text a b c apart left run tries =
    rw tries.0 (made_new handle new name text quiet a b c apart left run tries.1)

pub failed_tried : {F : Type 0} (handle : F → Handle) (beside : F → List ℕ) (name text : List ℕ) (e : Error)
    (a b c : Option History) →
    IsLeftover name text → Still a b → Tries handle beside text (Err e) b c →
    Runs (Prepares name) (λ h k. (k.now ≡ h.now) × WasRefused name e h k) a c
failed_tried handle beside name text e a b c left run tries =
    refused_by (Creates handle text (Err e)) name text e a b c left run tries.1 (λ s t x. x.0)

pub same : (xs ys : List ℕ) → true ≡ bytes_eq xs ys → xs ≡ ys
same xs ys is = (bytes_eq-Decides xs ys).0 (sym is)
