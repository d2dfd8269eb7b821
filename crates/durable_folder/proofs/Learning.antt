-- What calls tell that change nothing.
use Rattle.durable_folder.proofs.Common.{◌≡◌, ℕ, false, List, Option, None, Some, Result, Ok, Err, refl, ◌∙◌, Error, Found, Handle, Opens, FindsOpen, AtNow, FolderState, History, Answer, Turns, Learns, Rests}
use Rattle.durable_folder.specs.Calls.{IsUnchanged}
use Rattle.durable_folder.proofs.Passing.{runs_none, runs_of, runs_weaker, runs_then}

pub learns : (S : FolderState → FolderState → Type 0) (P : FolderState → Type 0) (n : Answer) (a b : Option History) →
    Turns S n a b →
    ((s t : FolderState) → S s t → (t ≡ s) × P s) → Learns P a b
learns S P n a b turn f =
    runs_weaker a b (runs_of S n a b turn) (λ s t x. (f s t x).0) (λ h k x. f h.now k.now x.0)

pub learns_then : (P Q R : FolderState → Type 0) (a b c : Option History) → Learns P a b → Learns Q b c →
    ((s : FolderState) → P s → Q s → R s) →
    Learns R a c
learns_then P Q R a b c x y f =
    runs_then a b c x y (λ s t z. z) (λ h k u z w. w ∙ z.0) (λ h k l z w. (w.0 ∙ z.0, f h.now z.1 (rw z.0 at w.1)))

pub learns_weaker : (P Q : FolderState → Type 0) (a b : Option History) → Learns P a b →
    ((s : FolderState) → P s → Q s) → Learns Q a b
learns_weaker P Q a b x f = runs_weaker a b x (λ s t y. y) (λ h k y. (y.0, f h.now y.1))

pub learns_rests : (P : FolderState → Type 0) (a b : Option History) → Learns P a b → Rests a b
learns_rests P a b x = runs_weaker a b x (λ s t y. y) (λ h k y. y.0)

pub rests_learns : (P : FolderState → Type 0) (a b : Option History) → Rests a b →
    ((s : FolderState) → P s) → Learns P a b
rests_learns P a b x f = runs_weaker a b x (λ s t y. y) (λ h k y. (y, f h.now))

pub rests_same : (a : Option History) → Rests a a
rests_same a = runs_none a (λ h. refl)

pub rests_then : (a b c : Option History) → Rests a b → Rests b c → Rests a c
rests_then a b c x y = runs_then a b c x y (λ s t z. z) (λ h k u z w. w ∙ z) (λ h k l z w. w ∙ z)

pub turn_rests : (S : FolderState → FolderState → Type 0) (n : Answer) (a b : Option History) → Turns S n a b →
    ((s t : FolderState) → S s t → t ≡ s) →
    Rests a b
turn_rests S n a b turn same = runs_weaker a b (runs_of S n a b turn) same (λ h k x. same h.now k.now x.0)

pub learned_now : (P : FolderState → Type 0) (a b : Option History) → Learns P a b → AtNow P a
learned_now P None b x = tt
learned_now P (Some h) None x = absurd x.run
learned_now P (Some h) (Some k) x = x.run.4.1

-- what opening a file tells
pub opens_learns : {X : Type 0} (handle : X → Handle) (name : List ℕ) (opened : X) (n : Answer) (a b : Option History) →
    Turns (Opens handle name (Ok opened)) n a b → Learns (λ s. Opens handle name (Ok opened) s s) a b
opens_learns handle name opened n a b turn =
    learns (Opens handle name (Ok opened)) (λ s. Opens handle name (Ok opened) s s) n a b turn
    (λ s t x. (x.0, (refl, x.1, x.2, x.3)))

pub finds_rests : (handle : Handle) (r : Result Found Error) (n : Answer) (a b : Option History) →
    Turns (FindsOpen handle r) n a b → Rests a b
finds_rests handle (Ok found) n a b turn = turn_rests (FindsOpen handle (Ok found)) n a b turn (λ s t x. x.0)
finds_rests handle (Err error) n a b turn = turn_rests (FindsOpen handle (Err error)) n a b turn (λ s t x. x)

pub opens_rests : {X : Type 0} (handle : X → Handle) (name : List ℕ) (r : Result X Error) (n : Answer)
    (a b : Option History) →
    Turns (Opens handle name r) n a b → Rests a b
opens_rests handle name (Ok opened) n a b turn = turn_rests (Opens handle name (Ok opened)) n a b turn (λ s t x. x.0)
opens_rests handle name (Err error) n a b turn = turn_rests (Opens handle name (Err error)) n a b turn (λ s t x. x.0)

-- what is found of an open file
pub record Tells (handle : Handle) (found : Found) (s : FolderState) : Type 0 where
  pub no_file : found.is_file ≡ false → handle.file ≡ None
  pub is : (file : ℕ) → handle.file ≡ Some file → IsUnchanged found file s
  pub no_plain : handle.file ≡ None → found.is_file ≡ false

pub finds_learns : (handle : Handle) (found : Found) (n : Answer) (a b : Option History) →
    Turns (FindsOpen handle (Ok found)) n a b →
    Learns (Tells handle found) a b
finds_learns handle found n a b turn =
    learns (FindsOpen handle (Ok found)) (Tells handle found) n a b turn
    (λ s t x. (x.0, record { no_file = x.1; is = x.2; no_plain = x.3 }))

pub rests_known : (a b : Option History) → Rests a b → Learns (λ s. Unit {0}) a b
rests_known a b rests = rests_learns (λ s. Unit {0}) a b rests (λ s. tt)
