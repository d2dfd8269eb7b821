-- Calls on one open file, one after another.
use Rattle.durable_folder.proofs.Common.{◌≡◌, ℕ, List, Option, None, Some, Result, Ok, Err, refl, ap, ◌∙◌, Error, FolderState, Handle, SparesNames, OfFile, History, Turns, Answer, FileRuns}
use Rattle.durable_folder.specs.Calls.{Seeks}
use Rattle.durable_folder.proofs.Passing.{runs_of, runs_weaker, runs_then}

abbrev pub Change : Type 1
Change = List (List ℕ) → List (List ℕ) → Type 0

pub spares_names_then : (f : ℕ) (s t u : FolderState) → SparesNames f s t → SparesNames f t u → SparesNames f s u
spares_names_then f s t u x y = record {
  names = λ n. y.names n ∙ x.names n;
  files = λ g other. y.files g other ∙ x.files g other;
  fixed = y.fixed ∙ x.fixed;
}

pub of_file_weaker : (P Q : Change) (file : Option ℕ) (s t : FolderState) → OfFile P file s t →
    ((vs ws : List (List ℕ)) → P vs ws → Q vs ws) →
    OfFile Q file s t
of_file_weaker P Q None s t x f = x
of_file_weaker P Q (Some file) s t x f = (x.0, f (s.files file) (t.files file) x.1)

pub of_file_then : (P Q R : Change) (file : Option ℕ) (s t u : FolderState) → OfFile P file s t → OfFile Q file t u →
    ((vs ws us : List (List ℕ)) → P vs ws → Q ws us → R vs us) → OfFile R file s u
of_file_then P Q R None s t u x y f = y ∙ x
of_file_then P Q R (Some file) s t u x y f =
    (spares_names_then file s t u x.0 y.0, f (s.files file) (t.files file) (u.files file) x.1 y.1)

-- no name changes with a file
pub of_file_names : (P : Change) (file : Option ℕ) (s t : FolderState) → OfFile P file s t → (n : List ℕ) →
    t.names n ≡ s.names n
of_file_names P None s t x n = ap (λ u. u.names n) x
of_file_names P (Some f) s t x n = x.0.names n

-- what stays, seen as a change of a file
pub of_file_stays : (P : Change) (file : Option ℕ) (s t : FolderState) → t ≡ s → ((vs : List (List ℕ)) → P vs vs) →
    OfFile P file s t
of_file_stays P None s t same p = same
of_file_stays P (Some file) s t same p = (
  record {
    names = λ n. ap (λ x. x.names n) same;
    files = λ g other. ap (λ x. x.files g) same;
    fixed = ap (λ x. x.fixed) same;
  },
  rw (ap (λ x. x.files file) same) (p (s.files file)),
)

-- one call
pub file_turn : (P : Change) (file : Option ℕ) (n : Answer) (a b : Option History) → Turns (OfFile P file) n a b →
    FileRuns file P P a b
file_turn P file n a b turn = record {
  run = runs_weaker a b (runs_of (OfFile P file) n a b turn) (λ s t x. x)
      (λ h k x. x.0);
}

-- one call after which all is as before
pub file_stays : (S : FolderState → FolderState → Type 0) (P E : Change) (file : Option ℕ) (n : Answer)
    (a b : Option History) → Turns S n a b →
    ((s t : FolderState) → S s t → t ≡ s) → ((vs : List (List ℕ)) → P vs vs) →
    ((s t : FolderState) → S s t → (vs : List (List ℕ)) → E vs vs) →
    FileRuns file P E a b
file_stays S P E file n a b turn same p e = record {
  run = runs_weaker a b (runs_of S n a b turn) (λ s t x. of_file_stays P file s t (same s t x) p)
      (λ h k x. of_file_stays E file h.now k.now (same h.now k.now x.0) (e h.now k.now x.0));
}

pub file_weaker : {file : Option ℕ} {P Q E F : Change} (a b : Option History) → FileRuns file P E a b →
    ((vs ws : List (List ℕ)) → P vs ws → Q vs ws) →
    ((vs ws : List (List ℕ)) → E vs ws → F vs ws) → FileRuns file Q F a b
file_weaker {file} {P} {Q} {E} {F} a b r p e = record {
  run = runs_weaker a b r.run (λ s t x. of_file_weaker P Q file s t x p)
      (λ h k x. of_file_weaker E F file h.now k.now x e);
}

pub file_then : {file : Option ℕ} {P E Q F R G : Change} (a b c : Option History) → FileRuns file P E a b →
    FileRuns file Q F b c →
    ((vs ws : List (List ℕ)) → P vs ws → R vs ws) → ((vs ws us : List (List ℕ)) → E vs ws → Q ws us → R vs us) →
    ((vs ws us : List (List ℕ)) → E vs ws → F ws us → G vs us) → FileRuns file R G a c
file_then {file} {P} {E} {Q} {F} {R} {G} a b c x y p q e = record {
  run = runs_then a b c x.run y.run (λ s t i. of_file_weaker P R file s t i p)
      (λ h k u i j. of_file_then E Q R file h.now k.now u i j q)
      (λ h k l i j. of_file_then E F G file h.now k.now l.now i j e);
}

seek_stays : (mid : Handle) (offset : ℕ) (result : Result (Unit {0}) Error) (s t : FolderState) →
    Seeks mid offset result s t → t ≡ s
seek_stays mid offset (Ok done) s t x = x.0
seek_stays mid offset (Err error) s t x = x

seek_offset : (mid : Handle) (offset : ℕ) (result : Result (Unit {0}) Error) (s t : FolderState) →
    Seeks mid offset result s t → result ≡ Ok tt →
    mid.offset ≡ offset
seek_offset mid offset (Ok done) s t x ok = x.1
seek_offset mid offset (Err error) s t x ok = absurd (cc)

-- a seek
pub file_sought : (file : Option ℕ) (mid : Handle) (offset : ℕ) (n : Answer) (result : Result (Unit {0}) Error)
    (a b : Option History) →
    Turns (Seeks mid offset result) n a b →
    FileRuns file (λ vs ws. ws ≡ vs) (λ vs ws. (ws ≡ vs) × (result ≡ Ok tt → mid.offset ≡ offset)) a b
file_sought file mid offset n result a b turn =
    file_stays (Seeks mid offset result) (λ vs ws. ws ≡ vs) (λ vs ws. (ws ≡ vs)
    × (result ≡ Ok tt → mid.offset ≡ offset)) file n a b turn
    (seek_stays mid offset result) (λ vs. refl) (λ s t x vs. (refl, seek_offset mid offset result s t x))
