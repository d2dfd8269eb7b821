-- What each change does to the state of a folder.
use Rattle.mem_folder.proofs.Common.{◌≡◌, ℕ, Bool, true, false, List, [], ◌∷◌, ◌++◌, Option, None, Some, Vec, bytes_eq, string_bytes, refl, sym, ap, ◌∙◌, inl, inr, Ok, Err, Global, SomeOf, newest, Error, IsFresh, named_after, named, held_after, state_of, Change}
use Rattle.std.proofs.Common.{◌≢◌, ◌==◌, String, Result, IfErr, OnOk}
use Rattle.std.specs.Bool.{Decides}
use Rattle.std.proofs.lemmas.Slice.Eq.{bytes_eq-Decides}
use Rattle.std.proofs.lemmas.Bool.Decides.{Decides-eqb}
use Rattle.durable_folder.specs.Calls.{Adds, Links, Makes, Moves, Drops, SyncsNames, SparesNames, Renames, Removes, SyncsFolder}
use Rattle.mem_folder.specs.Changes.{held}
use Rattle.mem_folder.specs.Telling.{IsStarved}
use Rattle.mem_folder.specs.declared.change.Change.TheVariants as change
use Rattle.mem_folder.proofs.Filled.{IsFilled, named_filled}
use Rattle.mem_folder.proofs.Seeing.{named_from-append, held_from-append}

-- one change more
pub named-append : (cs : List Change) (c : Change) (name : List ℕ) →
    named (cs ++ c ∷ []) name ≡ named_after name c (named cs name)
named-append cs c name = named_from-append name (None ∷ []) cs c

pub held-append : (cs : List Change) (c : Change) (file : ℕ) →
    held (cs ++ c ∷ []) file ≡ held_after file c (held cs file)
held-append cs c file = held_from-append file ([] ∷ []) cs c

no_answer : {P : Type 0} (b : Bool) → Decides b P → (P → ⊥) → b ≡ false
no_answer true d wrong = absurd (wrong (d.0 refl))
no_answer false d wrong = refl

same_text : (name : List ℕ) → bytes_eq name name ≡ true
same_text name = (bytes_eq-Decides name name).1 refl

other_text : (a b : List ℕ) → a ≢ b → bytes_eq a b ≡ false
other_text a b apart = no_answer (bytes_eq a b) (bytes_eq-Decides a b) apart

same_number : (n : ℕ) → (n == n) ≡ true
same_number n = (Decides-eqb n n).1 refl

other_number : (a b : ℕ) → a ≢ b → (a == b) ≡ false
other_number a b apart = no_answer (a == b) (Decides-eqb a b) apart

pub makes : (cs : List Change) (it : String Global) (file : ℕ) → newest None (named cs (string_bytes it)) ≡ None →
    IsFresh cs file →
    Makes file (string_bytes it) (state_of cs) (state_of (cs ++ change.Made it file ∷ []))
makes cs it file free fresh = record {
  is_free = free;
  is_fresh = fresh;
  is_plain = refl;
  named = rw (named-append cs (change.Made it file) (string_bytes it), same_text (string_bytes it)) refl;
  empty = rw (held-append cs (change.Made it file) file, same_number file) refl;
  spares = record {
    names = λ n apart. rw (
      named-append cs (change.Made it file) n,
      other_text (string_bytes it) n (λ e. apart (sym e)),
    ) refl;
    files = λ f apart. rw (held-append cs (change.Made it file) f, other_number file f (λ e. apart (sym e))) refl;
    fixed = refl;
  };
}

pub moves : (cs : List Change) (from to : String Global) (file : ℕ) →
    newest None (named cs (string_bytes from)) ≡ Some file →
    string_bytes from ≢ string_bytes to →
    Moves (string_bytes from) (string_bytes to) (state_of cs) (state_of (cs ++ change.Moved from to file ∷ []))
moves cs from to file there apart = record {
  arrives = rw (
    named-append cs (change.Moved from to file) (string_bytes to),
    other_text (string_bytes from) (string_bytes to) apart,
    same_text (string_bytes to),
    there,
  ) refl;
  leaves = rw (named-append cs (change.Moved from to file) (string_bytes from), same_text (string_bytes from)) refl;
  others = λ n not_from not_to. rw (
    named-append cs (change.Moved from to file) n,
    other_text (string_bytes from) n (λ e. not_from (sym e)),
    other_text (string_bytes to) n (λ e. not_to (sym e)),
  ) refl;
  files = record { files = λ f. held-append cs (change.Moved from to file) f; fixed = refl };
}

pub adds : (cs : List Change) (from : List ℕ) (it : String Global) (file : ℕ) →
    newest None (named cs from) ≡ Some file →
    Adds from (string_bytes it) (state_of cs) (state_of (cs ++ change.Linked it file ∷ []))
adds cs from it file there = record {
  arrives = rw (
    named-append cs (change.Linked it file) (string_bytes it),
    same_text (string_bytes it),
    there,
  ) refl;
  others = λ n apart. rw (
    named-append cs (change.Linked it file) n,
    other_text (string_bytes it) n (λ e. apart (sym e)),
  ) refl;
  files = record { files = λ f. held-append cs (change.Linked it file) f; fixed = refl };
}

pub drops : (cs : List Change) (it : String Global) →
    Drops (string_bytes it) (state_of cs) (state_of (cs ++ change.Removed it ∷ []))
drops cs it = record {
  gone = rw (named-append cs (change.Removed it) (string_bytes it), same_text (string_bytes it)) refl;
  others = λ n apart. rw (
    named-append cs (change.Removed it) n,
    other_text (string_bytes it) n (λ e. apart (sym e)),
  ) refl;
  files = record { files = λ f. held-append cs (change.Removed it) f; fixed = refl };
}

-- The answer of noting a change: it is noted, or there is no memory.
pub record IsNoted (cs : List Change) (c : Change) (result : Result (Unit {0}) Error) (ds : List Change) : Type 0 where
  pub ok : OnOk result (ds ≡ cs ++ c ∷ [])
  pub err : IfErr result (λ error. (ds ≡ cs) × IsStarved error)

pub renames : (cs ds : List Change) (from to : String Global) (file : ℕ) (result : Result (Unit {0}) Error) →
    newest None (named cs (string_bytes from)) ≡ Some file → newest None (named cs (string_bytes to)) ≢ Some file →
    IsNoted cs (change.Moved from to file) result ds →
    Renames (string_bytes from) (string_bytes to) result (state_of cs) (state_of ds)
renames cs ds from to file (Ok done) there other noted = (
  λ _. rw noted.ok (moves cs from to file there
      (λ same. other (ap (λ name. newest None (named cs name)) (sym same) ∙ there))),
  λ same. absurd (other (sym same ∙ there)),
)
renames cs ds from to file (Err error) there other noted = ap state_of noted.err.0

pub links : (cs ds : List Change) (from : List ℕ) (it : String Global) (file : ℕ) (result : Result (Unit {0}) Error) →
    newest None (named cs from) ≡ Some file → newest None (named cs (string_bytes it)) ≡ None →
    IsNoted cs (change.Linked it file) result ds →
    Links from (string_bytes it) result (state_of cs) (state_of ds)
links cs ds from it file (Ok done) there free noted = (free, rw noted.ok (adds cs from it file there))
links cs ds from it file (Err error) there free noted = ap state_of noted.err.0

pub removes : (cs ds : List Change) (it : String Global) (result : Result (Unit {0}) Error) →
    IsNoted cs (change.Removed it) result ds →
    Removes (string_bytes it) result (state_of cs) (state_of ds)
removes cs ds it (Ok done) noted = rw noted.ok (drops cs it)
removes cs ds it (Err error) noted = ap state_of noted.err.0

newest_is_one : (f : Option ℕ) (xs : List (Option ℕ)) → IsFilled xs → SomeOf (λ g. g ≡ f) (newest None xs ∷ []) →
    SomeOf (λ g. g ≡ f) xs
newest_is_one f [] h one = absurd h
newest_is_one f (x ∷ xs) h (inl is) = inl is
newest_is_one f (x ∷ xs) h (inr none) = absurd none

pub settles : (cs : List Change) (place : List ℕ) →
    SyncsNames place (state_of cs) (state_of (cs ++ change.SyncedNames ∷ []))
settles cs place = record {
  here = λ n _. named-append cs change.SyncedNames n;
  others = λ n f one. newest_is_one f (named cs n) (named_filled cs n) (rw (named-append cs change.SyncedNames n) at one);
  files = record { files = λ f. held-append cs change.SyncedNames f; fixed = refl };
}

pub syncs_folder : (cs ds : List Change) (place : List ℕ) (result : Result (Unit {0}) Error) →
    IsNoted cs change.SyncedNames result ds →
    SyncsFolder place result (state_of cs) (state_of ds)
syncs_folder cs ds place (Ok done) noted = rw noted.ok (settles cs place)
syncs_folder cs ds place (Err error) noted = ap state_of noted.err.0

-- the bytes of one file change
pub wrote : (cs : List Change) (file : ℕ) (bytes : Vec ℕ Global) →
    SparesNames file (state_of cs) (state_of (cs ++ change.Wrote file bytes ∷ [])) ×
    (held (cs ++ change.Wrote file bytes ∷ []) file ≡ bytes.items ∷ held cs file)
wrote cs file bytes = (
  record {
    names = λ n. named-append cs (change.Wrote file bytes) n;
    files = λ f apart. rw (held-append cs (change.Wrote file bytes) f, other_number file f (λ e. apart (sym e))) refl;
    fixed = refl;
  },
  rw (held-append cs (change.Wrote file bytes) file, same_number file) refl,
)

pub synced : (cs : List Change) (file : ℕ) →
    SparesNames file (state_of cs) (state_of (cs ++ change.Synced file ∷ [])) ×
    (held (cs ++ change.Synced file ∷ []) file ≡ newest [] (held cs file) ∷ [])
synced cs file = (
  record {
    names = λ n. named-append cs (change.Synced file) n;
    files = λ f apart. rw (held-append cs (change.Synced file) f, other_number file f (λ e. apart (sym e))) refl;
    fixed = refl;
  },
  rw (held-append cs (change.Synced file) file, same_number file) refl,
)
