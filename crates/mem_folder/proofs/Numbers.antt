-- The numbers of files.
use Rattle.mem_folder.proofs.Common.{◌≡◌, inl, inr, ℕ, ◌+◌, ◌<◌, Bool, true, false, List, [], ◌∷◌, Option, None, Some, length, take, bytes_eq, string_bytes, arith, SomeOf, AllBelow, IsFresh, alone, named, named_after, Left, Change}
use Rattle.std.proofs.Common.{◌⊎◌, get_or, if◌then◌else◌}
use Rattle.mem_folder.specs.Changes.{IsAbove, last_alone, number_of}
use Rattle.mem_folder.specs.declared.change.Left.TheVariants as left
use Rattle.mem_folder.specs.declared.change.Change.TheVariants as change
use Rattle.mem_folder.proofs.Seeing.{named-more}

-- it is one of these
abbrev Has : List (Option ℕ) → ℕ → Type 0
Has had file = SomeOf (λ f. f ≡ Some file) had

-- what holds of the one that is left holds of one of them
of_last : {A : Type 0} (P : A → Type 0) (x : A) (xs : List A) → SomeOf P (last_alone x xs) → SomeOf P (x ∷ xs)
of_last P x [] h = h
of_last P x (y ∷ ys) h = inr (of_last P y ys h)

pub of_alone : {A : Type 0} (P : A → Type 0) (which : Left) (xs : List A) → SomeOf P (alone which xs) → SomeOf P xs
of_alone P which [] h = h
of_alone P left.Newest (x ∷ xs) (inl h) = inl h
of_alone P left.Newest (x ∷ xs) (inr h) = absurd h
of_alone P left.Synced (x ∷ xs) h = of_last P x xs h

no_file : (file : ℕ) → None ≡ Some file → ⊥
no_file file e = grind arith

born_if : (b : Bool) (x : Option ℕ) (had : List (Option ℕ)) (file : ℕ) → Has (if b then x ∷ had else had) file →
    Has had file ⊎ (x ≡ Some file)
born_if true x had file (inl e) = inr e
born_if true x had file (inr h) = inl h
born_if false x had file h = inl h

gone_if : (b : Bool) (had other : List (Option ℕ)) (file : ℕ) → Has (if b then None ∷ had else other) file →
    Has had file ⊎ Has other file
gone_if true had other file (inl e) = absurd (no_file file e)
gone_if true had other file (inr h) = inl h
gone_if false had other file h = inr h

-- a file that a name has after a change it had before, or the change gives it
born : (c : Change) (name : List ℕ) (had : List (Option ℕ)) (file : ℕ) → Has (named_after name c had) file →
    Has had file ⊎ (number_of c ≡ Some file)
born (change.Made it n) name had file h = born_if (bytes_eq (string_bytes it) name) (Some n) had file h
born (change.Removed it) name had file h = born_if (bytes_eq (string_bytes it) name) None had file h
born (change.Moved from to n) name had file h =
    elim (gone_if (bytes_eq (string_bytes from) name) had (if bytes_eq (string_bytes to) name then Some n ∷ had
    else had) file h) [
      | inl before ↦ inl before
      | inr after ↦ born_if (bytes_eq (string_bytes to) name) (Some n) had file after
    ]
born (change.Linked it n) name had file h = born_if (bytes_eq (string_bytes it) name) (Some n) had file h
born (change.Wrote n bytes) name had file h = inl h
born (change.Synced n) name had file h = inl h
born change.SyncedNames name [] file (inl e) = absurd (no_file file e)
born change.SyncedNames name [] file (inr h) = absurd h
born change.SyncedNames name (x ∷ xs) file (inl e) = inl (inl e)
born change.SyncedNames name (x ∷ xs) file (inr h) = absurd h
born (change.Lost names bytes) name had file h = inl (of_alone (λ f. f ≡ Some file) names had h)

pub below-more : (cs : List Change) (i : ℕ) (d : Change) (next above : ℕ) → i < length cs → AllBelow (take i cs) next →
    IsAbove next (number_of (get_or cs i d)) above → AllBelow (take (i + 1) cs) above
below-more cs i d next above within all is name file h =
    let after : Has (named_after name (get_or cs i d) (named (take i cs) name)) file =
    rw (named-more cs i d name within) at h in
    elim (born (get_or cs i d) name (named (take i cs) name) file after) [
      | inl before ↦ let less : file < next = all name file before in omega (arith, is.least)
      | inr given ↦ is.over file given
    ]

-- what is no less than all numbers is a new one
pub below-fresh : (cs : List Change) (next : ℕ) → AllBelow cs next → IsFresh cs next
below-fresh cs next all name had = let less : next < next = all name next had in omega arith
