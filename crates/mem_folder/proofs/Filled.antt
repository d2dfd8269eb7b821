-- A name and a file have a version at any time.
use Rattle.mem_folder.proofs.Common.{◌≡◌, ℕ, Bool, true, false, List, [], ◌∷◌, Option, None, Some, bytes_eq, string_bytes, refl, newest, alone, named_after, named, held_after, Left, Change}
use Rattle.std.proofs.Common.{◌==◌, if◌then◌else◌}
use Rattle.mem_folder.specs.Changes.{last_alone, named_from, held_from, held}
use Rattle.mem_folder.specs.declared.change.Left.TheVariants as left
use Rattle.mem_folder.specs.declared.change.Change.TheVariants as change

-- there is one
abbrev pub IsFilled : {A : Type 0} → List A → Type 0
IsFilled [] = ⊥
IsFilled (x ∷ xs) = Unit {0}

filled_if : {A : Type 0} (b : Bool) (xs ys : List A) → IsFilled xs → IsFilled ys → IsFilled (if b then xs else ys)
filled_if true xs ys h k = h
filled_if false xs ys h k = k

pub one_last : {A : Type 0} (x : A) (xs : List A) → (y : A) × (last_alone x xs ≡ y ∷ [])
one_last x [] = (x, refl)
one_last x (y ∷ ys) = one_last y ys

-- one alone is left
pub one_alone : {A : Type 0} (which : Left) (xs : List A) → IsFilled xs → (y : A) × (alone which xs ≡ y ∷ [])
one_alone which [] h = absurd h
one_alone left.Newest (x ∷ xs) h = (x, refl)
one_alone left.Synced (x ∷ xs) h = one_last x xs

filled_last : {A : Type 0} (x : A) (xs : List A) → IsFilled (last_alone x xs)
filled_last x [] = tt
filled_last x (y ∷ ys) = filled_last y ys

filled_alone : {A : Type 0} (which : Left) (xs : List A) → IsFilled xs → IsFilled (alone which xs)
filled_alone which [] h = absurd h
filled_alone left.Newest (x ∷ xs) h = tt
filled_alone left.Synced (x ∷ xs) h = filled_last x xs

named_filled_after : (name : List ℕ) (c : Change) (had : List (Option ℕ)) → IsFilled had →
    IsFilled (named_after name c had)
named_filled_after name (change.Made it file) had h = filled_if (bytes_eq (string_bytes it) name)
    (Some file ∷ had) had tt h
named_filled_after name (change.Removed it) had h = filled_if (bytes_eq (string_bytes it) name) (None ∷ had) had tt h
named_filled_after name (change.Moved from to file) had h =
    filled_if (bytes_eq (string_bytes from) name) (None ∷ had) (if bytes_eq (string_bytes to) name
    then Some file ∷ had else had) tt
    (filled_if (bytes_eq (string_bytes to) name) (Some file ∷ had) had tt h)
named_filled_after name (change.Linked it file) had h = filled_if (bytes_eq (string_bytes it) name)
    (Some file ∷ had) had tt h
named_filled_after name (change.Wrote file bytes) had h = h
named_filled_after name (change.Synced file) had h = h
named_filled_after name change.SyncedNames had h = tt
named_filled_after name (change.Lost names bytes) had h = filled_alone names had h

named_filled_from : (name : List ℕ) (had : List (Option ℕ)) (cs : List Change) → IsFilled had →
    IsFilled (named_from name had cs)
named_filled_from name had [] h = h
named_filled_from name had (c ∷ cs) h = named_filled_from name (named_after name c had) cs
    (named_filled_after name c had h)

pub named_filled : (cs : List Change) (name : List ℕ) → IsFilled (named cs name)
named_filled cs name = named_filled_from name (None ∷ []) cs tt

held_filled_after : (file : ℕ) (c : Change) (had : List (List ℕ)) → IsFilled had → IsFilled (held_after file c had)
held_filled_after file (change.Made name it) had h = filled_if (it == file) ([] ∷ []) had tt h
held_filled_after file (change.Removed name) had h = h
held_filled_after file (change.Moved from to it) had h = h
held_filled_after file (change.Linked name it) had h = h
held_filled_after file (change.Wrote it bytes) had h = filled_if (it == file) (bytes.items ∷ had) had tt h
held_filled_after file (change.Synced it) had h = filled_if (it == file) (newest [] had ∷ []) had tt h
held_filled_after file change.SyncedNames had h = h
held_filled_after file (change.Lost names bytes) had h = filled_alone bytes had h

held_filled_from : (file : ℕ) (had : List (List ℕ)) (cs : List Change) → IsFilled had → IsFilled (held_from file had cs)
held_filled_from file had [] h = h
held_filled_from file had (c ∷ cs) h = held_filled_from file (held_after file c had) cs (held_filled_after file c had h)

pub held_filled : (cs : List Change) (file : ℕ) → IsFilled (held cs file)
held_filled cs file = held_filled_from file ([] ∷ []) cs tt
