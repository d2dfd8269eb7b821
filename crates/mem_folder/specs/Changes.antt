-- The state of a folder, by the changes that were made to it.
use Rattle.std.specs.Prelude.{◌≡◌, ℕ, ◌<◌, ◌≤◌, pos, ◌==◌, true, false, List, [], ◌∷◌, Option, None, Some, bytes_eq, string_bytes, if◌then◌else◌}
use Rattle.durable_folder.specs.FolderState.{FolderState, Fixed, SomeOf, newest}
use Rattle.mem_folder.specs.declared.change.Left.{Left}
use Rattle.mem_folder.specs.declared.change.Left.TheVariants as left
use Rattle.mem_folder.specs.declared.change.Change.{Change}
use Rattle.mem_folder.specs.declared.change.Change.TheVariants as change

-- the last of these alone
abbrev pub last_alone : {A : Type 0} → A → List A → List A
last_alone x [] = x ∷ []
last_alone x (y ∷ ys) = last_alone y ys

-- Of the versions, the newest first, the newest alone is left, or the oldest.
abbrev pub alone : {A : Type 0} → Left → List A → List A
alone which [] = []
alone left.Newest (v ∷ vs) = v ∷ []
alone left.Synced (v ∷ vs) = last_alone v vs

-- the files that a name had since the names were synced, after a change, where it had these before
abbrev pub named_after : List ℕ → Change → List (Option ℕ) → List (Option ℕ)
named_after name (change.Made it file) had = if bytes_eq (string_bytes it) name then Some file ∷ had else had
named_after name (change.Removed it) had = if bytes_eq (string_bytes it) name then None ∷ had else had
named_after name (change.Moved from to file) had =
    if bytes_eq (string_bytes from) name then None ∷ had
    else (if bytes_eq (string_bytes to) name then Some file ∷ had else had)
named_after name (change.Linked it file) had = if bytes_eq (string_bytes it) name then Some file ∷ had else had
named_after name (change.Wrote file bytes) had = had
named_after name (change.Synced file) had = had
named_after name change.SyncedNames had = newest None had ∷ []
named_after name (change.Lost names bytes) had = alone names had

-- the bytes that a file had since it was synced, after a change, where it had these before
abbrev pub held_after : ℕ → Change → List (List ℕ) → List (List ℕ)
held_after file (change.Made name it) had = if it == file then [] ∷ [] else had
held_after file (change.Removed name) had = had
held_after file (change.Moved from to it) had = had
held_after file (change.Linked name it) had = had
held_after file (change.Wrote it bytes) had = if it == file then bytes.items ∷ had else had
held_after file (change.Synced it) had = if it == file then newest [] had ∷ [] else had
held_after file change.SyncedNames had = had
held_after file (change.Lost names bytes) had = alone bytes had

-- the files that a name had once these changes were made, and the bytes that a file had
abbrev pub named_from : List ℕ → List (Option ℕ) → List Change → List (Option ℕ)
named_from name had [] = had
named_from name had (c ∷ cs) = named_from name (named_after name c had) cs

abbrev pub held_from : ℕ → List (List ℕ) → List Change → List (List ℕ)
held_from file had [] = had
held_from file had (c ∷ cs) = held_from file (held_after file c had) cs

abbrev pub named : List Change → List ℕ → List (Option ℕ)
named changes name = named_from name (None ∷ []) changes

abbrev pub held : List Change → ℕ → List (List ℕ)
held changes file = held_from file ([] ∷ []) changes

-- No name is a link, each file is a plain one and is root's, all is on one device, and no other program holds a lock.
abbrev pub the_fixed : Fixed
the_fixed = record {
  leads = λ name. name;
  is_plain = λ file. true;
  user = λ file. 0;
  group = λ file. 0;
  device = λ file. 0;
  inode = λ file. file;
  folder_device = λ name. 0;
  is_taken = λ file. false;
}

-- the state of a folder that was empty before these changes
abbrev pub state_of : List Change → FolderState
state_of changes = record {
  names = named changes;
  files = held changes;
  seconds = λ file. pos 0;
  billionths = λ file. pos 0;
  fixed = the_fixed;
}

-- the newest of the versions is the first of these, and the oldest the second
pub record IsSeen {A : Type 0} (versions : List A) (now kept : A) : Type 0 where
  pub rest : List A
  pub newest : versions ≡ now ∷ rest
  pub oldest : last_alone now rest ≡ kept ∷ []

-- no name had this file
abbrev pub IsFresh : List Change → ℕ → Type 0
IsFresh changes file = (name : List ℕ) → SomeOf (λ f. f ≡ Some file) (named changes name) → ⊥

-- these files are numbered below this
abbrev pub AllBelow : List Change → ℕ → Type 0
AllBelow changes next = (name : List ℕ) (file : ℕ) → SomeOf (λ f. f ≡ Some file) (named changes name) → file < next

-- the number that a change gives to a name
abbrev pub number_of : Change → Option ℕ
number_of (change.Made it file) = Some file
number_of (change.Moved from to file) = Some file
number_of (change.Linked it file) = Some file
number_of _ = None

-- it is no less than the first number, and above the second one if there is one
pub record IsAbove (next : ℕ) (number : Option ℕ) (above : ℕ) : Type 0 where
  pub least : next ≤ above
  pub over : (file : ℕ) → number ≡ Some file → file < above
