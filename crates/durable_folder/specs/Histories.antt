-- The states through which a folder goes.
use Rattle.std.specs.Prelude.{◌≡◌, ◌⊎◌, ℕ, ◌+◌, List, [], ◌∷◌, ◌++◌, Option, None, Some}
use Rattle.std.specs.List.{AllByRecursion}
use Rattle.durable_folder.specs.FolderState.{FolderState, SomeOf, IsDurable, HasNow, file_of, target}
use Rattle.durable_folder.specs.Places.{folder_of}

-- What the system gave no leave for, or did not do.
pub data Refusal : Type 0 where
  -- to give this file to a user and a group
  Giving : (file : Option ℕ) (user group : ℕ) → Refusal
  -- to say who may do what with this file
  Setting : (file : Option ℕ) → Refusal
  -- to make a file of this name
  Making : (name : List ℕ) → Refusal
  -- to put the file of the first name at the second
  Moving : (from to : List ℕ) → Refusal
  -- to open this folder
  Opening : (place : List ℕ) → Refusal
  -- to tell where a link ends that leads to this file
  Leading : (file : Option ℕ) → Refusal
  -- to put anything in the place of what is at this name: a file got the name where nothing was
  Replacing : (name : List ℕ) → Refusal
  -- to give this name to a file only where nothing is
  Linking : (name : List ℕ) → Refusal

-- What was told of a file that is open.
pub data Sight : Type 0 where
  -- it holds its lock, as far as the system knows locks
  Held : (file : Option ℕ) → Sight
  -- a name leads to it
  Named : (file : Option ℕ) → Sight
  -- how many bytes it has, and when it was last written
  Seen : (file : Option ℕ) → Sight

-- The state of a folder, those before it, the newest first, and what the system has answered so far.
pub record History : Type 0 where
  pub now : FolderState
  pub before : List FolderState
  -- what it refused, the newest first
  pub refusals : List Refusal
  -- how often it met a fault, or gave no leave for what has to be
  pub failures : ℕ
  -- which folders it said that it cannot sync, or gave no leave to open
  pub unsynced : List (List ℕ)
  -- what it told of open files, the newest first, as far as a claim needs it
  pub sights : List Sight

-- What one answer adds to these.
pub record Answer : Type 0 where
  pub refusals : List Refusal
  pub failures : ℕ
  pub unsynced : List (List ℕ)

-- A call of the system went from one state to the next, which stands in this relation to the one before, and was
-- answered so.
abbrev pub Turns : (FolderState → FolderState → Type 0) → Answer → Option History → Option History → Type 0
Turns step answer (Some h) (Some k) =
    step h.now k.now × (k.before ≡ h.now ∷ h.before) × (k.refusals ≡ answer.refusals ++ h.refusals) ×
    (k.failures ≡ h.failures + answer.failures) × (k.unsynced ≡ answer.unsynced ++ h.unsynced)
Turns step answer None None = Unit {0}
Turns step answer _ _ = ⊥

-- the file that a name has now, and the one to which it leads, where states are told
abbrev pub file_at : List ℕ → Option History → Option ℕ
file_at name None = None
file_at name (Some h) = file_of h.now name

abbrev pub end_at : List ℕ → Option History → Option ℕ
end_at name None = None
end_at name (Some h) = file_of h.now (target h.now name)

-- the system said that it cannot sync the folder of this name, or gave no leave to open it
abbrev pub CannotSync : List ℕ → History → Type 0
CannotSync name h = SomeOf (λ place. place ≡ folder_of name) h.unsynced

-- the name has this file now, and no other after a loss of power, unless its folder cannot be synced
abbrev pub HasFile : List ℕ → Option ℕ → History → Type 0
HasFile name file h = (file_of h.now name ≡ file) × ((h.now.names name ≡ file ∷ []) ⊎ CannotSync name h)

-- The name has a file now that was synced with these bytes, and a loss of power leaves them there and nothing else,
-- unless its folder cannot be synced.
abbrev pub IsSaved : List ℕ → List ℕ → History → Type 0
IsSaved name bytes h = HasNow h.now name bytes × (IsDurable h.now name bytes ⊎ CannotSync name h)

-- No refusal was forgotten.
pub record KeepsRefusals (h k : History) : Type 0 where
  pub since : List Refusal
  pub are : k.refusals ≡ since ++ h.refusals

-- Since the first history the system refused what this says.
pub record RefusedSince (P : Refusal → Type 0) (h k : History) : Type 0 where
  pub since : List Refusal
  pub are : k.refusals ≡ since ++ h.refusals
  pub some : SomeOf P since

-- Since the first history, every state stands in this relation to the first one, and the last history in that relation
-- to it. Refusals were not forgotten.
abbrev pub Passes : (FolderState → FolderState → Type 0) → (History → History → Type 0) → Option History →
    Option History → Type 0
Passes every last (Some h) (Some k) =
    (since : List FolderState) × (k.now ∷ k.before ≡ since ++ h.now ∷ h.before) × AllByRecursion (every h.now) since ×
    KeepsRefusals h k × last h k
Passes every last None None = Unit {0}
Passes every last _ _ = ⊥

-- the same, as a fact by which its parts are found
pub record Runs (every : FolderState → FolderState → Type 0) (last : History → History → Type 0)
    (old new : Option History) : Type 0 where
  pub run : Passes every last old new

-- Nothing has changed, and this holds of the state.
abbrev pub Learns : (FolderState → Type 0) → Option History → Option History → Type 0
Learns P = Runs (λ s t. t ≡ s) (λ h k. (k.now ≡ h.now) × P h.now)

-- nothing has changed
abbrev pub Rests : Option History → Option History → Type 0
Rests = Runs (λ s t. t ≡ s) (λ h k. k.now ≡ h.now)

-- it tells its states
abbrev pub IsTold : Option History → Type 0
IsTold (Some h) = Unit {0}
IsTold None = ⊥

-- this is the folder of the name, where states are told
pub record IsPlaceOf (place name : List ℕ) (a : Option History) : Type 0 where
  pub is : IsTold a → place ≡ folder_of name
