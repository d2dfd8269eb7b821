-- What a loss of power leaves of a folder.
use Rattle.std.specs.Prelude.{◌≡◌, ◌≢◌, ◌⊎◌, ℕ, ℤ, ◌+◌, ◌*◌, ◌<◌, ◌≤◌, Bool, List, [], ◌∷◌, length, Option, None, Some, slice_index}

-- What no call of a save changes.
pub record Fixed : Type 0 where
  -- to which name a name leads: to itself, or to where its link ends
  pub leads : List ℕ → List ℕ
  -- whether a file is a plain one, and no folder, link, device or pipe
  pub is_plain : ℕ → Bool
  -- whose a file is that a name has when a save begins
  pub user : ℕ → ℕ
  pub group : ℕ → ℕ
  -- on which device a file is, and which number it has there; on which device a folder is
  pub device : ℕ → ℕ
  pub inode : ℕ → ℕ
  pub folder_device : List ℕ → ℕ
  -- of which file the system says that another program holds its lock
  pub is_taken : ℕ → Bool

-- A folder as a loss of power sees it. What stands at a name is a file, and a file is a number: two names can have one.
pub record FolderState : Type 0 where
  -- the files that a name had since its folder was synced, the newest first, and None where it had none
  pub names : List ℕ → List (Option ℕ)
  -- the bytes that a plain file had since it was synced, the newest first
  pub files : ℕ → List (List ℕ)
  -- when a file was last written, in seconds and in billionths more
  pub seconds : ℕ → ℤ
  pub billionths : ℕ → ℤ
  pub fixed : Fixed

-- the first, or this where there is none
abbrev pub newest : {A : Type 0} → A → List A → A
newest none [] = none
newest none (x ∷ xs) = x

-- it holds of one of them
abbrev pub SomeOf : {A : Type 0} → (A → Type 0) → List A → Type 0
SomeOf P [] = ⊥
SomeOf P (x ∷ xs) = P x ⊎ SomeOf P xs

-- the file that a name has now, and the bytes that are read of a file now
abbrev pub file_of : FolderState → List ℕ → Option ℕ
file_of s name = newest None (s.names name)

abbrev pub bytes_of : FolderState → ℕ → List ℕ
bytes_of s file = newest [] (s.files file)

-- to which name a name leads
abbrev pub target : FolderState → List ℕ → List ℕ
target s name = s.fixed.leads name

-- a name that is no link, at which there is nothing
pub record IsFree (s : FolderState) (name : List ℕ) : Type 0 where
  pub no_link : target s name ≡ name
  pub nothing : file_of s name ≡ None

-- another name has the file of this one
pub record IsShared (s : FolderState) (name : List ℕ) : Type 0 where
  pub file : ℕ
  pub other : List ℕ
  pub apart : other ≢ name
  pub here : file_of s name ≡ Some file
  pub there : file_of s other ≡ Some file

-- the byte at a place, and 0 behind the end
abbrev pub byte_at : List ℕ → ℕ → ℕ
byte_at bytes i = slice_index bytes i

-- how many bytes a disk writes at once, at the least
abbrev pub block_bytes : ℕ
block_bytes = 64

-- these bytes have in the block of this number what the version has there
abbrev pub HasBlock : List ℕ → ℕ → List ℕ → Type 0
HasBlock bytes k version =
    (i : ℕ) → block_bytes * k ≤ i → i < block_bytes * k + block_bytes → i < length bytes →
    byte_at bytes i ≡ byte_at version i

-- What a file with these versions may hold: each block is that of one of them, and so 0 where that one was shorter. The
-- length is one that it had, or lies between.
pub record MayHold (versions : List (List ℕ)) (bytes : List ℕ) : Type 0 where
  pub blocks : (k : ℕ) → SomeOf (HasBlock bytes k) versions
  pub least : SomeOf (λ v. length v ≤ length bytes) versions
  pub most : SomeOf (λ v. length bytes ≤ length v) versions

-- what is left at a name that has this file: its bytes, or nothing
abbrev pub LeavesOf : FolderState → Option (List ℕ) → Option ℕ → Type 0
LeavesOf s left None = left ≡ None
LeavesOf s left (Some file) = (bytes : List ℕ) × MayHold (s.files file) bytes × (left ≡ Some bytes)

-- a loss of power may leave this at the name
abbrev pub Leaves : FolderState → List ℕ → Option (List ℕ) → Type 0
Leaves s name left = SomeOf (LeavesOf s left) (s.names name)

-- the name has a file now that was synced with these bytes, so they are read there
abbrev pub HasNow : FolderState → List ℕ → List ℕ → Type 0
HasNow s name bytes = (file : ℕ) × (file_of s name ≡ Some file) × (s.files file ≡ bytes ∷ [])

-- it leaves these bytes there and nothing else
abbrev pub IsDurable : FolderState → List ℕ → List ℕ → Type 0
IsDurable s name bytes = (left : Option (List ℕ)) → Leaves s name left → left ≡ Some bytes
