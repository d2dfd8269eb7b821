-- What a save comes to that puts a new file, whose lock is held, in the place of one whose lock is held.
use Rattle.std.specs.Prelude.{◌≡◌, ◌≢◌, ℕ, ◌≤◌, Bool, true, false, List, [], ◌∷◌, Option, None, Some, IfOk, IfSome, Result, Ok, Err}
use Rattle.std.specs.declared.io.Error.{Error}
use Rattle.durable_folder.specs.declared.answers.Replaced.{Replaced}
use Rattle.durable_folder.specs.declared.answers.Replaced.TheVariants as replaced
use Rattle.durable_folder.specs.declared.folder.Found.{Found}
use Rattle.durable_folder.specs.declared.replacing.Owner.{Owner}
use Rattle.durable_folder.specs.Calls.{Handle}
use Rattle.durable_folder.specs.FolderState.{FolderState, file_of}
use Rattle.durable_folder.specs.Histories.{History, Held, Seen, Sight, Runs, IsSaved}
use Rattle.durable_folder.specs.Saving.{IsNew, KeepsOrReplaces, Prepares}
use Rattle.durable_folder.specs.Ways.{MustBeInPlace, MustStay}

-- The name has a file, which is the open one by its device and its number, if that is a plain one.
pub record HasSame (opened : Option ℕ) (name : List ℕ) (s : FolderState) : Type 0 where
  pub file : ℕ
  pub there : file_of s name ≡ Some file
  pub device : (f : ℕ) → opened ≡ Some f → s.fixed.device f ≡ s.fixed.device file
  pub inode : (f : ℕ) → opened ≡ Some f → s.fixed.inode f ≡ s.fixed.inode file

-- the last that was told of open files
pub record IsLast (sight : Sight) (k : History) : Type 0 where
  pub earlier : List Sight
  pub are : k.sights ≡ sight ∷ earlier

-- the last history, if it is told
abbrev pub AtLast : (History → Type 0) → Option History → Type 0
AtLast P None = Unit {0}
AtLast P (Some h) = P h

-- what looking at a name and then at an open file told, and that it noted no folder
pub record LooksSame (handle : Handle) (name : List ℕ) (is : Bool) (h k : History) : Type 0 where
  pub stays : k.now ≡ h.now
  pub same : is ≡ true → HasSame handle.file name h.now
  pub last : IsLast (Seen handle.file) k
  pub noted : k.unsynced ≡ h.unsynced

abbrev pub Compared : Handle → List ℕ → Bool → Option History → Option History → Type 0
Compared handle name is = Runs (λ s t. t ≡ s) (LooksSame handle name is)

-- The old file was looked at, and then the lock of the new one came, which no other program holds.
pub record IsLocking (old new : Handle) (k : History) : Type 0 where
  pub is_held : new.is_held ≡ true
  pub is_free : (file : ℕ) → new.file ≡ Some file → k.now.fixed.is_taken file ≡ false
  pub earlier : List Sight
  pub sights : k.sights ≡ Held new.file ∷ Seen old.file ∷ earlier

-- A new file has these bytes durably, beside the name, and nothing else has changed. The old one was looked at, and
-- then the lock of this one came.
pub record IsReady (name bytes : List ℕ) (old new : Handle) (s : FolderState) (k : History) : Type 0 where
  pub beside : List ℕ
  pub file : ℕ
  pub is_new : IsNew name beside file s k.now
  pub is_open : new.file ≡ Some file
  pub whole : k.now.files file ≡ bytes ∷ []
  pub locking : IsLocking old new k

-- The name has the open file, which holds its lock, and no other program does. It was looked at last.
pub record IsRenewed (name : List ℕ) (new : Handle) (k : History) : Type 0 where
  pub file : ℕ
  pub is_open : new.file ≡ Some file
  pub there : file_of k.now name ≡ Some file
  pub is_held : new.is_held ≡ true
  pub is_free : k.now.fixed.is_taken file ≡ false
  pub last : IsLast (Seen new.file) k

-- The new file was whole and held beside the name, which had what it had before, and then came to the name.
abbrev pub Renews : List ℕ → List ℕ → Handle → Handle → Option History → Option History → Type 0
Renews name bytes old new a b =
    (ready : Option History) × Runs (Prepares name) (λ h k. IsReady name bytes old new h.now k) a ready ×
    Runs (λ s t. Unit {0}) (λ h k. IsRenewed name new k) ready b

-- the same, where an open file is given
abbrev pub KeepsLock : {H : Type 0} → (H → Handle) → List ℕ → List ℕ → Handle → Result (Option H) Error →
    Option History → Option History → Type 0
KeepsLock handle name bytes old result a b =
    IfOk result (λ given. IfSome given (λ new. Renews name bytes old (handle new) a b))

-- what came of a replacement by which an open file is given
abbrev pub replaced_of : {H : Type 0} → Result (Option H) Error → Result Replaced Error
replaced_of (Ok (Some file)) = Ok replaced.Done
replaced_of (Ok None) = Ok replaced.Refused
replaced_of (Err error) = Err error

-- The new file has the name, and a loss of power leaves its bytes. Or none came to it, for a reason, and nothing has
-- changed but for leftovers.
abbrev pub LockedEnds : {H : Type 0} → List ℕ → List ℕ → Result (Option H) Error → History → History → Type 0
LockedEnds name bytes (Ok (Some file)) h k = IsSaved name bytes k
LockedEnds name bytes (Ok None) h k = Prepares name h.now k.now × MustBeInPlace name h k
LockedEnds name bytes (Err error) h k = Unit {0}

abbrev pub SavesLocked : {H : Type 0} → List ℕ → List ℕ → Result (Option H) Error → Option History →
    Option History → Type 0
SavesLocked name bytes result = Runs (KeepsOrReplaces name bytes) (LockedEnds name bytes result)

-- the owner and the mode of what was found
pub record IsOwned (found : Found) (owner : Owner) : Type 0 where
  pub is_file : found.is_file ≡ true
  pub one_name : found.names ≤ 1
  pub user : owner.user ≡ found.user
  pub group : owner.group ≡ found.group
  pub permissions : owner.permissions ≡ found.permissions
  pub device : owner.device ≡ found.device

-- whose a new file has to be in the place of what was found, if that may be replaced
abbrev pub Owns : Found → Option Owner → Type 0
Owns found None = MustStay found
Owns found (Some owner) = IsOwned found owner
