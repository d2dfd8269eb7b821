-- Whose the lock of a file is, and whether the file is still as it was loaded.
use Rattle.std.specs.Prelude.{◌≡◌, ◌≢◌, ◌⊎◌, ℕ, Bool, true, false, List, take, Option, None, Some, Result, Ok, Err, IfErr}
use Rattle.std.specs.IoError.{error_kind}
use Rattle.std.specs.Option.{option_map}
use Rattle.std.specs.Result.{IsErrAnd}
use Rattle.std.specs.declared.io.Error.{Error}
use Rattle.std.specs.declared.io.ErrorKind.TheVariants as kind
use Rattle.durable_folder.specs.Calls.{Handle, IsUnchanged, if_plain}
use Rattle.durable_folder.specs.Causes.{HasFailed, IsLater, IsCause}
use Rattle.durable_folder.specs.FolderState.{FolderState, bytes_of, file_of, target}
use Rattle.durable_folder.specs.Histories.{History, Learns, Rests}
use Rattle.durable_folder.specs.Ways.{IsSpecial}
use Rattle.durable_folder.specs.declared.folder.Found.{Found}
use Rattle.durable_folder.specs.declared.loading.Loaded.{Loaded}

-- the plain file to which a name leads
pub record LeadsToFile (name : List ℕ) (file : ℕ) (s : FolderState) : Type 0 where
  pub there : file_of s (target s name) ≡ Some file
  pub is_plain : s.fixed.is_plain file ≡ true

-- another program holds it
abbrev pub IsTaken : List ℕ → FolderState → Type 0
IsTaken name s = (file : ℕ) × LeadsToFile name file s × (s.fixed.is_taken file ≡ true)

-- A file was loaded, and the name now leads to nothing, or to a plain file that is another one or was written since. Or
-- a plain file was loaded, and it leads to what is none.
abbrev pub IsStale : Option Found → List ℕ → FolderState → Type 0
IsStale None name s = ⊥
IsStale (Some loaded) name s =
    (file_of s (target s name) ≡ None) ⊎ (((file : ℕ) × LeadsToFile name file s × (IsUnchanged loaded file s → ⊥)) ⊎
    ((loaded.is_file ≡ true) × IsSpecial s (target s name)))

-- the lock of this file is held by an open one
abbrev pub IsHeldBy : ℕ → Option Handle → Type 0
IsHeldBy file None = ⊥
IsHeldBy file (Some handle) = (handle.file ≡ Some file) × (handle.is_held ≡ true)

-- The plain file to which the name leads, if there is one, is held by this open one and by no other program, and is as
-- it was loaded, if it was.
pub record IsClaimed (loaded : Option Found) (name : List ℕ) (held : Option Handle) (s : FolderState) : Type 0 where
  pub is_free : IsTaken name s → ⊥
  pub is_current : IsStale loaded name s → ⊥
  pub is_held : (file : ℕ) → LeadsToFile name file s → IsHeldBy file held

-- What claiming a file comes to: it is claimed, or nothing is known.
abbrev pub Claims : {H : Type 0} → (H → Handle) → Option Found → List ℕ → Result (Option H) Error → Option History →
    Option History → Type 0
Claims handle loaded name (Ok held) = Learns (IsClaimed loaded name (option_map handle held))
Claims handle loaded name (Err error) = Rests

-- Why it fails: the system met a fault, or another program holds the file, or it is not as it was loaded, in this
-- sense.
abbrev pub IsClaimCause : (FolderState → Type 0) → Error → Option History → Option History → Type 0
IsClaimCause stale error a b = HasFailed a b ⊎ ((error_kind error ≡ kind.Other) × Learns stale a b)

abbrev pub HasClaimCause : {T : Type 0} → (FolderState → Type 0) → Result T Error → Option History →
    Option History → Type 0
HasClaimCause stale result a b = IsLater a b × IfErr result (λ error. IsClaimCause stale error a b)

-- this is open on the name
abbrev pub IsOpenAt : Handle → List ℕ → FolderState → Type 0
IsOpenAt handle name s =
    (file : ℕ) × (file_of s (target s name) ≡ Some file) × (handle.file ≡ if_plain (s.fixed.is_plain file) file)

-- the same, of a file that is claimed when it is open
abbrev pub Holds : Handle → Handle → Option Found → List ℕ → Result (Unit {0}) Error → Option History →
    Option History → Type 0
Holds before after loaded name (Ok done) = Learns (λ s. IsOpenAt before name s → IsClaimed loaded name (Some after) s)
Holds before after loaded name (Err error) = Rests

-- no other program holds the file that was open, and it holds it now
pub record IsLocked (before after : Handle) (s : FolderState) : Type 0 where
  pub is_free : (file : ℕ) → before.file ≡ Some file → s.fixed.is_taken file ≡ false
  pub is : after ≡ record before { is_held = true }

-- what asking for its lock comes to
abbrev pub AsksLock : Handle → Handle → Result (Unit {0}) Error → Option History → Option History → Type 0
AsksLock before after (Ok done) = Learns (IsLocked before after)
AsksLock before after (Err error) = Rests

-- two findings are of one file, which has as many bytes and was last written at one time
pub record IsSameFinding (one other : Found) : Type 0 where
  pub device : one.device ≡ other.device
  pub inode : one.inode ≡ other.inode
  pub size : one.size ≡ other.size
  pub seconds : one.seconds ≡ other.seconds
  pub billionths : one.billionths ≡ other.billionths

-- it is as it was loaded, if it was
abbrev pub IsAsLoaded : Found → Option Found → Type 0
IsAsLoaded found None = Unit {0}
IsAsLoaded found (Some loaded) = IsSameFinding found loaded

-- what a name leads to is the open file, by what is found of both, and this is as it was loaded
pub record IsFoundSo (found named : Found) (loaded : Option Found) : Type 0 where
  pub device : found.device ≡ named.device
  pub inode : found.inode ≡ named.inode
  pub as_loaded : IsAsLoaded found loaded

-- a plain file that is open on the name
abbrev pub IsPlainAt : Handle → List ℕ → FolderState → Type 0
IsPlainAt handle name s = (file : ℕ) × LeadsToFile name file s × (handle.file ≡ Some file)

-- Whether a plain file that is open on the name is as it was loaded.
abbrev pub Compares : Handle → Option Found → List ℕ → Result Bool Error → Option History → Option History → Type 0
Compares handle loaded name (Ok true) = Learns (λ s. IsPlainAt handle name s → IsStale loaded name s → ⊥)
Compares handle loaded name (Ok false) = Learns (λ s. IsPlainAt handle name s → IsStale loaded name s)
Compares handle loaded name (Err error) = Rests

-- where there is no file to be claimed
abbrev pub IsNothing : {H : Type 0} → Option Found → Result (Option H) Error → Type 0
IsNothing None result = result ≡ Ok None
IsNothing (Some loaded) result = IsErrAnd result (λ error. error_kind error ≡ kind.Other)

-- an error if this holds
abbrev pub IsRefusedIf : Bool → Result (Unit {0}) Error → Type 0
IsRefusedIf true result = IsErrAnd result (λ error. error_kind error ≡ kind.Other)
IsRefusedIf false result = result ≡ Ok tt

-- where what is to be claimed is no plain file
abbrev pub IsNoPlain : Option Found → Result (Unit {0}) Error → Type 0
IsNoPlain None result = result ≡ Ok tt
IsNoPlain (Some loaded) result = IsRefusedIf loaded.is_file result

-- This was read of the file to which the name leads, up to so many bytes, and found of it.
pub record IsLoaded (name : List ℕ) (most : ℕ) (loaded : Loaded) (s : FolderState) : Type 0 where
  pub there : (file : ℕ) × (file_of s (target s name) ≡ Some file)
  pub bytes : (file : ℕ) → LeadsToFile name file s → loaded.bytes.items ≡ take most (bytes_of s file)
  pub found : (file : ℕ) → LeadsToFile name file s → IsUnchanged loaded.found file s

-- What a load comes to.
abbrev pub Loads : List ℕ → ℕ → Result Loaded Error → Option History → Option History → Type 0
Loads name most (Ok loaded) = Learns (IsLoaded name most loaded)
Loads name most (Err error) = Learns (λ s. error_kind error ≡ kind.NotFound → file_of s (target s name) ≡ None)

-- Why a load fails: the system met a fault, or there is nothing to which the name leads.
abbrev pub HasLoadCause : {T : Type 0} → List ℕ → Result T Error → Option History → Option History → Type 0
HasLoadCause name result a b =
    IfErr result (λ error. HasFailed a b ⊎ ((error_kind error ≡ kind.NotFound)
    × Learns (λ s. file_of s (target s name) ≡ None) a b))

-- the same of an open file
pub record IsRead (handle : Handle) (most : ℕ) (loaded : Loaded) (s : FolderState) : Type 0 where
  pub bytes : (file : ℕ) → handle.file ≡ Some file → loaded.bytes.items ≡ take most (bytes_of s file)
  pub found : (file : ℕ) → handle.file ≡ Some file → IsUnchanged loaded.found file s

abbrev pub ReadsWhole : Handle → ℕ → Result Loaded Error → Option History → Option History → Type 0
ReadsWhole handle most (Ok loaded) = Learns (IsRead handle most loaded)
ReadsWhole handle most (Err error) = Rests

-- the answer of a file that is open does not say that there is none
abbrev pub IsOnceOpen : {T : Type 0} → Result T Error → Result T Error → Type 0
IsOnceOpen (Ok x) result = result ≡ Ok x
IsOnceOpen (Err error) result = IsErrAnd result (λ other. error_kind other ≢ kind.NotFound)

-- where this holds of the first state, that holds
abbrev pub WhereFirst : (FolderState → Type 0) → Type 0 → Option History → Type 0
WhereFirst P Q None = Unit {0}
WhereFirst P Q (Some h) = P h.now → Q

-- Why a save of a file that is claimed first fails.
abbrev pub HasSaveCause : Type 0 → (FolderState → Type 0) → Result (Unit {0}) Error → Option History →
    Option History → Type 0
HasSaveCause taken stale result a b =
    IsLater a b × IfErr result (λ error. IsCause taken error a b ⊎ ((error_kind error ≡ kind.Other) × Learns stale a b))
