-- What each call of a folder does to it.
use Rattle.std.specs.Prelude.{◌≡◌, ◌≢◌, ◌⊎◌, ℕ, ◌+◌, ◌<◌, ◌≤◌, max, Bool, true, false, List, [], ◌∷◌, length, take, drop, Option, None, Some, Result, Ok, Err, Vec}
use Rattle.std.specs.IoError.{error_kind}
use Rattle.std.specs.Global.{Global}
use Rattle.std.specs.declared.io.Error.{Error}
use Rattle.std.specs.declared.io.ErrorKind.TheVariants as kind
use Rattle.durable_folder.specs.declared.folder.Found.{Found}
use Rattle.durable_folder.specs.declared.folder.Lock.{Lock}
use Rattle.durable_folder.specs.declared.folder.Lock.TheVariants as lock
use Rattle.durable_folder.specs.FolderState.{FolderState, SomeOf, MayHold, IsFree, IsShared, file_of, bytes_of, target, byte_at, newest}
use Rattle.durable_folder.specs.Places.{folder_of}

-- A file that was opened, if it is a plain one, where the next bytes go or come from, and whether it holds the file's
-- lock, as far as the system knows locks.
pub record Handle : Type 0 where
  pub file : Option ℕ
  pub offset : ℕ
  pub is_held : Bool

-- this file, at its start, without its lock
abbrev pub opened_at : Option ℕ → Handle
opened_at file = record { file = file; offset = 0; is_held = false }

-- what stays where only this name and this file change
pub record Spares (name : List ℕ) (file : ℕ) (s t : FolderState) : Type 0 where
  pub names : (n : List ℕ) → n ≢ name → t.names n ≡ s.names n
  pub files : (f : ℕ) → f ≢ file → t.files f ≡ s.files f
  pub fixed : t.fixed ≡ s.fixed

-- what stays where only the bytes of this file change
pub record SparesNames (file : ℕ) (s t : FolderState) : Type 0 where
  pub names : (n : List ℕ) → t.names n ≡ s.names n
  pub files : (f : ℕ) → f ≢ file → t.files f ≡ s.files f
  pub fixed : t.fixed ≡ s.fixed

-- what stays where only names change
pub record SparesFiles (s t : FolderState) : Type 0 where
  pub files : (f : ℕ) → t.files f ≡ s.files f
  pub fixed : t.fixed ≡ s.fixed

-- What is told of a name: what is no link leads to itself, and a plain file with several names has another one.
pub record IsFound (s : FolderState) (name : List ℕ) (file : ℕ) (found : Found) : Type 0 where
  pub there : file_of s name ≡ Some file
  pub no_link : found.is_link ≡ false → target s name ≡ name
  pub link : found.is_link ≡ true → target s name ≢ name
  pub is_plain : found.is_file ≡ s.fixed.is_plain file
  pub shared : found.is_file ≡ true → 1 < found.names → IsShared s name
  pub device : found.device ≡ s.fixed.device file
  pub inode : found.inode ≡ s.fixed.inode file
  pub user : found.user ≡ s.fixed.user file
  pub group : found.group ≡ s.fixed.group file

abbrev pub Finds : List ℕ → Result Found Error → FolderState → FolderState → Type 0
Finds name (Ok found) s t = (t ≡ s) × (file : ℕ) × IsFound s name file found
Finds name (Err error) s t = (t ≡ s) × (error_kind error ≡ kind.NotFound → IsFree s name)

-- Where a name leads is told. That is no link.
abbrev pub Resolves : {P : Type 0} → (P → List ℕ) → List ℕ → Result P Error → FolderState → FolderState → Type 0
Resolves text name (Ok path) s t = (t ≡ s) × (text path ≡ target s name) × (target s (target s name) ≡ target s name)
Resolves text name (Err error) s t = t ≡ s

-- the file, if it is a plain one
abbrev pub if_plain : Bool → ℕ → Option ℕ
if_plain true file = Some file
if_plain false file = None

-- The file to which the name leads is opened, at its start.
abbrev pub Opens : {F : Type 0} → (F → Handle) → List ℕ → Result F Error → FolderState → FolderState → Type 0
Opens handle name (Ok opened) s t =
    (t ≡ s) × (file : ℕ) × (file_of s (target s name) ≡ Some file) ×
    (handle opened ≡ opened_at (if_plain (s.fixed.is_plain file) file))
Opens handle name (Err error) s t =
    (t ≡ s) × (error_kind error ≡ kind.NotFound → file_of s (target s name) ≡ None)

-- What was found is still so of this file: it is that one, has as many bytes, and was last written then.
pub record IsUnchanged (found : Found) (file : ℕ) (s : FolderState) : Type 0 where
  pub device : found.device ≡ s.fixed.device file
  pub inode : found.inode ≡ s.fixed.inode file
  pub size : found.size ≡ length (bytes_of s file)
  pub seconds : found.seconds ≡ s.seconds file
  pub billionths : found.billionths ≡ s.billionths file

-- what is told of an open file
abbrev pub FindsOpen : Handle → Result Found Error → FolderState → FolderState → Type 0
FindsOpen handle (Ok found) s t =
    (t ≡ s) × (found.is_file ≡ false → handle.file ≡ None) ×
    ((file : ℕ) → handle.file ≡ Some file → IsUnchanged found file s) × (handle.file ≡ None → found.is_file ≡ false)
FindsOpen handle (Err error) s t = t ≡ s

-- The bytes of an open file are read from where the next ones come, or as many of them as this.
abbrev pub Reads : Handle → ℕ → Result (Vec ℕ Global) Error → FolderState → FolderState → Type 0
Reads before most (Ok bytes) s t =
    (t ≡ s) × ((file : ℕ) → before.file ≡ Some file → bytes.items ≡ take most (drop before.offset (bytes_of s file)))
Reads before most (Err error) s t = t ≡ s

-- whether the answer is that another program holds the lock
abbrev pub is_elsewhere : Result Lock Error → Bool
is_elsewhere (Ok lock.Elsewhere) = true
is_elsewhere _ = false

-- an open file after its lock was asked for
abbrev pub locked_by : Result Lock Error → Handle → Handle
locked_by (Ok lock.Elsewhere) handle = handle
locked_by _ handle = record handle { is_held = true }

-- The lock of an open file is taken, unless another program holds it. Any error is taken to say that there are no
-- locks.
abbrev pub Locks : Handle → Handle → Result Lock Error → FolderState → FolderState → Type 0
Locks before after result s t =
    (t ≡ s) × ((file : ℕ) → before.file ≡ Some file → s.fixed.is_taken file ≡ is_elsewhere result) ×
    (after ≡ locked_by result before)

-- a folder is opened, and its device told
abbrev pub OpensFolder : {P : Type 0} → (P → List ℕ) → List ℕ → Result P Error → FolderState → FolderState → Type 0
OpensFolder place folder (Ok opened) s t = (t ≡ s) × (place opened ≡ folder)
OpensFolder place folder (Err error) s t = t ≡ s

abbrev pub FindsFolder : List ℕ → Result Found Error → FolderState → FolderState → Type 0
FindsFolder folder (Ok found) s t = (t ≡ s) × (found.device ≡ s.fixed.folder_device folder)
FindsFolder folder (Err error) s t = t ≡ s

-- A new file at a name that had none. No other name has it, nor had it.
pub record Makes (file : ℕ) (name : List ℕ) (s t : FolderState) : Type 0 where
  pub is_free : file_of s name ≡ None
  pub is_fresh : (n : List ℕ) → SomeOf (λ f. f ≡ Some file) (s.names n) → ⊥
  pub is_plain : s.fixed.is_plain file ≡ true
  pub named : t.names name ≡ Some file ∷ s.names name
  pub empty : t.files file ≡ [] ∷ []
  pub spares : Spares name file s t

abbrev pub Creates : {F : Type 0} → (F → Handle) → List ℕ → Result F Error → FolderState → FolderState → Type 0
Creates handle name (Ok opened) s t =
    (file : ℕ) × (handle opened ≡ opened_at (Some file)) × Makes file name s t
Creates handle name (Err error) s t = (t ≡ s) × (error_kind error ≡ kind.AlreadyExists → file_of s name ≢ None)

-- the file to which the name leads is opened, or made where there is none
abbrev pub OpensOrCreates : {F : Type 0} → (F → Handle) → List ℕ → Result F Error → FolderState → FolderState → Type 0
OpensOrCreates handle name result s t =
    Opens handle name result s t ⊎ Creates handle (target s name) result s t

-- new is old with these bytes at an offset; what lies between the end and the offset is zeros
pub record Overlaid (offset : ℕ) (bytes old new : List ℕ) : Type 0 where
  pub size : offset ≤ length old → length new ≡ max (length old) (offset + length bytes)
  pub within : (i : ℕ) → i < length bytes → byte_at new (offset + i) ≡ byte_at bytes i
  pub before : (i : ℕ) → i < offset → byte_at new i ≡ byte_at old i
  pub behind : (i : ℕ) → offset + length bytes ≤ i → byte_at new i ≡ byte_at old i

-- new is old at another length, with zeros where it grew
pub record Resized (size : ℕ) (old new : List ℕ) : Type 0 where
  pub whole : length new ≡ size
  pub bytes : (i : ℕ) → i < size → byte_at new i ≡ byte_at old i

-- A file gets new bytes, by which others come. Where the call fails, it is not known what is read of it, and a loss of
-- power leaves what it might leave if the call had not failed.
abbrev pub Versions : List (List ℕ) → List ℕ → Result (Unit {0}) Error → List (List ℕ) → Type 0
Versions old bytes (Ok done) new = new ≡ bytes ∷ old
Versions old bytes (Err error) new = (c : List ℕ) → MayHold new c → MayHold (bytes ∷ old) c

-- The versions of an open file change so, if it is a plain one, and no other file or name. Else nothing changes.
abbrev pub OfFile : (List (List ℕ) → List (List ℕ) → Type 0) → Option ℕ → FolderState → FolderState → Type 0
OfFile change None s t = t ≡ s
OfFile change (Some file) s t = SparesNames file s t × change (s.files file) (t.files file)

-- bytes are written at an offset
abbrev pub Written : ℕ → List ℕ → Result (Unit {0}) Error → List (List ℕ) → List (List ℕ) → Type 0
Written offset bytes result old new =
    (written : List ℕ) × Overlaid offset bytes (newest [] old) written × Versions old written result new

abbrev pub Writes : Handle → List ℕ → Result (Unit {0}) Error → FolderState → FolderState → Type 0
Writes before bytes result s t = OfFile (Written before.offset bytes result) before.file s t

-- a file gets a length
abbrev pub Lengthened : ℕ → Result (Unit {0}) Error → List (List ℕ) → List (List ℕ) → Type 0
Lengthened size result old new =
    (resized : List ℕ) × Resized size (newest [] old) resized × Versions old resized result new

abbrev pub ResizesFile : Option ℕ → ℕ → Result (Unit {0}) Error → FolderState → FolderState → Type 0
ResizesFile file size result s t = OfFile (Lengthened size result) file s t

-- A file that is synced has its bytes durably. Where that fails, it is not known what is read of it, and a loss of
-- power leaves what it might have left before.
abbrev pub Synced : List (List ℕ) → Result (Unit {0}) Error → List (List ℕ) → Type 0
Synced old (Ok done) new = new ≡ newest [] old ∷ []
Synced old (Err error) new = (c : List ℕ) → MayHold new c → MayHold old c

abbrev pub SyncsFile : Option ℕ → Result (Unit {0}) Error → FolderState → FolderState → Type 0
SyncsFile file result s t = OfFile (λ old new. Synced old result new) file s t

-- the next bytes go to this offset
abbrev pub Seeks : Handle → ℕ → Result (Unit {0}) Error → FolderState → FolderState → Type 0
Seeks after offset (Ok done) s t = (t ≡ s) × (after.offset ≡ offset)
Seeks after offset (Err error) s t = t ≡ s

-- The second name gets the file of the first in one step, unless both have the same one.
pub record Moves (from to : List ℕ) (s t : FolderState) : Type 0 where
  pub arrives : t.names to ≡ file_of s from ∷ s.names to
  pub leaves : t.names from ≡ None ∷ s.names from
  pub others : (n : List ℕ) → n ≢ from → n ≢ to → t.names n ≡ s.names n
  pub files : SparesFiles s t

abbrev pub Renames : List ℕ → List ℕ → Result (Unit {0}) Error → FolderState → FolderState → Type 0
Renames from to (Ok done) s t = (file_of s from ≢ file_of s to → Moves from to s t)
    × (file_of s from ≡ file_of s to → t ≡ s)
Renames from to (Err error) s t = t ≡ s

-- The second name has the file of the first too.
pub record Adds (from to : List ℕ) (s t : FolderState) : Type 0 where
  pub arrives : t.names to ≡ file_of s from ∷ s.names to
  pub others : (n : List ℕ) → n ≢ to → t.names n ≡ s.names n
  pub files : SparesFiles s t

-- The second name gets the file of the first where nothing is at it.
abbrev pub Links : List ℕ → List ℕ → Result (Unit {0}) Error → FolderState → FolderState → Type 0
Links from to (Ok done) s t = (file_of s to ≡ None) × Adds from to s t
Links from to (Err error) s t = t ≡ s

-- a name has no file any more
pub record Drops (name : List ℕ) (s t : FolderState) : Type 0 where
  pub gone : t.names name ≡ None ∷ s.names name
  pub others : (n : List ℕ) → n ≢ name → t.names n ≡ s.names n
  pub files : SparesFiles s t

abbrev pub Removes : List ℕ → Result (Unit {0}) Error → FolderState → FolderState → Type 0
Removes name (Ok done) s t = Drops name s t
Removes name (Err error) s t = t ≡ s

-- A folder that is synced has its names durably. No name may have a file that it might not have had.
pub record SyncsNames (place : List ℕ) (s t : FolderState) : Type 0 where
  pub here : (n : List ℕ) → folder_of n ≡ place → t.names n ≡ file_of s n ∷ []
  pub others : (n : List ℕ) (f : Option ℕ) → SomeOf (λ g. g ≡ f) (t.names n) → SomeOf (λ g. g ≡ f) (s.names n)
  pub files : SparesFiles s t

abbrev pub SyncsFolder : List ℕ → Result (Unit {0}) Error → FolderState → FolderState → Type 0
SyncsFolder place (Ok done) s t = SyncsNames place s t
SyncsFolder place (Err error) s t = t ≡ s

-- nothing changes
abbrev pub Stays : FolderState → FolderState → Type 0
Stays s t = t ≡ s
