-- How the bytes of a save come to a name.
use Rattle.std.specs.Prelude.{◌≡◌, ◌≢◌, ◌⊎◌, ℕ, ◌<◌, ◌≤◌, Bool, true, false, List, [], ◌∷◌, Option, None, Some, Result, Ok, Err}
use Rattle.std.specs.declared.io.Error.{Error}
use Rattle.durable_folder.specs.FolderState.{FolderState, SomeOf, Leaves, IsFree, IsShared, file_of, target}
use Rattle.durable_folder.specs.Calls.{Spares, SparesFiles, IsFound}
use Rattle.durable_folder.specs.Histories.{History, Leading, RefusedSince, Runs, Learns, HasFile, IsSaved}
use Rattle.durable_folder.specs.InPlace.{IsTorn, AfterOk, Overwrites}
use Rattle.durable_folder.specs.Places.{folder_of}
use Rattle.durable_folder.specs.Saving.{IsReason, KeepsOrReplaces, IsOther, ReplacesOrNot}
use Rattle.durable_folder.specs.declared.answers.Replaced.{Replaced}
use Rattle.durable_folder.specs.declared.answers.Replaced.TheVariants as replaced
use Rattle.durable_folder.specs.declared.folder.Found.{Found}
use Rattle.durable_folder.specs.declared.replacing.Owner.{Owner}

-- what has to be written in place: a file with several names, or what is no plain file
abbrev pub MustStay : Found → Type 0
MustStay found = (found.is_file ≡ false) ⊎ (1 < found.names)

-- a plain file with one name is replaced by a file of its owner and mode
pub record ReplacesOwned (name : List ℕ) (found : Found) (bytes : List ℕ) (result : Result Replaced Error)
    (a b : Option History) : Type 0 where
  pub is_file : found.is_file ≡ true
  pub one_name : found.names ≤ 1
  pub owner : Owner
  pub user : owner.user ≡ found.user
  pub group : owner.group ≡ found.group
  pub permissions : owner.permissions ≡ found.permissions
  pub device : owner.device ≡ found.device
  pub replaces : ReplacesOrNot name (Some owner) bytes result a b

-- What was found is replaced, if it may be, and else nothing is done.
abbrev pub ReplacesFound : List ℕ → Found → List ℕ → Result Replaced Error → Option History → Option History → Type 0
ReplacesFound name found bytes result a b =
    ReplacesOwned name found bytes result a b ⊎ (MustStay found × (result ≡ Ok replaced.Refused) × (b ≡ a))

-- what is torn
abbrev pub IsTornLeft : Option (List ℕ) → Type 0
IsTornLeft None = ⊥
IsTornLeft (Some bytes) = IsTorn bytes

-- both names may have the file that the first one has
abbrev pub Shares : FolderState → List ℕ → List ℕ → Type 0
Shares s name n = (file : ℕ) × (file_of s name ≡ Some file) × SomeOf (λ f. f ≡ Some file) (s.names n)

-- A loss of power leaves at the name what it might have left before, the new bytes, or what is torn, and so at the
-- other names of this file. At each other name it leaves what it might have left before, but for names beside it that
-- had no file.
pub record KeepsOrTears (name bytes : List ℕ) (s t : FolderState) : Type 0 where
  pub here : (left : Option (List ℕ)) → Leaves t name left → Leaves s name left
      ⊎ ((left ≡ Some bytes) ⊎ IsTornLeft left)
  pub others : (n : List ℕ) → n ≢ name → IsOther name s n → (left : Option (List ℕ)) → Leaves t n left →
      Leaves s n left ⊎ (Shares s name n × ((left ≡ Some bytes) ⊎ IsTornLeft left))

-- what stands at the name is no plain file
abbrev pub IsSpecial : FolderState → List ℕ → Type 0
IsSpecial s name = (file : ℕ) × (file_of s name ≡ Some file) × (s.fixed.is_plain file ≡ false)

-- it stands on another device than its folder
abbrev pub IsMountPoint : FolderState → List ℕ → Type 0
IsMountPoint s name =
    (file : ℕ) × (file_of s name ≡ Some file) × (s.fixed.device file ≢ s.fixed.folder_device (folder_of name))

-- this user and this group have the file of the name
abbrev pub IsOwnedBy : FolderState → List ℕ → ℕ → ℕ → Type 0
IsOwnedBy s name user group =
    (file : ℕ) × (file_of s name ≡ Some file) × (s.fixed.user file ≡ user) × (s.fixed.group file ≡ group)

-- Why a file is written in place: it is no plain file, it has several names, it is a mount point, or no new file came
-- to its name since the system refused what that takes.
abbrev pub MustBeInPlace : List ℕ → History → History → Type 0
MustBeInPlace name h k =
    IsSpecial h.now name ⊎ (IsShared h.now name ⊎ (IsMountPoint h.now name ⊎
    RefusedSince (IsReason name (IsOwnedBy h.now name) h.now) h k))

-- The new bytes are there: durably in a plain file that was at the name and still is, and, where there was nothing,
-- saved at the name.
pub record IsInPlace (name bytes : List ℕ) (h k : History) : Type 0 where
  pub over : (file : ℕ) → file_of h.now name ≡ Some file → h.now.fixed.is_plain file ≡ true →
      k.now.files file ≡ bytes ∷ []
  pub stays : (file : ℕ) → file_of h.now name ≡ Some file → k.now.names name ≡ h.now.names name
  pub anew : file_of h.now name ≡ None → IsSaved name bytes k

-- The file was replaced, or stays: after Ok the new bytes are saved at the name.
abbrev pub SavesByNew : List ℕ → List ℕ → Result (Unit {0}) Error → Option History → Option History → Type 0
SavesByNew name bytes result =
    Runs (KeepsOrReplaces name bytes) (λ h k. AfterOk result (IsSaved name bytes k))

-- The file was written in place, which had a reason, if this holds of the first state.
abbrev pub SavesInPlace : (FolderState → Type 0) → List ℕ → List ℕ → Result (Unit {0}) Error → Option History →
    Option History →
    Type 0
SavesInPlace Known name bytes result =
    Runs (λ s t. Known s → KeepsOrTears name bytes s t)
    (λ h k. Known h.now → MustBeInPlace name h k × AfterOk result (IsInPlace name bytes h k))

-- A save at a name that is no link.
abbrev pub SavesAt : (FolderState → Type 0) → List ℕ → List ℕ → Result (Unit {0}) Error → Option History →
    Option History →
    Type 0
SavesAt Known name bytes result a b = SavesByNew name bytes result a b ⊎ SavesInPlace Known name bytes result a b

-- what was found at a name, if anything
abbrev pub IsSeen : List ℕ → Result (Option Found) Error → FolderState → Type 0
IsSeen name (Ok (Some found)) s = (file : ℕ) × IsFound s name file found
IsSeen name (Ok None) s = IsFree s name
IsSeen name (Err error) s = Unit {0}

-- nothing has changed, and this was found
abbrev pub Looks : List ℕ → Result (Option Found) Error → Option History → Option History → Type 0
Looks name result = Runs (λ s t. t ≡ s) (λ h k. (k.now ≡ h.now) × IsSeen name result h.now)

abbrev pub is_link : Option Found → Bool
is_link None = false
is_link (Some found) = found.is_link

-- this was found at the name, which is no link
pub record WasFound (name : List ℕ) (found : Option Found) (s : FolderState) : Type 0 where
  pub no_link : target s name ≡ name
  pub seen : IsSeen name (Ok found) s

-- A new file came to a name, and nothing else has changed. A loss of power leaves in it nothing, the new bytes, or what
-- is torn.
pub record IsBorn (name bytes : List ℕ) (file : ℕ) (s t : FolderState) : Type 0 where
  pub is_fresh : (n : List ℕ) → SomeOf (λ f. f ≡ Some file) (s.names n) → ⊥
  pub named : t.names name ≡ Some file ∷ s.names name
  pub over : Overwrites bytes ([] ∷ []) (t.files file)
  pub spares : Spares name file s t

-- nothing has changed, or a new file came to the name
abbrev pub Bears : List ℕ → List ℕ → FolderState → FolderState → Type 0
Bears name bytes s t = (t ≡ s) ⊎ ((file : ℕ) × IsBorn name bytes file s t)

-- What writing a new file comes to, where there is nothing at the name to which this one leads.
abbrev pub WritesNew : List ℕ → List ℕ → Result (Unit {0}) Error → Option History → Option History → Type 0
WritesNew name bytes result =
    Runs (λ s t. file_of s (target s name) ≡ None → Bears (target s name) bytes s t)
    (λ h k. file_of h.now (target h.now name) ≡ None → Bears (target h.now name) bytes h.now k.now ×
    AfterOk result ((file : ℕ) × (file_of k.now (target h.now name) ≡ Some file) × (k.now.files file ≡ bytes ∷ [])))

-- no name may have a file that it might not have had, and no file changes
pub record AddsNoName (s t : FolderState) : Type 0 where
  pub names : (n : List ℕ) (f : Option ℕ) → SomeOf (λ g. g ≡ f) (t.names n) → SomeOf (λ g. g ≡ f) (s.names n)
  pub files : SparesFiles s t

-- After Ok the name has its file, durably unless the system cannot sync its folder.
abbrev pub SyncsFolderOf : List ℕ → Result (Unit {0}) Error → Option History → Option History → Type 0
SyncsFolderOf name result =
    Runs AddsNoName
    (λ h k. AddsNoName h.now k.now × AfterOk result (HasFile name (file_of h.now name) k))

-- What making a file comes to that a link leads to.
abbrev pub MakesThrough : List ℕ → List ℕ → Result (Unit {0}) Error → Option History → Option History → Type 0
MakesThrough name bytes result =
    Runs (λ s t. file_of s (target s name) ≡ None → KeepsOrTears (target s name) bytes s t)
    (λ h k. file_of h.now (target h.now name) ≡ None → AfterOk result (IsSaved (target h.now name) bytes k))

-- a link that leads to where nothing is
pub record LeadsNowhere (s : FolderState) (name : List ℕ) : Type 0 where
  pub link : target s name ≢ name
  pub nothing : file_of s (target s name) ≡ None

-- it was not told where the link ends that leads to the file of this name
abbrev pub IsUntold : List ℕ → History → History → Type 0
IsUntold name h k = RefusedSince (λ r. r ≡ Leading (file_of h.now (target h.now name))) h k

-- The file to which the name leads was replaced, or stays.
abbrev pub SavesTargetByNew : List ℕ → List ℕ → Result (Unit {0}) Error → Option History → Option History → Type 0
SavesTargetByNew name bytes result =
    Runs (λ s t. KeepsOrReplaces (target s name) bytes s t)
    (λ h k. AfterOk result (IsSaved (target h.now name) bytes k))

-- It was written in place, which had a reason.
abbrev pub SavesTargetInPlace : List ℕ → List ℕ → Result (Unit {0}) Error → Option History → Option History → Type 0
SavesTargetInPlace name bytes result =
    Runs (λ s t. KeepsOrTears (target s name) bytes s t)
    (λ h k. (MustBeInPlace (target h.now name) h k ⊎ (LeadsNowhere h.now name ⊎ IsUntold name h k)) ×
    AfterOk result (IsInPlace (target h.now name) bytes h k))

-- A save.
abbrev pub Saves : List ℕ → List ℕ → Result (Unit {0}) Error → Option History → Option History → Type 0
Saves name bytes result a b = SavesTargetByNew name bytes result a b ⊎ SavesTargetInPlace name bytes result a b

-- where the link leads, which is no link
abbrev pub LeadsTo : List ℕ → List ℕ → FolderState → Type 0
LeadsTo name at s = (at ≡ target s name) × (target s (target s name) ≡ target s name)

-- A save, from any earlier history since which nothing has changed and this was learned.
abbrev pub SavesKnowing : (FolderState → Type 0) → List ℕ → List ℕ → Result (Unit {0}) Error → Option History →
    Option History → Type 0
SavesKnowing Known name bytes result a b = (first : Option History) → Learns Known first a →
    Saves name bytes result first b
