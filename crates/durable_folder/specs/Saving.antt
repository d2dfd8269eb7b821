-- What a save leaves of a name, whichever call fails and wherever power is lost.
use Rattle.std.specs.Prelude.{◌≡◌, ◌≢◌, ◌⊎◌, ℕ, Bool, true, false, List, [], ◌∷◌, Option, None, Some, Result, Ok, Err}
use Rattle.std.specs.IoError.{error_kind}
use Rattle.std.specs.declared.io.Error.{Error}
use Rattle.durable_folder.specs.declared.answers.Replaced.{Replaced}
use Rattle.durable_folder.specs.declared.answers.Replaced.TheVariants as replaced
use Rattle.durable_folder.specs.FolderState.{FolderState, SomeOf, Leaves, file_of}
use Rattle.std.specs.declared.io.ErrorKind.TheVariants as kind
use Rattle.durable_folder.specs.Calls.{Handle, Spares, SparesFiles, OfFile, Creates, SyncsNames, opened_at}
use Rattle.durable_folder.specs.Counting.{is_refusal, is_passed_over, quiet, refused_answer}
use Rattle.durable_folder.specs.Histories.{History, Refusal, Giving, Setting, Making, Moving, Opening, Leading, Replacing, Linking, RefusedSince, Turns, Runs, HasFile, IsSaved}
use Rattle.durable_folder.specs.Places.{folder_of, IsLeftover}
use Rattle.durable_folder.specs.declared.replacing.Owner.{Owner}
use Rattle.durable_folder.specs.InPlace.{AfterOk, FileRuns}

-- a name that has a file, or that a save of this name does not try for a new file
abbrev pub IsOther : List ℕ → FolderState → List ℕ → Type 0
IsOther name s n = (file_of s n ≢ None) ⊎ (IsLeftover name n → ⊥)

-- A loss of power leaves at the name what it might have left before, or the new bytes. At each other name it leaves
-- what it might have left before, but for names beside it that had no file.
pub record KeepsOrReplaces (name bytes : List ℕ) (s t : FolderState) : Type 0 where
  pub here : (left : Option (List ℕ)) → Leaves t name left → Leaves s name left ⊎ (left ≡ Some bytes)
  pub others : (n : List ℕ) → n ≢ name → IsOther name s n → (left : Option (List ℕ)) → Leaves t n left → Leaves s n left

-- A new file has come to a name where there was none, and nothing else has changed.
pub record IsNew (name beside : List ℕ) (file : ℕ) (s t : FolderState) : Type 0 where
  pub apart : beside ≢ name
  pub leftover : IsLeftover name beside
  pub is_free : file_of s beside ≡ None
  pub is_fresh : (n : List ℕ) → SomeOf (λ f. f ≡ Some file) (s.names n) → ⊥
  pub spares : Spares beside file s t

-- nothing has changed but for a new file at another name
abbrev pub Prepares : List ℕ → FolderState → FolderState → Type 0
Prepares name s t = (t ≡ s) ⊎ ((beside : List ℕ) × (file : ℕ) × IsNew name beside file s t)

-- no name had this file
abbrev pub IsUnnamed : Option ℕ → FolderState → Type 0
IsUnnamed opened s = (file : ℕ) × (opened ≡ Some file) × ((n : List ℕ) → SomeOf (λ f. f ≡ Some file) (s.names n) → ⊥)

-- Why no new file comes to a name: from this state on it was refused to open its folder, to make a file beside it, to
-- give a new file its user and group, of which this holds, or its mode, or to put what is beside the name there.
abbrev pub IsReason : List ℕ → (ℕ → ℕ → Type 0) → FolderState → Refusal → Type 0
IsReason name Owned s (Giving file user group) = IsUnnamed file s × Owned user group
IsReason name Owned s (Setting file) = IsUnnamed file s
IsReason name Owned s (Making n) = IsLeftover name n
IsReason name Owned s (Moving from to) = IsLeftover name from × (to ≡ name)
IsReason name Owned s (Opening place) = place ≡ folder_of name
IsReason name Owned s (Leading file) = ⊥
IsReason name Owned s (Replacing n) = ⊥
IsReason name Owned s (Linking n) = ⊥

-- it is to be owned so
abbrev pub IsOwner : Option Owner → ℕ → ℕ → Type 0
IsOwner None user group = ⊥
IsOwner (Some owner) user group = (owner.user ≡ user) × (owner.group ≡ group)

-- to make a file beside this name was refused
abbrev pub IsNotMade : List ℕ → Refusal → Type 0
IsNotMade name refusal = (beside : List ℕ) × (refusal ≡ Making beside) × IsLeftover name beside

-- where this error says that the system gave no leave, it refused that since
abbrev pub WasRefused : List ℕ → Error → History → History → Type 0
WasRefused name error h k = is_refusal (error_kind error) ≡ true → RefusedSince (IsNotMade name) h k

-- A new file was made: it is open, empty, and has this name.
pub record IsMade (handle : Handle) (name beside : List ℕ) (file : ℕ) (s t : FolderState) : Type 0 where
  pub opened : handle ≡ opened_at (Some file)
  pub new : IsNew name beside file s t
  pub named : file_of t beside ≡ Some file
  pub empty : t.files file ≡ [] ∷ []

-- A new file of this name was made, or there was something of that name, or an error has changed nothing.
abbrev pub Tries : {F : Type 0} → (F → Handle) → (F → List ℕ) → List ℕ → Result (Option F) Error → Option History →
    Option History → Type 0
Tries handle beside text (Ok (Some new)) a b = (beside new ≡ text) × Turns (Creates handle text (Ok new)) quiet a b
Tries handle beside text (Ok None) a b = (error : Error) × (error_kind error ≡ kind.AlreadyExists) ×
    Turns (Creates handle text (Err error)) (refused_answer is_passed_over (Making text) error) a b
Tries handle beside text (Err error) a b =
    (error_kind error ≢ kind.AlreadyExists) × Turns (Creates handle text (Err error))
    (refused_answer is_passed_over (Making text) error) a b

-- what making the new file comes to
abbrev pub MakesNew : {F : Type 0} → (F → Handle) → (F → List ℕ) → List ℕ → Result F Error → Option History →
    Option History → Type 0
MakesNew handle beside name (Ok new) =
    Runs (Prepares name) (λ h k. (file : ℕ) × IsMade (handle new) name (beside new) file h.now k.now)
MakesNew handle beside name (Err error) = Runs (Prepares name) (λ h k. (k.now ≡ h.now) × WasRefused name error h k)

-- to give the file of a name to its owner was refused, or an open one its mode
abbrev pub IsGiving : List ℕ → Option ℕ → Option Owner → FolderState → Refusal → Type 0
IsGiving beside opened owner s refusal =
    (refusal ≡ Setting opened) ⊎
    ((user : ℕ) × (group : ℕ) × IsOwner owner user group × (refusal ≡ Giving (file_of s beside) user group))

-- the owner and the mode were given, or one of these was refused
abbrev pub Gives : List ℕ → Option ℕ → Option Owner → Bool → Option History → Option History → Type 0
Gives beside opened owner given =
    Runs (λ s t. t ≡ s)
    (λ h k. (k.now ≡ h.now) × (given ≡ false → RefusedSince (IsGiving beside opened owner h.now) h k))

-- an empty file gets these bytes durably where the answer is Ok
abbrev pub WritesWhole : Handle → List ℕ → Result (Unit {0}) Error → Option History → Option History → Type 0
WritesWhole file bytes result =
    FileRuns file.file (λ old new. Unit {0}) (λ old new. file.offset ≡ 0 → old ≡ [] ∷ [] →
    AfterOk result (new ≡ bytes ∷ []))

-- the same, where it had to be given to somebody first
abbrev pub FillEnds : Handle → List ℕ → Option Owner → List ℕ → Result Replaced Error → History → History → Type 0
FillEnds file beside owner bytes (Ok replaced.Done) h k =
    OfFile (λ old new. file.offset ≡ 0 → old ≡ [] ∷ [] → new ≡ bytes ∷ []) file.file h.now k.now
FillEnds file beside owner bytes (Ok replaced.Refused) h k =
    (k.now ≡ h.now) × RefusedSince (IsGiving beside file.file owner h.now) h k
FillEnds file beside owner bytes (Err error) h k = OfFile (λ old new. Unit {0}) file.file h.now k.now

abbrev pub Fills : Handle → List ℕ → Option Owner → List ℕ → Result Replaced Error → Option History →
    Option History → Type 0
Fills file beside owner bytes result =
    Runs (OfFile (λ old new. Unit {0}) file.file) (FillEnds file beside owner bytes result)

-- nothing has changed, or the names of the folder are there durably
abbrev pub MaySyncNames : List ℕ → FolderState → FolderState → Type 0
MaySyncNames place s t = (t ≡ s) ⊎ SyncsNames place s t

-- A folder is synced. After Ok its names are there durably, or the system cannot sync it.
pub record SyncsNamesOf (place : List ℕ) (result : Result (Unit {0}) Error) (old new : Option History) : Type 0 where
  pub run : Runs (MaySyncNames place)
      (λ h k. MaySyncNames place h.now k.now × AfterOk result (SyncsNames place h.now k.now
      ⊎ SomeOf (λ p. p ≡ place) k.unsynced)) old new

-- the first name may have given its file to the second one, or lost it
pub record Shifts (beside name : List ℕ) (s t : FolderState) : Type 0 where
  pub here : (e : Option ℕ) → SomeOf (λ f. f ≡ e) (t.names name) → (e ≡ file_of s beside)
      ⊎ SomeOf (λ f. f ≡ e) (s.names name)
  pub others : (n : List ℕ) → n ≢ beside → n ≢ name → (e : Option ℕ) → SomeOf (λ f. f ≡ e) (t.names n) →
      SomeOf (λ f. f ≡ e) (s.names n)
  pub files : SparesFiles s t

-- what putting the new file in its place comes to
abbrev pub PutEnds : List ℕ → List ℕ → Result Replaced Error → History → History → Type 0
PutEnds beside name (Ok replaced.Done) h k = HasFile name (file_of h.now beside) k
PutEnds beside name (Ok replaced.Refused) h k =
    ((n : List ℕ) → n ≢ beside → k.now.names n ≡ h.now.names n) × RefusedSince (λ r. r ≡ Moving beside name) h k
PutEnds beside name (Err error) h k = Unit {0}

-- the new file is put in its place, or removed
pub record Puts (beside name : List ℕ) (result : Result Replaced Error) (old new : Option History) : Type 0 where
  pub run : Runs (λ s t. file_of s beside ≢ file_of s name → Shifts beside name s t)
      (λ h k. file_of h.now beside ≢ file_of h.now name → Shifts beside name h.now k.now
      × PutEnds beside name result h k) old new

-- only this name may have changed, and no file
pub record Aside (beside : List ℕ) (s t : FolderState) : Type 0 where
  pub names : (n : List ℕ) → n ≢ beside → t.names n ≡ s.names n
  pub files : SparesFiles s t

-- Once a new file was filled it is put in its place, and else it is removed.
abbrev pub FinishSteps : List ℕ → List ℕ → Result Replaced Error → FolderState → FolderState → Type 0
FinishSteps beside name (Ok replaced.Done) s t = file_of s beside ≢ file_of s name → Shifts beside name s t
FinishSteps beside name _ s t = Aside beside s t

-- what comes of that
abbrev pub FinishEnds : List ℕ → List ℕ → Result Replaced Error → Result Replaced Error → History → History → Type 0
FinishEnds beside name (Ok replaced.Done) result h k =
    file_of h.now beside ≢ file_of h.now name → PutEnds beside name result h k
FinishEnds beside name filled (Ok answer) h k = (filled ≡ Ok answer) × Aside beside h.now k.now
FinishEnds beside name filled (Err error) h k = Unit {0}

abbrev pub Ends : List ℕ → List ℕ → Result Replaced Error → Result Replaced Error → Option History →
    Option History → Type 0
Ends beside name filled result = Runs (FinishSteps beside name filled) (FinishEnds beside name filled result)

-- what a replacement comes to, from the state before the new file was made
abbrev pub ReplaceEnds : List ℕ → Option Owner → List ℕ → Result Replaced Error → FolderState → History →
    History → Type 0
ReplaceEnds name owner bytes (Ok replaced.Done) s h k = IsSaved name bytes k
ReplaceEnds name owner bytes (Ok replaced.Refused) s h k =
    Prepares name s k.now × RefusedSince (IsReason name (IsOwner owner) s) h k
ReplaceEnds name owner bytes (Err error) s h k = Unit {0}

abbrev pub ReplacesBy : Handle → List ℕ → List ℕ → Option Owner → List ℕ → Result Replaced Error → Option History →
    Option History → Type 0
ReplacesBy handle beside name owner bytes result =
    Runs (λ t u. (s : FolderState) (file : ℕ) → IsMade handle name beside file s t → KeepsOrReplaces name bytes s u)
    (λ h k. (s : FolderState) (file : ℕ) → IsMade handle name beside file s h.now →
    ReplaceEnds name owner bytes result s h k)

-- What a replacement comes to.
abbrev pub Replaces : List ℕ → Option Owner → List ℕ → Result Replaced Error → Option History → Option History → Type 0
Replaces name owner bytes result = Runs (KeepsOrReplaces name bytes)
    (λ h k. ReplaceEnds name owner bytes result h.now h k)

-- whether it is a mount point, by its device and that of its folder
abbrev pub IsMounted : List ℕ → Option Owner → FolderState → Type 0
IsMounted place None s = ⊥
IsMounted place (Some owner) s = owner.device ≢ s.fixed.folder_device place

abbrev pub Mounted : List ℕ → Option Owner → Result Bool Error → Option History → Option History → Type 0
Mounted place owner result = Runs (λ s t. t ≡ s) (λ h k. (k.now ≡ h.now)
    × (result ≡ Ok true → IsMounted place owner h.now))

-- A replacement is refused where one of its calls is, and where the file is a mount point.
abbrev pub ReplaceOrNotEnds : List ℕ → Option Owner → List ℕ → Result Replaced Error → History → History → Type 0
ReplaceOrNotEnds name owner bytes (Ok replaced.Done) h k = IsSaved name bytes k
ReplaceOrNotEnds name owner bytes (Ok replaced.Refused) h k =
    Prepares name h.now k.now ×
    (IsMounted (folder_of name) owner h.now ⊎ RefusedSince (IsReason name (IsOwner owner) h.now) h k)
ReplaceOrNotEnds name owner bytes (Err error) h k = Unit {0}

abbrev pub ReplacesOrNot : List ℕ → Option Owner → List ℕ → Result Replaced Error → Option History →
    Option History → Type 0
ReplacesOrNot name owner bytes result = Runs (KeepsOrReplaces name bytes) (ReplaceOrNotEnds name owner bytes result)

-- Nothing at this name was replaced, or the system knows no second names.
abbrev pub IsPutAnew : List ℕ → Refusal → Type 0
IsPutAnew name refusal = (refusal ≡ Replacing name) ⊎ (refusal ≡ Linking name)

-- The name got its file so.
abbrev pub PutsAnew : List ℕ → Option History → Option History → Type 0
PutsAnew name (Some h) (Some k) = RefusedSince (IsPutAnew name) h k
PutsAnew name (Some h) None = Unit {0}
PutsAnew name None b = Unit {0}

-- the same, or a reason for which no new file came to the name
abbrev pub IsSavedAnew : List ℕ → FolderState → Refusal → Type 0
IsSavedAnew name s refusal = IsPutAnew name refusal ⊎ IsReason name (IsOwner None) s refusal

abbrev pub SavesAnew : List ℕ → Option History → Option History → Type 0
SavesAnew name (Some h) (Some k) = RefusedSince (IsSavedAnew name h.now) h k
SavesAnew name (Some h) None = Unit {0}
SavesAnew name None b = Unit {0}
