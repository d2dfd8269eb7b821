-- Why a save fails.
use Rattle.std.specs.Prelude.{◌≡◌, ◌≢◌, ◌⊎◌, ℕ, ◌+◌, ◌<◌, ◌≤◌, true, List, Option, None, Some, IfErr, IsErr, Result}
use Rattle.durable_folder.specs.FolderState.{FolderState, file_of}
use Rattle.durable_folder.specs.Counting.{is_refusal}
use Rattle.std.specs.IoError.{error_kind}
use Rattle.std.specs.declared.io.Error.{Error}
use Rattle.std.specs.declared.io.ErrorKind.TheVariants as kind
use Rattle.durable_folder.specs.Histories.{History}
use Rattle.durable_folder.specs.Places.{IsBeside}

-- how often the system met a fault, where that is told
abbrev pub failures_of : Option History → ℕ
failures_of None = 0
failures_of (Some h) = h.failures

-- 1 where nothing is told, of which nothing is said then
abbrev pub silent : Option History → ℕ
silent None = 1
silent (Some h) = 0

-- the system met a fault since
abbrev pub HasFailed : Option History → Option History → Type 0
HasFailed a b = failures_of a < failures_of b + silent b

-- No fault was forgotten.
abbrev pub IsLater : Option History → Option History → Type 0
IsLater a b = (silent b ≡ silent a) × (failures_of a ≤ failures_of b)

-- An error comes where the system met a fault.
abbrev pub HasFault : {T : Type 0} → Result T Error → Option History → Option History → Type 0
HasFault result a b = IsLater a b × (IsErr result → HasFailed a b)

-- This holds of the state, where it is told.
abbrev pub AtNow : (FolderState → Type 0) → Option History → Type 0
AtNow P None = Unit {0}
AtNow P (Some h) = P h.now

-- At each name that a save tries for a new file there is something, or it is the name that is saved.
abbrev pub TakenBelow : ℕ → List ℕ → FolderState → Type 0
TakenBelow most name s =
    (number : ℕ) → 1 ≤ number → number < most → (text : List ℕ) × IsBeside name number text
    × ((text ≡ name) ⊎ (file_of s text ≢ None))

abbrev pub AllTaken : List ℕ → FolderState → Type 0
AllTaken name s = TakenBelow 100 name s

-- Why there was an error: the system met a fault, there was no memory, or all names for a new file were taken.
abbrev pub IsCause : Type 0 → Error → Option History → Option History → Type 0
IsCause taken error a b =
    HasFailed a b ⊎ ((error_kind error ≡ kind.OutOfMemory) ⊎ ((error_kind error ≡ kind.AlreadyExists) × taken))

abbrev pub HasCause : {T : Type 0} → Type 0 → Result T Error → Option History → Option History → Type 0
HasCause taken result a b = IsLater a b × IfErr result (λ error. IsCause taken error a b)

-- the name has the file that is open
abbrev pub IsNamed : Option ℕ → List ℕ → FolderState → Type 0
IsNamed opened beside s = (file : ℕ) × (opened ≡ Some file) × (file_of s beside ≡ Some file)

-- An error of making a new file says that the system gave no leave for it, or has its cause.
abbrev pub IsPassedOver : Type 0 → Error → Option History → Option History → Type 0
IsPassedOver taken error a b = (is_refusal (error_kind error) ≡ true) ⊎ IsCause taken error a b

abbrev pub MayPassOver : {T : Type 0} → Type 0 → Result T Error → Option History → Option History → Type 0
MayPassOver taken result a b = IsLater a b × IfErr result (λ error. IsPassedOver taken error a b)
