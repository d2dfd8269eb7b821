-- What a desk has noted of the files that it loaded.
use Rattle.std.specs.Prelude.{◌≡◌, ◌≢◌, ℕ, List, Option, None, Some, Result, Ok, Err, unwrap_or}
use Rattle.std.specs.BTreeMap.{get_by_text}
use Rattle.durable_folder.specs.Calls.{IsUnchanged}
use Rattle.durable_folder.specs.FolderState.{FolderState}
use Rattle.durable_folder.specs.Locking.{LeadsToFile}
use Rattle.durable_folder.specs.declared.folder.Found.{Found}
use Rattle.desk_io.specs.declared.findings.Findings.{Findings}

-- what was found of the file of this name, if that is noted
abbrev pub noted : Findings → List ℕ → Option Found
noted findings name = unwrap_or (get_by_text findings.found name) None

-- What is noted of every other name stays.
abbrev pub KeepsOtherNotes : List ℕ → Findings → Findings → Type 0
KeepsOtherNotes name old new = (other : List ℕ) → other ≢ name → noted new other ≡ noted old other

-- What is noted stays, that of this name only after an error.
abbrev pub KeepsNotes : {T E : Type 0} → List ℕ → Result T E → Findings → Findings → Type 0
KeepsNotes name (Ok x) old new = KeepsOtherNotes name old new
KeepsNotes name (Err error) old new = (other : List ℕ) → noted new other ≡ noted old other

-- What was found of the plain file to which a name leads is noted, and it is so still.
abbrev pub IsNoted : List ℕ → Findings → FolderState → Type 0
IsNoted name findings s =
    (found : Found) × (noted findings name ≡ Some found) × ((file : ℕ) → LeadsToFile name file s →
    IsUnchanged found file s)
