-- What a loss of power has left of a folder.
use Rattle.std.specs.Prelude.{◌≡◌, ℕ, List, [], ◌∷◌, Option}
use Rattle.durable_folder.specs.FolderState.{FolderState, Leaves}

-- Each name has one file, or none, and each file has one content. So one thing may be left at each name from now on,
-- and it is one that might have been left before.
pub record IsLeft (s t : FolderState) : Type 0 where
  pub names : (name : List ℕ) → (file : Option ℕ) × (t.names name ≡ file ∷ [])
  pub files : (file : ℕ) → (bytes : List ℕ) × (t.files file ≡ bytes ∷ [])
  pub before : (name : List ℕ) (left : Option (List ℕ)) → Leaves t name left → Leaves s name left
