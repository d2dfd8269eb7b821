-- What a search for the first record that breaks a law finds.
use Rattle.std.specs.Prelude.{ℕ, ◌<◌, Option, Some, None, List, length, slice_index_or, All}
use Rattle.record_list.specs.declared.found.Found.{Found}

-- the index of the first record of which the fact does not hold, nothing where it holds of each
abbrev pub FindsFirst : (Found → Type 0) → List Found → Option ℕ → Type 0
FindsFirst P list None = All P list
FindsFirst P list (Some i) =
    (i < length list)
    × ((d : Found) → P (slice_index_or list i d) → ⊥)
    × ((k : ℕ) (d : Found) → k < i → P (slice_index_or list k d))
