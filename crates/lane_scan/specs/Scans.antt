-- What the scans answer, byte by byte.
use Rattle.std.specs.Prelude.{◌≡◌, ◌≢◌, ℕ, ◌==◌, ◌<◌, Bool, not, List, length, take, slice_index, position, Option}
use Rattle.std.specs.List.{list_all, zip}

-- whether each byte has this value
abbrev pub all_equal : List ℕ → ℕ → Bool
all_equal bytes value = list_all (λ b. b == value) bytes

-- the least index at which two lists differ
abbrev pub first_difference : List ℕ → List ℕ → Option ℕ
first_difference a b = position (λ pair. not (pair.0 == pair.1)) (zip a b)

-- two lists differ at an index, and not before it
pub record DifferFirstAt (a b : List ℕ) (at : ℕ) : Type 0 where
  pub in_range : at < length a
  pub before : take at a ≡ take at b
  pub here : slice_index a at ≢ slice_index b at
