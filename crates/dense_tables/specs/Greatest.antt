-- The greatest of some numbers, and the first place where it stands.
use Rattle.std.specs.Prelude.{ℕ, ◌*◌, ◌<◌, ◌≤◌, max, List, [], ◌∷◌, length, take, drop, slice_index}
use Rattle.std.specs.List.{All}

-- the greatest of some numbers, and 0 where there are none
abbrev pub greatest : List ℕ → ℕ
greatest [] = 0
greatest (x ∷ xs) = max x (greatest xs)

-- a group of the numbers, where all groups have one size: those from as many times its number on, at most as many
unfoldable pub group_of : ℕ → List ℕ → ℕ → List ℕ
group_of size xs group = take size (drop (size * group) xs)

-- no number is greater than the one at this place, and each one before it is less
pub record IsFirstGreatest (xs : List ℕ) (at : ℕ) : Type 0 where
  pub within : at < length xs
  pub greatest : All (λ x. x ≤ slice_index xs at) xs
  pub first : (k : ℕ) → k < at → slice_index xs k < slice_index xs at
