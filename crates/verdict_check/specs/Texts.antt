-- Texts as lines, and the first line in which one differs from another.
use Rattle.std.specs.Prelude.{◌≡◌, ◌≢◌, ℕ, ◌-◌, ◌<◌, ◌≤◌, ◌==◌, if◌then◌else◌, Option, Some, None, List, [], ◌∷◌, slice_get, option_and_then}
use Rattle.std.specs.Option.{option_map}
use Rattle.verdict_check.specs.declared.reading.Reading.{Reading}

-- lines with one byte more at the beginning of the first
abbrev pub with_first : ℕ → List (List ℕ) → List (List ℕ)
with_first byte [] = (byte ∷ []) ∷ []
with_first byte (line ∷ lines) = (byte ∷ line) ∷ lines

-- the lines of a text. A line ends with its line feed, which is part of it; bytes after the last one are a line
unfoldable pub text_lines : List ℕ → List (List ℕ)
text_lines [] = []
text_lines (b ∷ bs) = if b == 10 then (b ∷ []) ∷ text_lines bs else with_first b (text_lines bs)

-- line `k` of a text, counted from 1, if it has that many
abbrev pub line_at : ℕ → List ℕ → Option (List ℕ)
line_at k text = slice_get (text_lines text) (k - 1)

-- the first line in which two texts differ, or which one of them alone has
pub record IsFirstDifference (want given : List ℕ) (k : ℕ) : Type 0 where
  pub counted : 1 ≤ k
  pub differs : line_at k want ≢ line_at k given
  pub same : (j : ℕ) → 1 ≤ j → j < k → line_at j want ≡ line_at j given

-- what stands behind a piece at the beginning of a text, if it begins with that
unfoldable pub behind : List ℕ → List ℕ → Option (List ℕ)
behind [] text = Some text
behind (b ∷ bs) [] = None
behind (b ∷ bs) (c ∷ text) = if b == c then behind bs text else None

-- what is left of a text that was read so far, if it was as wanted
abbrev pub left : Reading → Option (List ℕ)
left reading = option_map (λ rest. rest.now) reading.rest

-- and what is left behind one piece more
abbrev pub left_behind : List ℕ → Option (List ℕ) → Option (List ℕ)
left_behind piece rest = option_and_then (behind piece) rest
