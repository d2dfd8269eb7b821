-- The lines of a file and the words of a line.
use Rattle.std.specs.Prelude.{ℕ, ◌≢◌, ◌==◌, Bool, ◌||◌, true, false, List, [], ◌∷◌, filter, map, if◌then◌else◌, All}
use Rattle.std.specs.List.{slice_split}
use Rattle.std.specs.Str.Lines.{strip_carriage_return}

abbrev pub is_line_feed : ℕ → Bool
is_line_feed b = b == 10

-- no byte of these is a line feed
abbrev pub HasNoFeed : List ℕ → Type 0
HasNoFeed bytes = All (λ b. b ≢ 10) bytes

-- a space or a tab
abbrev pub is_space_or_tab : ℕ → Bool
is_space_or_tab b = b == 32 || b == 9

abbrev pub has_bytes : List ℕ → Bool
has_bytes [] = false
has_bytes (b ∷ bs) = true

-- the parts of a file without a last one that is empty
abbrev pub ended_parts : List (List ℕ) → List (List ℕ)
ended_parts [] = []
ended_parts (part ∷ []) = if has_bytes part then part ∷ [] else []
ended_parts (part ∷ next ∷ parts) = part ∷ ended_parts (next ∷ parts)

-- the lines of a file: its parts between line feeds, each without a carriage return at its end
unfoldable pub lines_of : List ℕ → List (List ℕ)
lines_of bytes = map strip_carriage_return (ended_parts (slice_split is_line_feed bytes))

-- the words of a line: its parts between blanks that have bytes
unfoldable pub words_of : List ℕ → List (List ℕ)
words_of line = filter has_bytes (slice_split is_space_or_tab line)
