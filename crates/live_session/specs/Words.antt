-- The words of a call of the program.
use Rattle.std.specs.Prelude.{ℕ, nat_lt, if◌then◌else◌, List, [], ◌∷◌, length, map, string_bytes, String, Option, None, Some}
use Rattle.std.specs.Global.{Global}

-- the name of the image file: the only word, which has at least one byte
abbrev pub name_in : List (List ℕ) → Option (List ℕ)
name_in (name ∷ []) = if nat_lt 0 (length name) then Some name else None
name_in _ = None

abbrev pub name_by : List (String Global) → Option (List ℕ)
name_by words = name_in (map string_bytes words)
