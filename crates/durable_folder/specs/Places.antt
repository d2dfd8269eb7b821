-- In which folder a name is, and which names are beside it.
use Rattle.std.specs.Prelude.{◌≡◌, ℕ, ◌≤◌, nat_lt, if◌then◌else◌, List, [], ◌∷◌, ◌++◌, length, slice_range, codes, Option, None, Some}
use Rattle.std.specs.Fmt.{decimal}
use Rattle.std.specs.Option.{unwrap_or}
use Rattle.std.specs.Path.{path_parent, path_file_name, path_with_file_name}

-- the folder of a path, where "." stands for the one that names begin in
abbrev pub folder_or_here : Option (List ℕ) → List ℕ
folder_or_here None = codes "."
folder_or_here (Some []) = codes "."
folder_or_here (Some (b ∷ bs)) = b ∷ bs

abbrev pub folder_of : List ℕ → List ℕ
folder_of name = folder_or_here (path_parent name)

-- the name of a file in its folder
abbrev pub own_name : List ℕ → List ℕ
own_name name = unwrap_or (path_file_name name) []

-- how many bytes of it stay in a name beside it
abbrev pub most_kept : ℕ
most_kept = 246

abbrev pub number_text : ℕ → List ℕ
number_text number = if nat_lt 1 number then decimal number else []

-- The text is a file's own name with .saving, or that with a number, with the front of a long name.
pub record IsOwnBeside (own : List ℕ) (number : ℕ) (text : List ℕ) : Type 0 where
  pub kept : ℕ
  pub bound : kept ≤ most_kept
  pub whole : length own ≤ most_kept → length own ≤ kept
  pub is : text ≡ slice_range own 0 kept ++ codes ".saving" ++ number_text number

-- The text is NAME.saving, or that with a number, with the front of a long name.
pub record IsBeside (name : List ℕ) (number : ℕ) (text : List ℕ) : Type 0 where
  pub own : List ℕ
  pub beside : IsOwnBeside (own_name name) number own
  pub is : text ≡ path_with_file_name name own

-- one of the names that a save tries for a new file
pub record IsLeftover (name text : List ℕ) : Type 0 where
  pub number : ℕ
  pub least : 1 ≤ number
  pub most : number ≤ 99
  pub beside : IsBeside name number text
