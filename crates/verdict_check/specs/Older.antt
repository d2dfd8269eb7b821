-- What a table says of the versions of pages below their newest ones.
use Rattle.std.specs.Prelude.{◌≡◌, ℕ, List, slice_index_or, take}
use Rattle.record_list.specs.declared.found.Found.{Found}
use Rattle.record_list.specs.Records.{newest, next_older}

-- what a table says of a page
abbrev pub version_at : List ℕ → ℕ → ℕ
version_at versions page = slice_index_or versions page 0

-- of each page it has the greatest version below the newest one among this many records of the list, 0 for none
abbrev pub AreOlder : List Found → ℕ → List ℕ → Type 0
AreOlder list count older = (page : ℕ) → version_at older page ≡ next_older (take count list) page (newest list page)
