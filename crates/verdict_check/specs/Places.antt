-- Where the newest records of pages stand in a list.
use Rattle.std.specs.Prelude.{◌≡◌, ◌≢◌, ℕ, ◌<◌, ◌≤◌, Option, None, Some, List, position, slice_index_or}
use Rattle.record_list.specs.declared.found.Found.{Found}
use Rattle.record_list.specs.Records.{has_name, record_at}
use Rattle.record_list.specs.Verdict.{newest_name}

-- the place of the newest record of a page, in its lowest slot; nothing where the page has none
abbrev pub newest_place : List Found → ℕ → Option ℕ
newest_place list page = position (λ f. has_name (newest_name list page) f.rec) list

-- the record at a place is the newest of its page
abbrev pub IsNewestAt : List Found → ℕ → Type 0
IsNewestAt list place = newest_place list (record_at list place).page ≡ Some place

-- what a table says of a page
abbrev pub place_at : List (Option ℕ) → ℕ → Option ℕ
place_at places page = slice_index_or places page None

-- a table says where the newest record of each page stands
abbrev pub ArePlaces : List Found → List (Option ℕ) → Type 0
ArePlaces list places = (page : ℕ) → place_at places page ≡ newest_place list page

-- among this many records of the list this is the first of the newest ones of a page, nothing where it has none there
abbrev pub IsNewestOf : List Found → ℕ → ℕ → Option ℕ → Type 0
IsNewestOf list count page None = (k : ℕ) → k < count → (record_at list k).page ≢ page
IsNewestOf list count page (Some place) =
    (place < count) × ((record_at list place).page ≡ page)
    × ((k : ℕ) → k < count → (record_at list k).page ≡ page →
    (record_at list k).version ≤ (record_at list place).version)
    × ((k : ℕ) → k < place → (record_at list k).page ≡ page →
    (record_at list k).version < (record_at list place).version)

-- a table says so of each page
abbrev pub AreNewestOf : List Found → ℕ → List (Option ℕ) → Type 0
AreNewestOf list count places = (page : ℕ) → IsNewestOf list count page (place_at places page)
