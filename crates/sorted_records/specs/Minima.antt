-- Least back versions of the records of a page, from each on.
use Rattle.std.specs.Prelude.{◌≡◌, ℕ, zero, suc, ◌+◌, ◌<◌, ◌≤◌, min, ◌==◌, ◌&&◌, Bool, true, nat_lt, nat_le, if◌then◌else◌, Option, None, Some, List, length}
use Rattle.std.specs.Prelude.{slice_get, slice_index_or}
use Rattle.tx_types.specs.declared.record.Rec.{Rec}
use Rattle.record_list.specs.declared.found.Found.{Found}
use Rattle.record_list.specs.Records.{record_at}

-- whether a version is up to a bound, if there is one
abbrev pub is_up_to : Option ℕ → ℕ → Bool
is_up_to None version = true
is_up_to (Some top) version = nat_le version top

-- whether a record has a version up to the bound of its page
abbrev pub counts : List ℕ → Rec → Bool
counts tops r = is_up_to (slice_get tops r.page) r.version

-- from this place on, the number of each record that counts is the least back version of those of its page that count,
-- from it on
pub record AreMinimaFrom (list : List Found) (tops : List ℕ) (start : ℕ) (least : List ℕ) : Type 0 where
  pub size : length least ≡ length list
  pub low : (i k : ℕ) → start ≤ i → i ≤ k → k < length list →
      (record_at list k).page ≡ (record_at list i).page → counts tops (record_at list k) ≡ true →
      slice_index_or least i 0 ≤ (record_at list k).back
  pub one : (i : ℕ) → start ≤ i → i < length list → counts tops (record_at list i) ≡ true →
      (k : ℕ) × (i ≤ k) × (k < length list) × ((record_at list k).page ≡ (record_at list i).page)
      × (counts tops (record_at list k) ≡ true) × ((record_at list k).back ≡ slice_index_or least i 0)

abbrev pub AreMinima : List Found → List ℕ → List ℕ → Type 0
AreMinima list tops least = AreMinimaFrom list tops 0 least

-- the least back version from a place on, by that from the next one on
abbrev pub least_from : List Found → List ℕ → List ℕ → ℕ → ℕ
least_from list tops least at =
    if nat_lt (at + 1) (length list) && ((record_at list (at + 1)).page == (record_at list at).page)
    && counts tops (record_at list (at + 1)) then min (record_at list at).back (slice_index_or least (at + 1) 0)
    else (record_at list at).back

-- the version of the last of this many records from a place on, where it is above one, else 0
abbrev pub last_above : List Found → ℕ → ℕ → ℕ → ℕ
last_above list from zero version = 0
last_above list from (suc count) version =
    if nat_lt version (record_at list (from + count)).version then (record_at list (from + count)).version
    else 0
