-- How the answerers are counted.
use Rattle.std.specs.Prelude.{◌≡◌, ℕ, ◌<◌, ◌≤◌, Option, Some, List, length, count_by, slice_index}
use Rattle.slot_tables.specs.declared.responsibilities.Responsibilities.TheInside.{Inside}
use Rattle.slot_tables.specs.TablesState.{number_at, is_number}

abbrev pub answerers_of : Inside → List (Option ℕ)
answerers_of a = a.answerers

-- each number is counted as often as it is an answerer
pub record AreCounted (answerers : List (Option ℕ)) (its_counts : List ℕ) : Type 0 where
  pub small : length answerers ≤ 65536
  pub sizes : length its_counts ≡ length answerers
  pub within : (y x : ℕ) → number_at answerers y ≡ Some x → x < length answerers
  pub counts : (x : ℕ) → x < length answerers → slice_index its_counts x ≡ count_by (is_number x) answerers

abbrev pub ResponsibilitiesInvariant : Inside → Type 0
ResponsibilitiesInvariant a = AreCounted a.answerers a.counts
