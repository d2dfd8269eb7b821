-- How many pages are not blank.
use Rattle.std.specs.Prelude.{ℕ, ◌==◌, ◌&&◌, not, Bool, false, List, Option, count_by}
use Rattle.std.specs.List.{range_with_len}
use Rattle.std.specs.Option.{option_map_or}
use Rattle.tx_types.specs.declared.record.Rec.{Rec}
use Rattle.slot_tables.specs.TablesState.{TablesState}
use Rattle.judged_records.specs.IndexState.{IndexState, current_of, discarded_of}
use Rattle.judged_records.specs.Numbered.{rec_at}

-- whether the record of a number fills its page: there is one, which does not discard it
abbrev pub fills : List (Option Rec) → Option ℕ → Bool
fills records number = option_map_or (λ x. option_map_or (λ r. not r.discard) (rec_at records x) false) number false

-- how many pages their current records fill
abbrev pub pages_written : TablesState → ℕ
pages_written k = count_by (fills k.records) k.current

-- whether a page is not blank: it has a current record, which does not discard it
abbrev pub is_written : IndexState → ℕ → Bool
is_written n page = not (current_of n page == 0) && not (discarded_of n page)

-- how many pages are not blank
unfoldable pub written_of : IndexState → ℕ
written_of n = count_by (is_written n) (range_with_len 0 n.config.logical)
