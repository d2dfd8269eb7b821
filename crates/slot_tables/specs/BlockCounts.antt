-- How block counts count its marks.
use Rattle.std.specs.Prelude.{◌≡◌, ℕ, ◌*◌, ◌<◌, ◌≤◌, length, slice_index}
use Rattle.slot_tables.specs.declared.block_counts.BlockCounts.TheInside.{Inside}
use Rattle.slot_tables.specs.Counts.{BlockCountsState, marked_in}

abbrev pub marks_of : Inside → BlockCountsState
marks_of t = record { marks = t.marks.items; size = t.size }

-- each group has its number of marks
pub record BlockCountsInvariant (t : Inside) : Type 0 where
  pub size : 0 < t.size
  pub groups : length t.marks.items ≡ length t.counts.items * t.size
  pub small : length t.marks.items ≤ 65536
  pub counts : (group : ℕ) → group < length t.counts.items →
      slice_index t.counts.items group ≡ marked_in t.marks.items t.size group
