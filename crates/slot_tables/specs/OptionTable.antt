-- How values of numbers are kept that were ever set, where the others have none.
use Rattle.std.specs.Prelude.{◌≤◌, ◌-◌, ◌++◌, Option, None, List, length, replicate, vec_capacity}
use Rattle.slot_tables.specs.declared.option_table.OptionTable.TheInside.{Inside}

module _ {T : Type 0} where
  -- behind the values that are kept no number has one
  abbrev pub options_of : Inside T → List (Option T)
  options_of t = t.first.items ++ replicate (t.count - length t.first.items) None

  -- there is room for all
  pub record OptionTableInvariant (t : Inside T) : Type 0 where
    pub within : length t.first.items ≤ t.count
    pub room : t.count ≤ vec_capacity t.first
    pub small : t.count ≤ 65536
