-- How values of numbers are kept that were ever set.
use Rattle.std.specs.Prelude.{◌≤◌, ◌-◌, ◌++◌, List, length, replicate, vec_capacity}
use Rattle.slot_tables.specs.declared.lazy_table.LazyTable.TheInside.{Inside}

module _ {T : Type 0} where
  -- behind the values that are kept each number has the same one
  abbrev pub values_of : Inside T → List T
  values_of t = t.first.items ++ replicate (t.count - length t.first.items) t.rest

  -- there is room for all
  pub record LazyTableInvariant (t : Inside T) : Type 0 where
    pub within : length t.first.items ≤ t.count
    pub room : t.count ≤ vec_capacity t.first
    pub small : t.count ≤ 65536
