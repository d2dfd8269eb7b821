-- How the pages with a current record are counted.
use Rattle.std.specs.Prelude.{◌≡◌, ℕ, ◌<◌, ◌^◌, Option, List, length, count_by}
use Rattle.slot_tables.specs.declared.current.Current.TheInside.{Inside}
use Rattle.slot_tables.specs.TablesState.{is_some_number}

abbrev pub current_of : Inside → List (Option ℕ)
current_of c = c.numbers.items

-- each is counted
pub record CurrentInvariant (c : Inside) : Type 0 where
  pub small : length c.numbers.items < 2 ^ 32
  pub written : c.written ≡ count_by is_some_number c.numbers.items
