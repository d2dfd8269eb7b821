-- How the records that wait are kept.
use Rattle.std.specs.Prelude.{◌≡◌, ◌≤◌, length, count_by}
use Rattle.slot_tables.specs.declared.wait_list.WaitList.TheInside.{Inside}
use Rattle.slot_tables.specs.TablesState.{is_some_number}
use Rattle.slot_tables.specs.WaitListState.{WaitListState, AreWaiting}

abbrev pub waiting_of : Inside → WaitListState
waiting_of w = record { pages = length w.waiting.lists; waits = w.waits }

-- the lists have those that wait, and each is counted
pub record WaitListInvariant (w : Inside) : Type 0 where
  pub small : length w.waits ≤ 65536
  pub waiting : AreWaiting (waiting_of w) w.waiting
  pub count : w.count ≡ count_by is_some_number w.waits
