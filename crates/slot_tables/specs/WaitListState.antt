-- The pages that records wait for.
use Rattle.std.specs.Prelude.{◌≡◌, ℕ, ◌↔◌, Option, Some, List, length}
use Rattle.std.specs.List.{Contains}
use Rattle.dense_tables.specs.LinkedLists.{LinkedListsState, AreDisjoint, list_of}
use Rattle.slot_tables.specs.TablesState.{number_at}

-- how many pages there are, and the page that each record waits for, by its number
pub record WaitListState : Type 0 where
  pub pages : ℕ
  pub waits : List (Option ℕ)

-- the list of each page has the records that wait for it
pub record AreWaiting (w : WaitListState) (c : LinkedListsState) : Type 0 where
  pub places : c.places ≡ length w.waits
  pub pages : length c.lists ≡ w.pages
  pub waiting : (page number : ℕ) → Contains (list_of c page) number ↔ (number_at w.waits number ≡ Some page)
  pub disjoint : AreDisjoint c
