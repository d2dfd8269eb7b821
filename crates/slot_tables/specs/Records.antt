-- How the records of each page are kept.
use Rattle.std.specs.Prelude.{◌≡◌, ℕ, ◌+◌, ◌<◌, ◌≤◌, ◌↔◌, None, length, take}
use Rattle.std.specs.List.{Contains}
use Rattle.dense_tables.specs.LinkedLists.{AreDisjoint, list_of}
use Rattle.slot_tables.specs.declared.records.Records.TheInside.{Inside}
use Rattle.slot_tables.specs.TablesState.{record_at, AreVersions}
use Rattle.slot_tables.specs.Versions.{RecordsState}

abbrev pub numbered_of : Inside → RecordsState
numbered_of r = record { records = r.records; pages = take r.pages r.lists.lists }

-- behind the lists of the pages is that of the numbers that lost their record, and some numbers never had one
pub record RecordsInvariant (r : Inside) : Type 0 where
  pub small : length r.records ≤ 65536
  pub few : r.pages ≤ 65536
  pub places : r.lists.places ≡ length r.records
  pub keys : length r.lists.lists ≡ r.pages + 1
  pub disjoint : AreDisjoint r.lists
  pub versions : AreVersions r.records (take r.pages r.lists.lists)
  pub unused : r.unused ≤ length r.records
  pub fresh : (number : ℕ) → r.unused ≤ number → record_at r.records number ≡ None
  pub free : (number : ℕ) → Contains (list_of r.lists r.pages) number ↔
      ((number < r.unused) × (record_at r.records number ≡ None))
