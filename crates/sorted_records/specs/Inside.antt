-- What is so inside each value of `SortedRecords`.
use Rattle.std.specs.Prelude.{◌≡◌, ◌<◌, ◌^◌, [], IfSome, length}
use Rattle.sorted_records.specs.declared.records.SortedRecords.TheInside.{Inside}
use Rattle.sorted_records.specs.Orbits.{AreOrbits}
use Rattle.sorted_records.specs.Minima.{AreMinima}
use Rattle.sorted_records.specs.SortedRecords.{IsInOrder, link_graph}
use Rattle.sorted_records.specs.NameGraph.{name_graph}
use Rattle.sorted_records.specs.Names.{AreNames}
use Rattle.sorted_records.specs.Starts.{AreStarts}

-- its records are in order and can be counted, and it has the places where their pages begin, what their names are, the
-- least back versions of many, the places that their links name, and the orbits of their links
pub record SortedRecordsInvariant (c : Inside) : Type 0 where
  pub order : IsInOrder c.records.items
  pub few : length c.records.items < 2 ^ 32
  pub starts : AreStarts c.records.items c.starts.items
  pub names : AreNames c.records.items (length c.records.items) c.names
  pub minima : IfSome c.least (λ least. AreMinima c.records.items [] least.items)
  pub targets : c.targets.items ≡ name_graph c.records.items
  pub orbits : AreOrbits (link_graph c.records.items) c.orbits
