use Rattle.sorted_records.proofs.OfWalk.NameReturns.{name_graph_is}
use Rattle.sorted_records.proofs.records.SortedRecords.targets.Goals as goal

pub returns-clause-graph : goal.returns-clause-graph
returns-clause-graph c = rw (c.as_slice.ensures.value, c.self.invariant.targets)
    (name_graph_is c.self.inside.records.items)
