use Rattle.sorted_records.proofs.Common.{◌∙◌}
use Rattle.sorted_records.proofs.OfWalk.WalkOrbits.{present_found}
use Rattle.sorted_records.proofs.records.SortedRecords.is_present.Goals as goal

pub returns : goal.returns
returns c = c.is_some.ensures ∙ present_found c.args.self.now c.args.name c.find.result c.find.ensures
