use Rattle.sorted_records.proofs.Common.{sym}
use Rattle.sorted_records.proofs.OfWalk.WalkOrbits.{why_none}
use Rattle.sorted_records.proofs.records.SortedRecords.why.Goals as goal

pub returns-in-None : goal.returns-in-None
returns-in-None c =
    sym (why_none c.args.protocol c.args.self.now c.args.logical c.args.page (sym c.in-None.ensures))
