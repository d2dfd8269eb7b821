-- A page without a record has version 0, which counts.
use Rattle.sorted_records.proofs.Common.{sym, ap, ◌∙◌, cond-true, newest}
use Rattle.record_list.specs.Current.{fallback}
use Rattle.record_list.specs.Verdict.{why, is_committed}
use Rattle.sorted_records.proofs.OfWalk.WalkOrbits.{why_none}
use Rattle.sorted_records.proofs.records.SortedRecords.current_near.Goals as goal

pub returns-in-None : goal.returns-in-None
returns-in-None c =
    let now = c.args.self.now in
    let protocol = c.args.protocol in
    let page = c.args.page in
    c.newest.ensures
    ∙ sym (cond-true (is_committed (why protocol now c.args.logical page)) (newest now page) (fallback protocol now page)
    (ap is_committed (why_none protocol now c.args.logical page (sym c.in-None.ensures))))
