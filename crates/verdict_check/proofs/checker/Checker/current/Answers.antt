use Rattle.verdict_check.proofs.Common.{sym, inl, inr, record_at, newest_name}
use Rattle.sorted_records.proofs.OfWalk.WalkOrbits.{back_found}
use Rattle.verdict_check.proofs.checker.Checker.current.Goals as goal

pub returns-in-Bpcc : goal.returns-in-Bpcc
returns-in-Bpcc c =
    let list = c.args.self.now.records.list.now in
    let back = back_found list (newest_name list (record_at list c.args.place).page) c.args.place
    (sym c.requires.newest) in
    elim c.in-Absent.is [
      | inl absent ↦ rw (absent, c.in-Bpcc.is) back
      | inr straddled ↦ rw (straddled.1, c.in-Bpcc.is) back
    ]
