use Rattle.verdict_check.proofs.Common.{arith}
use Rattle.verdict_check.proofs.StraddlerLemmas.{shows_ending}
use Rattle.verdict_check.proofs.checker.Checker.ending.Goals as goal

pub returns-then-next-newest : goal.returns-then-next-newest
returns-then-next-newest c =
    let e = c.newest.ensures in
    let low = c.if-next-newest.true in
    shows_ending c.args.self.now.protocol c.args.self.now.records.list.now c.args.self.now.straddlers.now c.args.at
    c.why_below_newest.result c.requires.within
    c.requires.newest c.requires.straddlers (omega arith) c.why_below_newest.ensures
