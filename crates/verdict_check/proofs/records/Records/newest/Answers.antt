use Rattle.verdict_check.proofs.PlaceLemmas.{placed, none_newest}
use Rattle.verdict_check.proofs.records.Records.newest.Goals as goal

pub returns-in-Some : goal.returns-in-Some
returns-in-Some c = (placed c.args.self.now.list.now c.args.page c.in-Some.place c.in-Some.ensures).2

pub returns-in-None : goal.returns-in-None
returns-in-None c = none_newest c.args.self.now.list.now c.args.page c.in-None.ensures
