use Rattle.verdict_check.proofs.PlaceLemmas.{link_there, link_absent}
use Rattle.verdict_check.proofs.records.Records.newest_link.Goals as goal

pub returns-in-Some : goal.returns-in-Some
returns-in-Some c = link_there c.args.self.now.list.now c.args.page c.in-Some.place c.in-Some.ensures

pub returns-in-None : goal.returns-in-None
returns-in-None c = link_absent c.args.self.now.list.now c.args.page c.in-None.ensures
