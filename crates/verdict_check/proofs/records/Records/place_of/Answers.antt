use Rattle.verdict_check.proofs.Common.{◌≡◌, subst, record_at}
use Rattle.verdict_check.proofs.PlaceLemmas.{leads, leads_nowhere}
use Rattle.verdict_check.proofs.records.Records.place_of.Goals as goal

pub returns-in-Some : goal.returns-in-Some
returns-in-Some c = leads c.args.self.now.list.now c.args.link c.in-Some.place c.in-Some.ensures c.if-self-place.true

pub returns-in_default : goal.returns-in_default
returns-in_default c = leads_nowhere c.args.self.now.list.now c.args.link c.place.result c.place.ensures
    (λ place is v. let same : place ≡ c.in-Some.place = cc in
    c.if-self-place.false (subst (λ n. (record_at c.args.self.now.list.now n).version ≡ c.args.link.version) same v))
