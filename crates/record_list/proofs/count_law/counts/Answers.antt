use Rattle.record_list.proofs.Common.{subst, KeepsCount}
use Rattle.record_list.specs.Search.{FindsFirst}
use Rattle.record_list.proofs.OfFacts.Breaches.{miscount_at}
use Rattle.record_list.proofs.count_law.counts.Goals as goal

pub returns-in-Some : goal.returns-in-Some
returns-in-Some c =
    rw c.breach_at.ensures (miscount_at c.args.list.now c.in-Some.at c.requires.scanned
    (subst (FindsFirst (KeepsCount c.args.list.now) c.args.list.now) c.in-Some.is c.first_miscount.ensures))
