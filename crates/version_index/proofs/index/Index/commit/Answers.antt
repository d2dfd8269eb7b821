use Rattle.version_index.proofs.Common.{subst, IsNoted}
use Rattle.judged_records.proofs.OfCommit.Cycles.{cycle_current}
use Rattle.version_index.proofs.index.Index.commit.Goals as goal

pub returns-clause-current : goal.returns-clause-current
returns-clause-current g c =
    cycle_current _ c.args.self.now (subst (IsNoted _) c.self.view_is c.self.invariant.indexed.noted) c.args.names.now
    c.requires.complete
