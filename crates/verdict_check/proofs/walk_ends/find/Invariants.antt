use Rattle.verdict_check.proofs.Common.{length, ◌<◌, link_graph, IsNewestAt}
use Rattle.verdict_check.proofs.WalkEndLemmas.{IsOnWay}
use Rattle.verdict_check.proofs.walk_ends.find.Given as goal

abbrev pub invariant-loop-taken : goal.invariant-loop-taken
invariant-loop-taken l =
    IsOnWay (link_graph l.records.list.now) l.place l.taken l.at × (l.at < length l.records.list.now)
    × IsNewestAt l.records.list.now l.at
