use Rattle.verdict_check.proofs.Common.{◌≡◌, length, ◌<◌, Some, link_graph, steps, IsNewestAt, AreWalkEnds}
use Rattle.verdict_check.proofs.walk_ends.note_ending.Given as goal

abbrev pub invariant-loop-taken : goal.invariant-loop-taken
invariant-loop-taken l =
    (steps (link_graph l.records.list.now) l.taken l.place ≡ Some l.at) × (l.at < length l.records.list.now)
    × IsNewestAt l.records.list.now l.at
    × AreWalkEnds l.records.list.now l.logical l.courses × (length l.courses ≡ length l.initial.courses)
