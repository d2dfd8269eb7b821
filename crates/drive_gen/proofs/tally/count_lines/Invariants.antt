use Rattle.drive_gen.proofs.Common.{◌≡◌, length, lines_of, last_stats, plus, tally_of}
use Rattle.drive_gen.proofs.TallyLemmas.{last_from}
use Rattle.drive_gen.proofs.tally.count_lines.Given as goal

abbrev pub invariant-loop-line : goal.invariant-loop-line
invariant-loop-line l = record {
  tally : plus l.tally (tally_of (lines_of l.rest)) ≡ tally_of (lines_of l.replies);
  stats : last_from l.stats (lines_of l.rest) ≡ last_stats (lines_of l.replies);
}

abbrev pub decreases-loop-line : goal.decreases-loop-line
decreases-loop-line l = length l.rest
