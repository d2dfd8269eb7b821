use Rattle.verdict_check.proofs.Common.{◌≡◌, length}
use Rattle.verdict_check.specs.Straddlers.{TakesInFrom}
use Rattle.verdict_check.proofs.ChainLemmas.{above}
use Rattle.verdict_check.proofs.straddlers.note_version.Given as goal

abbrev pub invariant-loop-next : goal.invariant-loop-next
invariant-loop-next l =
    TakesInFrom l.records.list.now l.logical l.rec l.initial.straddlers l.straddlers l.next
    × (length l.straddlers ≡ length l.initial.straddlers)

abbrev pub decreases-loop-next : goal.decreases-loop-next
decreases-loop-next l = above l.next
