use Rattle.verdict_check.proofs.Common.{◌≡◌, length}
use Rattle.verdict_check.specs.Straddlers.{AreStraddlersOf}
use Rattle.verdict_check.proofs.straddlers.note_versions.Given as goal

abbrev pub invariant-loop-found : goal.invariant-loop-found
invariant-loop-found l = AreStraddlersOf l.records.list.now l.found-index l.logical l.straddlers
    × (length l.straddlers ≡ length l.initial.straddlers)
