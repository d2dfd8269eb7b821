use Rattle.verdict_check.proofs.Common.{◌≡◌, length}
use Rattle.verdict_check.specs.Straddlers.{AreLast, AreBefore}
use Rattle.verdict_check.proofs.straddlers.note_links.Given as goal

abbrev pub invariant-loop-page : goal.invariant-loop-page
invariant-loop-page l =
    AreLast l.records.list.now l.page l.last × AreBefore l.records.list.now l.page l.before
    × (length l.last ≡ length l.initial.last) × (length l.before ≡ length l.initial.before)
