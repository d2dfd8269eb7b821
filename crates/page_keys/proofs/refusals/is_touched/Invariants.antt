use Rattle.page_keys.proofs.Common.{◌≡◌, drop, is_touched}
use Rattle.page_keys.proofs.refusals.is_touched.Given as goal

abbrev pub invariant-loop-change : goal.invariant-loop-change
invariant-loop-change l =
    is_touched l.logical l.changes l.page ≡ is_touched l.logical (drop l.change-index l.changes) l.page
