use Rattle.page_keys.proofs.Common.{◌≡◌, drop, list_any, has_key}
use Rattle.page_keys.proofs.repeats.stands_in.Given as goal

abbrev pub invariant-loop-change : goal.invariant-loop-change
invariant-loop-change l =
    list_any (has_key l.key) l.changes ≡ list_any (has_key l.key) (drop l.change-index l.changes)
