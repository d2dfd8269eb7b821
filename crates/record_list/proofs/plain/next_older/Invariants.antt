use Rattle.record_list.proofs.Common.{◌≡◌, take, next_older}
use Rattle.record_list.proofs.plain.next_older.Given as goal

abbrev pub invariant-loop-found : goal.invariant-loop-found
invariant-loop-found l = l.best ≡ next_older (take l.found-index l.list) l.page l.below
