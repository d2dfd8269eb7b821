use Rattle.record_list.proofs.Common.{◌≡◌, take, newest}
use Rattle.record_list.proofs.plain.newest.Given as goal

abbrev pub invariant-loop-found : goal.invariant-loop-found
invariant-loop-found l = l.best ≡ newest (take l.found-index l.list) l.page
