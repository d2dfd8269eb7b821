use Rattle.record_list.proofs.Common.{◌≡◌, take, straddling}
use Rattle.record_list.proofs.walks.straddling.Given as goal

abbrev pub invariant-loop-found : goal.invariant-loop-found
invariant-loop-found l = l.best ≡ straddling (take l.found-index l.list) l.name
