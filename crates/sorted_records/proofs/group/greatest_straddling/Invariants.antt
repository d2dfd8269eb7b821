use Rattle.sorted_records.proofs.Common.{◌≡◌, take, straddling}
use Rattle.sorted_records.proofs.group.greatest_straddling.Given as goal

abbrev pub invariant-loop-found : goal.invariant-loop-found
invariant-loop-found l = l.best ≡ straddling (take l.found-index l.group) l.name
