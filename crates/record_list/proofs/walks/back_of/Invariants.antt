use Rattle.record_list.proofs.Common.{◌≡◌, back_of}
use Rattle.std.proofs.Common.{drop}
use Rattle.record_list.proofs.walks.back_of.Given as goal

abbrev pub invariant-loop-found : goal.invariant-loop-found
invariant-loop-found l = back_of (drop l.found-index l.list) l.name ≡ back_of l.list l.name
