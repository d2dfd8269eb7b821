use Rattle.record_list.proofs.Common.{◌≡◌, link_of}
use Rattle.std.proofs.Common.{drop}
use Rattle.record_list.proofs.walks.link_of.Given as goal

abbrev pub invariant-loop-found : goal.invariant-loop-found
invariant-loop-found l = link_of (drop l.found-index l.list) l.name ≡ link_of l.list l.name
