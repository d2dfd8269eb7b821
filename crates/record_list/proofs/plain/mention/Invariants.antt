use Rattle.record_list.proofs.Common.{◌≡◌, take}
use Rattle.record_list.specs.Records.{mention}
use Rattle.record_list.proofs.plain.mention.Given as goal

abbrev pub invariant-loop-found : goal.invariant-loop-found
invariant-loop-found l = l.best ≡ mention (take l.found-index l.list) l.page
