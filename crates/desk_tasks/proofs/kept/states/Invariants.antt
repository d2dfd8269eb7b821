use Rattle.desk_tasks.proofs.Common.{◌≡◌, take}
use Rattle.std.proofs.Common.{map}
use Rattle.flash_model.specs.Calls.{seen_of}
use Rattle.desk_tasks.proofs.kept.states.Given as goal

abbrev pub invariant-loop-slot : goal.invariant-loop-slot
invariant-loop-slot l = l.all.items ≡ map seen_of (take l.slot l.flash.image)
