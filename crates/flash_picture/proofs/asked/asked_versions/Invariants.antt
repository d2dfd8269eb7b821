use Rattle.flash_picture.proofs.Common.{take}
use Rattle.flash_picture.specs.Held.{AreAsked}
use Rattle.flash_picture.proofs.asked.asked_versions.Given as goal

abbrev pub invariant-loop-at : goal.invariant-loop-at
invariant-loop-at l = AreAsked l.standing (take l.at l.standing.list) l.asked.items
