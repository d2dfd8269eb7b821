use Rattle.flash_picture.proofs.Common.{◌≡◌, ◌∙◌, ap, arith, refl}
use Rattle.tx_types.specs.Config.{slots_of}
use Rattle.flash_picture.specs.Map.{widest}
use Rattle.flash_picture.proofs.map.Map.widest.Goals as goal

pub loop-slot-init : goal.loop-slot-init
loop-slot-init c = (refl, omega arith)

pub returns-clause-width : goal.returns-clause-width
returns-clause-width c =
    let m = c.args.self.now in
    let all : c.loop-slot.slot ≡ slots_of m.shape = omega arith in
    c.loop-slot.invariant.0 ∙ ap (widest m.cells.now m.marks) all

pub returns-clause-few : goal.returns-clause-few
returns-clause-few c = c.loop-slot.invariant.1
