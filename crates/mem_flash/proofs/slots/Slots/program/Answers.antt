use Rattle.mem_flash.proofs.Common.{List, ap, ◌∙◌, arith, Contents, SlotsState}
use Rattle.flash_model.specs.Flash.{damaged}
use Rattle.mem_flash.proofs.Kept.{overwritten-one}
use Rattle.mem_flash.proofs.slots.Slots.program.Goals as goal

pub returns-in-Bad : goal.returns-in-Bad
returns-in-Bad c =
    let slots : List Contents → SlotsState = λ image. record { shape = c.args.self.now.shape; image = image } in
    rw c.in-Bad.is
    (c.fill.ensures.filled ∙ ap slots (overwritten-one c.args.self.now.image c.args.at.0 damaged
    (omega (arith, c.fill.ensures.slots))))
