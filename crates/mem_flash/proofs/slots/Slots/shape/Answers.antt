use Rattle.mem_flash.proofs.Kept.{IsImage-stored}
use Rattle.mem_flash.proofs.slots.Slots.shape.Goals as goal

pub returns-clause-image : goal.returns-clause-image
returns-clause-image c = rw (← c.self.view_is) (IsImage-stored c.self.inside c.self.invariant)
