use Rattle.mem_flash.proofs.Kept.{seen_of-slot}
use Rattle.mem_flash.proofs.slots.Slots.seen.Goals as goal

pub returns : goal.returns
returns c =
    let below = rw (← c.self.view_is) at c.requires in
    rw (← c.self.view_is) (seen_of-slot c.self.inside c.self.invariant c.args.at.0 below _ c.index.ensures)
