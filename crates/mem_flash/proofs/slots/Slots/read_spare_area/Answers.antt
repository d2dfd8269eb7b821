use Rattle.mem_flash.proofs.Common.{arith, rules}
use Rattle.mem_flash.proofs.Kept.{cell_within, seen_of-slot, spare_area_of-slot}
use Rattle.mem_flash.proofs.slots.Slots.read_spare_area.Goals as goal

pub cell_at-cell-requires : goal.cell_at-cell-requires
cell_at-cell-requires c =
    let below = rw (← c.self.view_is) at c.requires in
    rw (c.cell_bytes.ensures, c.deref.ensures.value)
    (omega (arith, cell_within c.self.inside c.self.invariant c.args.at.0 below))

pub returns-clause-how : goal.returns-clause-how
returns-clause-how c =
    let below = rw (← c.self.view_is) at c.requires in
    rw (← c.self.view_is) (seen_of-slot c.self.inside c.self.invariant c.args.at.0 below _ (search rules))

pub returns-clause-spare_area : goal.returns-clause-spare_area
returns-clause-spare_area c =
    let below = rw (← c.self.view_is) at c.requires in
    let its_spare_area = spare_area_of-slot c.self.inside c.self.invariant c.args.at.0 below in
    rw (← c.self.view_is) (cc)
