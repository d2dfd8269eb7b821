use Rattle.mem_flash.proofs.Common.{arith}
use Rattle.mem_flash.proofs.Kept.{cell_within, cell_of-slot}
use Rattle.mem_flash.proofs.slots.Slots.cell.Goals as goal

pub cell_at-requires : goal.cell_at-requires
cell_at-requires c =
    let below = rw (← c.self.view_is) at c.requires in
    rw (c.cell_bytes.ensures, c.deref.ensures.value)
    (omega (arith, cell_within c.self.inside c.self.invariant c.args.at.0 below))

pub returns-clause-bytes : goal.returns-clause-bytes
returns-clause-bytes c =
    let below = rw (← c.self.view_is) at c.requires in
    let shown = cell_of-slot c.self.inside c.self.invariant c.args.at.0 below in
    rw (← c.self.view_is, c.cell_at.ensures.cell, c.cell_bytes.ensures, c.deref.ensures.value) (cc)

pub returns-clause-whole : goal.returns-clause-whole
returns-clause-whole c = rw (← c.self.view_is) (cc)
