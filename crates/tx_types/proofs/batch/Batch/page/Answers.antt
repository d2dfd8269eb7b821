use Rattle.std.proofs.Common.{◌<◌, ◌∙◌, ap, arith}
use Rattle.byteorder.specs.Endian.{little_number}
use Rattle.tx_types.proofs.Writes.{length-writes_in, cell_within, get_or-writes_in}
use Rattle.tx_types.proofs.batch.Batch.page.Goals as goal

pub cell_at-requires : goal.cell_at-requires
cell_at-requires c =
    let below = rw (← c.self.view_is) at c.requires in
    rw c.deref.ensures.value
    (cell_within c.self.inside.page_bytes c.self.inside.count c.self.inside.cells.items c.args.i c.self.invariant below)

pub returns : goal.returns
returns c =
    let size = c.self.inside.page_bytes in
    let count = c.self.inside.count in
    let cells = c.self.inside.cells.items in
    let below = rw (← c.self.view_is) at c.requires in
    let inside : c.args.i < count = omega (arith, length-writes_in size count cells) in
    let cell = rw c.deref.ensures.value at c.cell_at.ensures.cell in
    rw (← c.self.view_is, get_or-writes_in size count cells c.args.i inside) (c.read_u32.ensures
    ∙ ap (little_number 4) cell)
