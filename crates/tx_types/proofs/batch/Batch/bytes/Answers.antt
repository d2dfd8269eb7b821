use Rattle.std.proofs.Common.{◌<◌, ◌≤◌, ◌-◌, ◌∙◌, ap, drop, length, arith}
use Rattle.std.proofs.lemmas.List.{take_all, length-drop}
use Rattle.tx_types.proofs.Writes.{length-writes_in, cell_within, get_or-writes_in, contents_at}
use Rattle.tx_types.proofs.batch.Batch.bytes.Goals as goal

pub cell_at-requires : goal.cell_at-requires
cell_at-requires c =
    let below = rw (← c.self.view_is) at c.requires in
    rw c.deref.ensures.value
    (cell_within c.self.inside.page_bytes c.self.inside.count c.self.inside.cells.items c.args.i c.self.invariant below)

pub returns-clause-bytes : goal.returns-clause-bytes
returns-clause-bytes c =
    let size = c.self.inside.page_bytes in
    let count = c.self.inside.count in
    let cells = c.self.inside.cells.items in
    let below = rw (← c.self.view_is) at c.requires in
    let inside : c.args.i < count = omega (arith, length-writes_in size count cells) in
    let cell = rw c.deref.ensures.value at c.cell_at.ensures.cell in
    let behind : length (drop 5 c.cell_at.result.now) ≤ length c.cell_at.result.now - 5 =
    simp length-drop (omega arith) in
    rw (← c.self.view_is, get_or-writes_in size count cells c.args.i inside)
    (take_all (length c.cell_at.result.now - 5) (drop 5 c.cell_at.result.now) behind
    ∙ ap (drop 5) cell ∙ contents_at size count cells c.args.i inside c.self.invariant)
