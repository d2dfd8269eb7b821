use Rattle.std.proofs.Common.{refl, arith}
use Rattle.tx_types.proofs.Writes.{writes_in-append, AreWhole-append}
use Rattle.tx_types.proofs.batch.Batch.push.Goals as goal

pub invariant_of-self-2 : goal.invariant_of-self-2
invariant_of-self-2 c =
    let within = rw (← c.self.view_is) at c.requires.few in
    rw c.in_ok-add_cell.ensures.ok
    (AreWhole-append c.self.inside.page_bytes c.self.inside.count _ c.self.inside.cells.items
    (record { page = c.args.page; discard = c.args.discard })
    c.args.bytes.now c.in_ok-count.ensures c.self.invariant within c.requires.none)

pub returns-clause-ok : goal.returns-clause-ok
returns-clause-ok c =
    let within = rw (← c.self.view_is) at c.requires.few in
    let more = writes_in-append c.self.inside.page_bytes c.self.inside.count c.in_ok-count.count
    c.self.inside.cells.items
    (record { page = c.args.page; discard = c.args.discard }) c.args.bytes.now c.in_ok-count.ensures
    c.self.invariant.whole within
    (omega (arith, c.ranges.page.fits)) in
    rw (← c.self.view_is, c.in_ok-add_cell.ensures.ok, more) refl
