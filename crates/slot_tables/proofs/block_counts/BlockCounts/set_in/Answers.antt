-- A mark that changes is counted in its group.
use Rattle.slot_tables.proofs.Common.{arith}
use Rattle.slot_tables.proofs.OfLiveSlots.Tallying.{size_fits, risen, risen_fits, fallen, fallen_fits}
use Rattle.slot_tables.proofs.block_counts.BlockCounts.set_in.Goals as goal

pub overflow_add-index_mut : goal.overflow_add-index_mut
overflow_add-index_mut c =
    let low = rw (← c.self.view_is) at c.requires.place in
    let most = risen_fits c.self.inside c.args.at c.index_mut-then-mark.result.now c.index.result.now c.args.mark
    c.self.invariant low c.index.ensures c.if-index-mark.false
    (rw (rw (← c.self.view_is) at c.requires.group) at c.index_mut-then-mark.ensures.value)
    c.if-mark.true in
    let size = size_fits c.self.inside c.args.at c.self.invariant low in
    omega (arith, most, size)

pub invariant_of-self : goal.invariant_of-self
invariant_of-self c =
    let group = rw (← c.self.view_is) at c.requires.group in
    rw group (risen c.self.inside c.args.at c.index_mut-then-mark.result.now c.index.result.now
    c.args.mark c.self.invariant
    (rw (← c.self.view_is) at c.requires.place)
    c.index.ensures c.if-index-mark.false (rw group at c.index_mut-then-mark.ensures.value)
    c.if-mark.true)

pub overflow_sub-index_mut : goal.overflow_sub-index_mut
overflow_sub-index_mut c =
    fallen_fits c.self.inside c.args.at c.index_mut-else-mark.result.now c.index.result.now c.args.mark c.self.invariant
    (rw (← c.self.view_is) at c.requires.place)
    c.index.ensures c.if-index-mark.false
    (rw (rw (← c.self.view_is) at c.requires.group) at c.index_mut-else-mark.ensures.value)
    c.if-mark.false

pub invariant_of-self-else-mark : goal.invariant_of-self-else-mark
invariant_of-self-else-mark c =
    let group = rw (← c.self.view_is) at c.requires.group in
    rw group (fallen c.self.inside c.args.at c.index_mut-else-mark.result.now c.index.result.now
    c.args.mark c.self.invariant
    (rw (← c.self.view_is) at c.requires.place)
    c.index.ensures c.if-index-mark.false (rw group at c.index_mut-else-mark.ensures.value)
    c.if-mark.false)
