-- A block has no more garbage than slots.
use Rattle.slot_tables.proofs.Common.{ℕ, ◌+◌, ◌<◌, length, get_or, set, sym, ap, ◌∙◌, arith}
use Rattle.slot_tables.proofs.OfLiveSlots.Counted.{garbage_most, size_few}
use Rattle.slot_tables.proofs.live_slots.recount_more.Goals as goal

pub overflow_add-more : goal.overflow_add-more
overflow_add-more c =
    let some : 0 < get_or c.args.garbage.now c.args.block 0 = omega arith in
    let most = garbage_most c.args.marks.now c.args.block in
    let size = size_few c.args.marks.now (length c.args.garbage.now) c.args.block c.requires.sized c.requires.block
    c.size.ensures.small in
    omega (arith, c.requires.more some, most, size)

pub set-requires-clause-few : goal.set-requires-clause-few
set-requires-clause-few c =
    let some : 0 < get_or c.args.garbage.now c.args.block 0 = omega arith in
    let most = garbage_most c.args.marks.now c.args.block in
    let size = size_few c.args.marks.now (length c.args.garbage.now) c.args.block c.requires.sized c.requires.block
    c.size.ensures.small in
    omega (arith, c.requires.more some, most, size)

pub returns : goal.returns
returns c =
    let some : 0 < get_or c.args.garbage.now c.args.block 0 = omega arith in
    rw c.set.ensures.numbers (ap (set c.args.garbage.now c.args.block)
    (ap (λ (n : ℕ). n + 1) c.get-count.ensures ∙ sym (c.requires.more some)))
