-- The loop goes through the places below the one that is put in.
use Rattle.slot_tables.proofs.Common.{list_of}
use Rattle.slot_tables.proofs.OfRecords.Rising.{at_first, at_next, stops_above, stops_end}
use Rattle.slot_tables.proofs.slots.last_below.Goals as goal

pub loop-slot-init : goal.loop-slot-init
loop-slot-init c =
    let first = at_first (list_of c.args.lists.now c.args.key) c.args.at in
    (rw c.first-slot.ensures.first first, c.first-slot.ensures.listed)

pub returns-then-other-at : goal.returns-then-other-at
returns-then-other-at c =
    stops_above (list_of c.args.lists.now c.args.key) c.args.at c.in-Some.other c.loop-slot.slot c.loop-slot.below
    c.loop-slot.invariant.0
    c.in-Some.is c.if-other-at.true

pub loop-slot-preserved : goal.loop-slot-preserved
loop-slot-preserved c =
    let xs = list_of c.args.lists.now c.args.key in
    let has = rw c.in-Some.is at c.loop-slot.invariant.1 in
    let next = at_next xs c.args.at c.in-Some.other c.loop-slot.slot c.loop-slot.below c.requires.rises
    c.loop-slot.invariant.0 c.in-Some.is
    c.if-other-at.false in
    (rw (c.next-slot.ensures.next c.args.key has, ← c.in-Some.is) next, c.next-slot.ensures.listed c.args.key has)

pub returns : goal.returns
returns c =
    stops_end (list_of c.args.lists.now c.args.key) c.args.at c.loop-slot.slot c.loop-slot.below c.loop-slot.invariant.0
    c.in_default.is
