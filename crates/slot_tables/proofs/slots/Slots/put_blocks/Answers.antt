-- The loop goes through the copies, and puts the block of each.
use Rattle.slot_tables.proofs.Common.{◌<◌, ◌+◌, ◌++◌, ◌∷◌, [], List, ℕ, length, map, vec_len, refl, sym, ap, ◌∙◌, arith, list_of, rest_from, copies_of, block_at}
use Rattle.std.proofs.Common.{append_assoc}
use Rattle.std.proofs.lemmas.List.{append-nil}
use Rattle.slot_tables.proofs.OfRecords.Rising.{rest_starts}
use Rattle.slot_tables.proofs.slots.Slots.put_blocks.Goals as goal

pub loop-slot-init : goal.loop-slot-init
loop-slot-init c =
    let order = c.first-slot.ensures.order in (
      ap (λ r. c.args.into.now.items ++ map (block_at c.args.size) r) order,
      ap (λ (r : List ℕ). vec_len c.args.into.now + length r) order,
      refl,
      c.first-slot.ensures.listed,
    )

pub push_reserved-requires : goal.push_reserved-requires
push_reserved-requires c =
    let xs = list_of c.self.inside.copies c.args.number in
    let has = rw c.in-Some.is at c.loop-slot.invariant.3 in
    let starts = ap length (ap (rest_from xs) c.in-Some.is ∙ rest_starts xs c.in-Some.at has) in
    let low : c.args.number < length c.self.inside.uses.items = rw (← c.self.view_is) at c.requires.number in
    let long = ap length (c.self.invariant.copies c.args.number low) in
    let room = rw (← c.self.view_is) at c.requires.room in
    omega (arith, starts, long, room, c.loop-slot.invariant.1, c.loop-slot.invariant.2)

pub loop-slot-preserved : goal.loop-slot-preserved
loop-slot-preserved c =
    let xs = list_of c.self.inside.copies c.args.number in
    let has = rw c.in-Some.is at c.loop-slot.invariant.3 in
    let order = ap (rest_from xs) c.in-Some.is ∙ c.next-slot.ensures.order c.args.number has in
    let blocks = map (block_at c.args.size) in
    let old = c.loop-slot.into.items in (
      ap (λ items. items ++ blocks (rest_from xs c.next-slot.result)) c.push_reserved.ensures.items
          ∙ append_assoc old (block_at c.args.size c.in-Some.at ∷ []) (blocks (rest_from xs c.next-slot.result))
          ∙ ap (λ r. old ++ blocks r) (sym order) ∙ c.loop-slot.invariant.0,
      (let long = ap length order in omega (arith, long, c.push_reserved.ensures.len, c.loop-slot.invariant.1)),
      c.push_reserved.ensures.capacity ∙ c.loop-slot.invariant.2,
      c.next-slot.ensures.listed c.args.number has,
    )

pub returns-clause-put : goal.returns-clause-put
returns-clause-put c =
    let xs = list_of c.self.inside.copies c.args.number in
    let low : c.args.number < length c.self.inside.uses.items = rw (← c.self.view_is) at c.requires.number in
    let blocks = map (block_at c.args.size) in
    sym (append-nil c.loop-slot.into.items) ∙ ap (λ s. c.loop-slot.into.items ++ blocks (rest_from xs s))
    (sym c.in_default.is)
    ∙ c.loop-slot.invariant.0
    ∙ ap (λ ys. c.args.into.now.items ++ blocks ys) (rw (← c.self.view_is) (c.self.invariant.copies c.args.number low))

pub returns-clause-len : goal.returns-clause-len
returns-clause-len c =
    let xs = list_of c.self.inside.copies c.args.number in
    let low : c.args.number < length c.self.inside.uses.items = rw (← c.self.view_is) at c.requires.number in
    let long = ap length (c.self.invariant.copies c.args.number low)
    ∙ ap (λ u. length (copies_of u c.args.number)) c.self.view_is in
    let end = ap (λ s. length (rest_from xs s)) c.in_default.is in
    omega (arith, long, end, c.loop-slot.invariant.1)
