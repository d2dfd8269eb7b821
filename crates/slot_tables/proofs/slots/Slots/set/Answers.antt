-- What the slot held is forgotten first.
use Rattle.slot_tables.proofs.Common.{inl, inr, length, set, ◌∙◌, ap, set-set, Holds, HoldsNone}
use Rattle.std.proofs.lemmas.List.{length-set}
use Rattle.slot_tables.proofs.OfBaseTables.Held.{list_rises, not_listed, unheld, placed}
use Rattle.slot_tables.proofs.slots.Slots.set.Goals as goal

pub invariant_of-self : goal.invariant_of-self
invariant_of-self c =
    let long = ap length (c.self.view_is ∙ c.forget.ensures.others) ∙ length-set c.args.self.now c.args.at _ in
    let now : HoldsNone c.args.to = elim c.in-Blank.is [ inl e ↦ rw e tt | inr e ↦ rw e tt ] in
    unheld c.self.inside c.self.invariant c.args.at c.args.to (rw long c.requires.slot)
    (rw c.self.view_is c.forget.ensures.none) now

pub put_in_order-requires-clause-rises : goal.put_in_order-requires-clause-rises
put_in_order-requires-clause-rises c =
    let long = ap length (c.self.view_is ∙ c.forget.ensures.others) ∙ length-set c.args.self.now c.args.at _ in
    list_rises c.self.inside c.self.invariant c.in-Holds.number (rw long (rw c.in-Holds.is at c.requires.number))

pub put_in_order-requires-clause-free : goal.put_in_order-requires-clause-free
put_in_order-requires-clause-free c = not_listed c.self.inside c.self.invariant c.args.at
    (rw c.self.view_is c.forget.ensures.none)

pub invariant_of-self-in-Holds : goal.invariant_of-self-in-Holds
invariant_of-self-in-Holds c =
    let long = ap length (c.self.view_is ∙ c.forget.ensures.others) ∙ length-set c.args.self.now c.args.at _ in
    rw c.put_in_order.ensures
    (placed c.self.inside c.self.invariant c.args.at c.in-Holds.number (rw long c.requires.slot)
    (rw c.self.view_is c.forget.ensures.none)
    (rw long (rw c.in-Holds.is at c.requires.number)))

pub returns-in-Blank : goal.returns-in-Blank
returns-in-Blank c = ap (λ xs. set xs c.args.at c.args.to) (c.self.view_is ∙ c.forget.ensures.others)
    ∙ set-set c.args.self.now c.args.at _ c.args.to

pub returns-in-Holds : goal.returns-in-Holds
returns-in-Holds c = rw c.in-Holds.is (ap (λ xs. set xs c.args.at (Holds c.in-Holds.number)) (c.self.view_is
    ∙ c.forget.ensures.others)
    ∙ set-set c.args.self.now c.args.at _ (Holds c.in-Holds.number))
