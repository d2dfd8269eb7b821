-- The answerer was counted.
use Rattle.slot_tables.proofs.Common.{◌≡◌, ◌<◌, None, length, get_or, set, sym, ap, ◌∙◌, arith}
use Rattle.std.proofs.lemmas.List.{set-get_or}
use Rattle.slot_tables.proofs.OfAnswerers.Answering.{taken, some_counted}
use Rattle.slot_tables.proofs.responsibilities.Responsibilities.forget.Goals as goal

pub get-count-requires : goal.get-count-requires
get-count-requires c =
    omega (
      arith,
      c.self.invariant.within c.args.number c.in-Some.other (c.get.ensures None ∙ c.in-Some.is),
      c.self.invariant.sizes,
    )

pub set-requires : goal.set-requires
set-requires c =
    omega (
      arith,
      c.self.invariant.within c.args.number c.in-Some.other (c.get.ensures None ∙ c.in-Some.is),
      c.self.invariant.sizes,
    )

pub returns-in_default : goal.returns-in_default
returns-in_default c =
    let xs = c.args.self.now in
    let none : get_or xs c.args.number None ≡ None = rw (← c.self.view_is) (c.get.ensures None ∙ c.in_default.is) in
    sym (sym (ap (set xs c.args.number) none) ∙ set-get_or xs c.args.number None)

pub overflow_sub-count : goal.overflow_sub-count
overflow_sub-count c =
    let a = c.self.inside in
    let low : c.args.number < length a.answerers = rw (← c.self.view_is) at c.requires in
    let some = some_counted a.answerers a.counts c.self.invariant c.args.number low c.in-Some.other (c.get.ensures None
    ∙ c.in-Some.is) in
    omega (arith, c.get-count.ensures 0, some)

pub invariant_of-self : goal.invariant_of-self
invariant_of-self c =
    let a = c.self.inside in
    let low : c.args.number < length a.answerers = rw (← c.self.view_is) at c.requires in
    let is = c.get.ensures None ∙ c.in-Some.is in
    let some = some_counted a.answerers a.counts c.self.invariant c.args.number low c.in-Some.other is in
    rw (c.set.ensures, c.set-in-Some.ensures)
    (taken a.answerers a.counts c.self.invariant c.args.number low c.in-Some.other _ is
    (omega (arith, c.get-count.ensures 0, some)))
