-- The new answerer is counted once more.
use Rattle.slot_tables.proofs.Common.{◌≡◌, ◌+◌, ◌<◌, Some, None, length, sym, ◌∙◌, ap, arith, get_or-set_same, set-set, number_at}
use Rattle.std.proofs.lemmas.List.{length-set}
use Rattle.slot_tables.proofs.OfAnswerers.Answering.{put, count_most}
use Rattle.slot_tables.proofs.responsibilities.Responsibilities.set.Goals as goal

pub overflow_add-count : goal.overflow_add-count
overflow_add-count c =
    let a = c.self.inside in
    let now = c.self.view_is ∙ c.forget.ensures in
    let within : c.in-Some.other < length a.answerers = rw (now, length-set c.args.self.now c.args.number None)
    (rw c.in-Some.is at c.requires.answerer) in
    omega (
      arith,
      c.get-count.ensures 0,
      count_most a.answerers a.counts c.self.invariant c.args.number
          (rw (now, length-set c.args.self.now c.args.number None) c.requires.number)
          c.in-Some.other within,
    )

pub invariant_of-self : goal.invariant_of-self
invariant_of-self c =
    let a = c.self.inside in
    let now = c.self.view_is ∙ c.forget.ensures in
    let within : c.in-Some.other < length a.answerers = rw (now, length-set c.args.self.now c.args.number None)
    (rw c.in-Some.is at c.requires.answerer) in
    let none : number_at a.answerers c.args.number ≡ None = rw now
    (get_or-set_same c.args.self.now c.args.number None None c.requires.number) in
    let low : c.args.number < length a.answerers = rw (now, length-set c.args.self.now c.args.number None)
    c.requires.number in
    rw (c.set.ensures, c.set-in-Some.ensures)
    (put a.answerers a.counts c.self.invariant c.args.number low c.in-Some.other _ none within
    (ap (λ k. k + 1) (sym (c.get-count.ensures 0))))

pub returns-in-Some : goal.returns-in-Some
returns-in-Some c =
    rw (c.set-in-Some.ensures, c.self.view_is ∙ c.forget.ensures, c.in-Some.is)
    (set-set c.args.self.now c.args.number None (Some c.in-Some.other))
