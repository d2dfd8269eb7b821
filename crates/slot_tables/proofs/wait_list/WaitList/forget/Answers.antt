-- It was in the list of its page.
use Rattle.slot_tables.proofs.Common.{◌≡◌, ◌+◌, ◌-◌, ◌<◌, length, sym, ◌∙◌, ap, arith, number_at}
use Rattle.slot_tables.proofs.OfWaitList.Waiters.{forgot, one_waits}
use Rattle.slot_tables.proofs.wait_list.WaitList.forget.Goals as goal

pub remove-requires : goal.remove-requires
remove-requires c =
    (c.self.invariant.waiting.waiting c.in-Some.page c.args.number).1
    (ap (λ v. number_at v.waits c.args.number) c.self.view_is ∙ sym c.get.ensures ∙ c.in-Some.is)

pub invariant_of-self : goal.invariant_of-self
invariant_of-self c =
    let w = c.self.inside in
    let low : c.args.number < length w.waits = rw (← c.self.view_is) at c.requires in
    let is = ap (λ v. number_at v.waits c.args.number) c.self.view_is ∙ sym c.get.ensures ∙ c.in-Some.is in
    let less : w.count - 1 + 1 ≡ w.count = omega (
      arith,
      one_waits w c.self.invariant c.args.number low c.in-Some.page is,
    ) in
    rw (c.remove.ensures.without, c.set.ensures) (forgot w c.self.invariant c.args.number low c.in-Some.page
    (w.count - 1) is less
    (rw c.remove.ensures.without at c.remove.ensures.lists))
