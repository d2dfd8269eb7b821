-- It was in no list.
use Rattle.slot_tables.proofs.Common.{◌≡◌, None, length, set, refl, ◌∙◌, ap, get_or-set_same, set-set}
use Rattle.std.proofs.lemmas.List.{length-set}
use Rattle.slot_tables.proofs.OfWaitList.Waiters.{unlisted, placed}
use Rattle.slot_tables.proofs.wait_list.WaitList.set.Goals as goal

pub push-requires-clause-free : goal.push-requires-clause-free
push-requires-clause-free c =
    let w = c.self.inside in
    let now : w.waits ≡ set c.args.self.now.waits c.args.number None =
    ap (λ v. v.waits) (c.self.view_is ∙ c.forget.ensures) in
    unlisted w c.self.invariant c.args.number (rw (now, length-set c.args.self.now.waits c.args.number None)
    c.requires.number)
    (rw now (get_or-set_same c.args.self.now.waits c.args.number None None c.requires.number))

pub invariant_of-self : goal.invariant_of-self
invariant_of-self c =
    let w = c.self.inside in
    let now : w.waits ≡ set c.args.self.now.waits c.args.number None =
    ap (λ v. v.waits) (c.self.view_is ∙ c.forget.ensures) in
    let pages = ap (λ v. v.pages) (c.self.view_is ∙ c.forget.ensures) in
    rw (c.push.ensures.first, c.set.ensures)
    (placed w c.self.invariant c.args.number (rw (now, length-set c.args.self.now.waits c.args.number None)
    c.requires.number) c.in-Some.page
    (rw now (get_or-set_same c.args.self.now.waits c.args.number None None c.requires.number))
    (rw pages (rw c.in-Some.is at c.requires.page))
    (rw c.push.ensures.first at c.push.ensures.lists))

pub returns-in-Some : goal.returns-in-Some
returns-in-Some c =
    let now : c.self.inside.waits ≡ set c.args.self.now.waits c.args.number None =
    ap (λ v. v.waits) (c.self.view_is ∙ c.forget.ensures) in
    let pages = ap (λ v. v.pages) (c.self.view_is ∙ c.forget.ensures) in
    let long = ap (λ w. length w.lists) c.push.ensures.first
    ∙ length-set c.self.inside.waiting.lists c.in-Some.page _ ∙ pages in
    rw (long, c.set.ensures, now, c.in-Some.is, set-set) refl
