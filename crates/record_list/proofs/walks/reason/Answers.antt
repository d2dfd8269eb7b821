-- The loop begins where the walk does, and each turn follows one link.
pub mod Walk
use Rattle.record_list.proofs.Common.{◌≡◌, ◌-◌, false, eqb, refl, sym, ap, ◌∙◌, inl, inr, arith, add-one, ne_eqb, and_left, and_right, Link, is_same, walk}
use Rattle.record_list.proofs.walks.reason.Answers.Walk.{walk_goes}
use Rattle.record_list.proofs.walks.reason.Goals as goal

pub loop-turns-init : goal.loop-turns-init
loop-turns-init c = rw (c.link_of-link.ensures, c.newest.ensures, c.from-turns.ensures, add-one c.args.logical) refl

pub loop-turns-preserved : goal.loop-turns-preserved
loop-turns-preserved c =
    let link = c.loop-turns.link in
    let start : Link = record { page = c.args.page; version = c.newest.result } in
    let top = c.newest-top.ensures in
    let other : is_same link start ≡ false = elim c.else-link-start.either [
      | inl newer ↦ and_right (eqb link.page start.page) (eqb link.version start.version)
          (ne_eqb link.version start.version newer.1)
      | inr elsewhere ↦ and_left (eqb link.page start.page) (eqb link.version start.version)
          (ne_eqb link.page start.page elsewhere)
    ] in
    ap (walk c.args.protocol c.args.list.now start (c.loop-turns.turns - 1)) c.link_of-link-in-loop-turns.ensures
    ∙ sym (walk_goes c.args.protocol c.args.list.now start c.loop-turns.turns link (let some = c.loop-turns-test.true in
    omega arith)
    (let low = c.if-link-top.false in omega arith) (let high = c.if-link-top-2.false in omega arith) other)
    ∙ c.loop-turns.invariant
