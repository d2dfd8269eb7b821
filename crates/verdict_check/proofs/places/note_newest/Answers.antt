use Rattle.verdict_check.proofs.Common.{arith, None, ◌≡◌, refl, length, subst, AreNewestOf}
use Rattle.verdict_check.proofs.PlaceLemmas.{none_noted, nothing_at, are_places}
use Rattle.verdict_check.proofs.places.note_newest.Goals as goal

pub loop-at-init : goal.loop-at-init
loop-at-init c =
    (none_noted c.args.list.now c.args.places.now (nothing_at c.args.places.now None c.requires.empty), refl)

pub returns : goal.returns
returns c =
    let end : c.loop-at.at ≡ length c.args.list.now = omega arith in
    are_places c.args.list.now c.loop-at.places (subst (λ n. AreNewestOf c.args.list.now n c.loop-at.places) end
    c.loop-at.invariant.0)
