use Rattle.live_flash.proofs.Common.{◌≡◌, ◌++◌, true, [], ◌∷◌, List, Result, sym, ap, subst, ◌∙◌, arith, Slot}
use Rattle.std.specs.Prelude.{if◌then◌else◌}
use Rattle.std.specs.Result.{is_ok}
use Rattle.std.specs.Vec.{vec_capacity}
use Rattle.live_flash.specs.Waiting.{HasRoom}
use Rattle.live_flash.proofs.Waiting.{has_place, one_more}
use Rattle.live_flash.proofs.follower.Follower.note.Goals as goal

noted : {E : Type 0} (r : Result (Unit {0}) E) (old new : List Slot) (at : Slot) → is_ok r ≡ true →
    new ≡ (if is_ok r then old ++ at ∷ [] else old) → new ≡ old ++ at ∷ []
noted r old new at ok e = e ∙ ap (λ b. if b then old ++ at ∷ [] else old) ok

pub returns-clause-waits : goal.returns-clause-waits
returns-clause-waits g c =
    let m = c.args.memory.now in
    let old = c.args.self.now.waiting in
    let place = has_place m.shape (vec_capacity old) old.items c.args.at c.requires.places c.requires.fresh
    m.image c.shape.ensures.whole c.requires.programmed c.requires.exists in
    noted c.push.result old.items c.push.new.self.items c.args.at
    (c.push.ensures.succeeds (omega (arith, place, old.ok.0))) c.push.ensures.items

pub returns-clause-places : goal.returns-clause-places
returns-clause-places g c =
    let m = c.args.memory.now in
    let old = c.args.self.now.waiting in
    let new = c.push.new.self in
    let place = has_place m.shape (vec_capacity old) old.items c.args.at c.requires.places c.requires.fresh
    m.image c.shape.ensures.whole c.requires.programmed c.requires.exists in
    let items : new.items ≡ old.items ++ c.args.at ∷ [] = noted c.push.result old.items new.items c.args.at
    (c.push.ensures.succeeds (omega (arith, place, old.ok.0))) c.push.ensures.items in
    subst (HasRoom m.shape (vec_capacity new)) (sym items)
    (one_more m.shape (vec_capacity old) old.items c.args.at c.requires.places c.requires.fresh (vec_capacity new)
    c.push.ensures.capacity)
