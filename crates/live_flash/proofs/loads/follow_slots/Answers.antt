use Rattle.live_flash.proofs.Common.{◌≡◌, ◌++◌, ◌<◌, ◌+◌, ◌∷◌, [], drop, length, get_or, ℕ, true, false, IfSome, arith, refl, ap, subst, ◌∙◌, None, slots_in, Follows}
use Rattle.std.proofs.Common.{append-nil}
use Rattle.std.proofs.lemmas.List.{drop_more, drop_all}
use Rattle.file_flash.specs.Loads.{slots_loaded}
use Rattle.file_flash.proofs.Loading.{within_more}
use Rattle.live_flash.specs.Loads.{AreApart}
use Rattle.live_flash.proofs.Apart.{apart_rest}
use Rattle.live_flash.proofs.Following.{in_left}
use Rattle.live_flash.proofs.Waiting.{front_fresh, rest_fresh}
use Rattle.live_flash.proofs.loads.follow_slots.Goals as goal

pub loop-slot-init : goal.loop-slot-init
loop-slot-init g c =
    let waiting = c.args.follower.now.waiting.items in
    let slots = c.args.slots.now in
    record {
      store = refl;
      room = refl;
      places = c.requires.places;
      fresh = c.requires.fresh;
      programmed = c.requires.programmed;
      within = λ k e. in_left waiting (slots_loaded slots) k e;
      follows = λ f. f;
    }

pub loop-slot-preserved : goal.loop-slot-preserved
loop-slot-preserved g c =
    let m = c.args.memory.now in
    let slots = c.args.slots.now in
    let n = c.loop-slot.slot-index in
    let waiting = c.args.follower.now.waiting.items in
    let now = c.loop-slot.follower.waiting.items in
    let low : n < length slots = omega arith in
    let one = get_or slots n None in
    let rest : drop n slots ≡ one ∷ drop (n + 1) slots = drop_more slots n None low in
    record {
      store = c.follow_slot.ensures.store ∙ c.loop-slot.invariant.store;
      room = c.follow_slot.ensures.room ∙ c.loop-slot.invariant.room;
      places = c.follow_slot.ensures.places;
      fresh = rest_fresh now c.follow_slot.new.follower.waiting.items one
          (drop (n + 1) slots) (subst AreApart rest (apart_rest slots n c.requires.apart))
          (subst (λ xs. (k : ℕ) → slots_in (slots_loaded xs) k ≡ true → slots_in now k ≡ false) rest
          c.loop-slot.invariant.fresh)
          c.follow_slot.ensures.waits;
      programmed = c.follow_slot.ensures.programmed;
      within = within_more now c.follow_slot.new.follower.waiting.items waiting
          slots n None low c.loop-slot.invariant.within c.follow_slot.ensures.waits;
      follows = λ f. c.follow_slot.ensures.follows (drop (n + 1) slots)
          (subst (λ xs. IfSome (g.S.Store.told c.loop-slot.follower.store)
          (Follows m.shape m.image [] (now ++ slots_loaded xs))) rest (c.loop-slot.invariant.follows f));
    }

pub follow_slot-requires-clause-fresh : goal.follow_slot-requires-clause-fresh
follow_slot-requires-clause-fresh g c =
    let slots = c.args.slots.now in
    let n = c.loop-slot.slot-index in
    let low : n < length slots = omega arith in
    let one = get_or slots n None in
    let rest : drop n slots ≡ one ∷ drop (n + 1) slots = drop_more slots n None low in
    front_fresh c.loop-slot.follower.waiting.items one (drop (n + 1) slots)
    (subst (λ xs. (k : ℕ) → slots_in (slots_loaded xs) k ≡ true →
    slots_in c.loop-slot.follower.waiting.items k ≡ false) rest c.loop-slot.invariant.fresh)

pub returns-clause-follows : goal.returns-clause-follows
returns-clause-follows g c = λ f.
    let m = c.args.memory.now in
    let slots = c.args.slots.now in
    let n = c.loop-slot.slot-index in
    let now = c.loop-slot.follower.waiting.items in
    let end : drop n slots ≡ [] = drop_all n slots (omega arith) in
    let all : now ++ slots_loaded (drop n slots) ≡ now =
    ap (λ xs. now ++ slots_loaded xs) end ∙ append-nil now in
    subst (λ w. IfSome (g.S.Store.told c.loop-slot.follower.store) (Follows m.shape m.image [] w)) all
    (c.loop-slot.invariant.follows f)
