use Rattle.live_flash.proofs.Common.{◌≡◌, ◌++◌, Bool, true, false, [], length, map, replicate, Result, None, IfSome, refl, sym, ap, subst, ◌∙◌, arith, Shape, IsOpened, Follows, slots_in}
use Rattle.std.specs.Bool.{OnTrue}
use Rattle.std.specs.Result.{is_err}
use Rattle.std.specs.Vec.{vec_capacity}
use Rattle.std.proofs.lemmas.List.{with_items_is, length-replicate}
use Rattle.flash_model.specs.declared.flash.Broken.{Broken}
use Rattle.flash_model.specs.Flash.{FlashState}
use Rattle.flash_model.specs.Calls.{BothTell, Spends, Operates}
use Rattle.flash_model.specs.Operations.{Operation, fire}
use Rattle.flash_model.specs.Firing.{loads_in}
use Rattle.mem_flash.specs.MemFlashState.{MemFlashState, state_of}
use Rattle.file_flash.specs.FileFlashState.{untold, slot_loaded, slots_of_loads}
use Rattle.file_flash.specs.Loads.{slots_loaded, AreLoaded}
use Rattle.file_flash.proofs.Keeping.{none_loaded}
use Rattle.live_flash.proofs.Kept.{loads_noted, loads_same}
use Rattle.file_flash.proofs.Loading.{loaded_exist}
use Rattle.file_flash.proofs.Programming.{loaded_slots, fire_starts, fired_shape, fired_extras, programmed_still, fresh}
use Rattle.live_flash.specs.Loads.{AreApart}
use Rattle.live_flash.proofs.Apart.{loads_apart}
use Rattle.live_flash.proofs.OfTold.{none_in, loses_now, follows_but}
use Rattle.live_flash.specs.Waiting.{HasRoom}
use Rattle.live_flash.proofs.live_flash.LiveFlashWide.fire.Goals as goal

pub cut_fire-requires : goal.cut_fire-requires
cut_fire-requires g c = (rw (← c.self.view_is) at c.requires)

pub fire-done-requires : goal.fire-done-requires
fire-done-requires g c = (rw (← c.self.view_is) at c.requires)

pub invariant_of-self : goal.invariant_of-self
invariant_of-self g c =
    let f = c.self.inside in
    let cut = c.cut_fire.ensures.cut in
    let items = with_items_is f.loaded c.clear_slots.new.slots (omega arith) in
    let many : length c.deref_mut.result.now ≡ f.memory.shape.dies = ap length c.deref_mut.ensures.value
    ∙ c.self.invariant.dies in
    let none = items ∙ c.clear_slots.ensures ∙ ap (λ n. replicate n None) many in
    loads_same g.S.Store.told g.S.Store.faults f _ c.self.invariant refl cut.shape cut.extras
    (none ∙ sym (ap (map slot_loaded) c.cut_fire.ensures.registers ∙ none_loaded f.memory.shape.dies))
    (ap length none ∙ length-replicate f.memory.shape.dies None ∙ ap (λ (x : Shape). x.dies) (sym cut.shape)) refl
    cut.image refl refl refl

pub follow_slots-requires-clause-exist : goal.follow_slots-requires-clause-exist
follow_slots-requires-clause-exist g c =
    let s = c.self.inside.memory in
    let can = (rw (← c.self.view_is) at c.requires) in
    subst (λ xs. AreLoaded c.fire-done.new.self.shape xs) (sym (c.deref.ensures.value ∙ c.self.invariant.loaded))
    (subst (λ x. AreLoaded x (map slot_loaded s.registers))
    (sym (fired_shape s c.fire-done.new.self c.fire-done.ensures.next))
    (loaded_exist s.shape s.image s.registers can.0))

pub follow_slots-requires-clause-apart : goal.follow_slots-requires-clause-apart
follow_slots-requires-clause-apart g c =
    let s = c.self.inside.memory in
    let can = (rw (← c.self.view_is) at c.requires) in
    subst AreApart (sym (c.deref.ensures.value ∙ c.self.invariant.loaded)) (loads_apart s.shape s.registers can.1)

pub follow_slots-requires-clause-programmed : goal.follow_slots-requires-clause-programmed
follow_slots-requires-clause-programmed g c =
    let s = c.self.inside.memory in
    let m = c.fire-done.new.self in
    let can = (rw (← c.self.view_is) at c.requires) in
    programmed_still s.image m.image c.self.inside.follower.waiting.items (slots_of_loads (loads_in s.registers))
    (c.self.invariant.programmed c.if-self.false)
    (fire_starts s m c.fire-done.ensures.next c.shape.ensures.whole can)

pub invariant_of-self-2 : goal.invariant_of-self-2
invariant_of-self-2 g c =
    let f = c.self.inside in
    let s = f.memory in
    let m = c.fire-done.new.self in
    let e = c.fire-done.ensures.next in
    let waiting = f.follower.waiting.items in
    let due = slots_of_loads (loads_in s.registers) in
    let can = (rw (← c.self.view_is) at c.requires) in
    let same = fired_shape s m e in
    let told = g.S.Store.told f.follower.store in
    let slots : slots_loaded c.deref.result.now ≡ due =
    ap slots_loaded (c.deref.ensures.value ∙ c.self.invariant.loaded) ∙ loaded_slots s.registers in
    let start = follows_but told s.shape m.shape s.image m.image waiting due same
    (fire_starts s m e c.shape.ensures.whole can) (c.self.invariant.follows c.if-self.false) in
    let follows = c.follow_slots.ensures.follows
    (subst (λ d. IfSome told (Follows m.shape m.image [] (waiting ++ d))) (sym slots) start) in
    let items = with_items_is f.loaded c.clear_slots-2.new.slots (omega arith) in
    let many : length c.deref_mut-2.result.now ≡ f.memory.shape.dies = ap length c.deref_mut-2.ensures.value
    ∙ c.self.invariant.dies in
    let none = items ∙ c.clear_slots-2.ensures ∙ ap (λ n. replicate n None) many in
    loads_noted g.S.Store.told g.S.Store.faults f _ c.self.invariant refl same (fired_extras s m e)
    (none ∙ sym (ap (map slot_loaded) c.fire-done.ensures.empty ∙ none_loaded f.memory.shape.dies))
    (ap length none ∙ length-replicate f.memory.shape.dies None ∙ ap (λ (x : Shape). x.dies) (sym same))
    (ap (λ v. length v.items) c.follow_slots.ensures.room) c.follow_slots.ensures.store refl c.if-self.false follows
    c.follow_slots.ensures.programmed c.follow_slots.ensures.places

-- the same of a flash that does not tell what is to come
untold_spends : (s m : MemFlashState) (broken : Bool) →
    OnTrue broken (s.live ≡ true → BothTell (Spends m.live) None None)
untold_spends s m true = λ on. tt
untold_spends s m false = tt

untold_operates : (s m : MemFlashState) (o : Operation) (r : Result (Unit {0}) Broken) →
    Operates (state_of s) (state_of m) o r → Operates (untold s) (untold m) o r
untold_operates s m o r h = record {
  carries = record {
    shape = h.carries.shape;
    later = h.carries.later;
    cause = h.carries.cause;
    quiet = h.carries.quiet;
    lives = h.carries.lives;
    dead = λ off. ap (λ (x : FlashState). record x { told = None }) (h.carries.dead off);
    no_more = tt;
    extras = h.carries.extras;
    spends = untold_spends s m (is_err r);
    starts = λ on. let it = h.carries.starts on in (it.0, it.1, it.2, it.3, tt);
  };
  powered = h.powered;
  done = h.done;
  torn = h.torn;
  reads = h.reads;
  started = h.started;
}

pub returns-clause-fires : goal.returns-clause-fires
returns-clause-fires g c =
    let s = c.self.inside.memory in
    rw (← c.self.view_is)
    (untold_operates s c.fire-done.new.self (fire (loads_in s.registers)) c.fire-done.result c.fire-done.ensures.fires)

pub returns-clause-waits : goal.returns-clause-waits
returns-clause-waits g c =
    let waiting = c.self.inside.follower.waiting.items in
    let slots : slots_loaded c.deref.result.now ≡ slots_of_loads (loads_in c.self.inside.memory.registers) =
    ap slots_loaded (c.deref.ensures.value ∙ c.self.invariant.loaded) ∙ loaded_slots c.self.inside.memory.registers in
    rw (← c.self.view_is)
    (λ k e. subst (λ d. slots_in (waiting ++ d) k ≡ true) slots (c.follow_slots.ensures.waits k e))

pub returns-clause-loses : goal.returns-clause-loses
returns-clause-loses g c = λ live.
    let f = c.self.inside in
    let s = f.memory in
    let m = c.fire-done.new.self in
    let e = c.fire-done.ensures.next in
    let waiting = f.follower.waiting.items in
    let due = slots_of_loads (loads_in s.registers) in
    let can = (rw (← c.self.view_is) at c.requires) in
    let same = fired_shape s m e in
    let told = g.S.Store.told f.follower.store in
    let new = g.S.Store.told c.follow_slots.new.follower.store in
    let slots : slots_loaded c.deref.result.now ≡ due =
    ap slots_loaded (c.deref.ensures.value ∙ c.self.invariant.loaded) ∙ loaded_slots s.registers in
    let start = follows_but told s.shape m.shape s.image m.image waiting due same
    (fire_starts s m e c.shape.ensures.whole can) (c.self.invariant.follows c.if-self.false) in
    let follows = c.follow_slots.ensures.follows
    (subst (λ d. IfSome told (Follows m.shape m.image [] (waiting ++ d))) (sym slots) start) in
    let opened = subst (λ t. IfSome (g.S.Store.told t) (IsOpened m.shape)) (sym c.follow_slots.ensures.store)
    (subst (λ (x : Shape). IfSome told (IsOpened x)) (sym same) (c.self.invariant.opened c.if-self.false)) in
    rw (← c.self.view_is)
    (loses_now m.shape m.image [] c.follow_slots.new.follower.waiting.items (waiting ++ due) new c.shape.ensures.whole
    (none_in (waiting ++ due))
    (λ k here. subst (λ d. slots_in (waiting ++ d) k ≡ true) slots (c.follow_slots.ensures.waits k here))
    opened follows)

pub follow_slots-requires-clause-places : goal.follow_slots-requires-clause-places
follow_slots-requires-clause-places g c =
    let f = c.self.inside in
    subst (λ x. HasRoom x (vec_capacity f.follower.waiting) f.follower.waiting.items)
    (sym (fired_shape f.memory c.fire-done.new.self c.fire-done.ensures.next))
    (c.self.invariant.places c.if-self.false)

pub follow_slots-requires-clause-fresh : goal.follow_slots-requires-clause-fresh
follow_slots-requires-clause-fresh g c =
    let s = c.self.inside.memory in
    let can = (rw (← c.self.view_is) at c.requires) in
    let st = fire_starts s c.fire-done.new.self c.fire-done.ensures.next c.shape.ensures.whole can in
    let slots : slots_loaded c.deref.result.now ≡ slots_of_loads (loads_in s.registers) =
    ap slots_loaded (c.deref.ensures.value ∙ c.self.invariant.loaded) ∙ loaded_slots s.registers in
    λ k here. fresh s.image c.self.inside.follower.waiting.items k (c.self.invariant.programmed c.if-self.false)
    (st.empty k (subst (λ d. slots_in d k ≡ true) slots here))
