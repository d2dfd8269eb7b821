use Rattle.live_flash.proofs.Common.{◌≡◌, ◌<◌, ◌+◌, IfSome, refl, sym, subst, ◌∙◌, inl, arith, rules, slot_at, AreWrittenAnew}
use Rattle.std.proofs.Common.{add-one}
use Rattle.live_flash.proofs.OfTold.{opened_turned, kept_turned, torn_next_told, torn_loses_told, tears_told}
use Rattle.live_flash.proofs.follower.Follower.write_each_anew.Goals as goal

pub returns-in_err-clear_slot-clause-kept : goal.returns-in_err-clear_slot-clause-kept
returns-in_err-clear_slot-clause-kept g c = λ head f.
    let m = c.args.memory.now in
    let n = c.loop-number.number in
    kept_turned m.shape n (slot_at m.image n) (slot_at m.image n) c.clear_slot.result
    (g.S.Store.told c.loop-number.self.store) (g.S.Store.told c.clear_slot.new.self.store)
    (c.clear_slot.ensures.turns (slot_at m.image n) (inl refl)) head (c.loop-number.invariant.kept head f)

pub returns-in_err-clear_slot-clause-loses : goal.returns-in_err-clear_slot-clause-loses
returns-in_err-clear_slot-clause-loses g c = λ old is cleared f.
    let m = c.args.memory.now in
    let n = c.loop-number.number in
    let from = c.loop-number.invariant.from in
    let below : n < c.args.first + c.args.count = search rules in
    torn_loses_told m.shape old m.image c.args.first n from c.clear_slot.result
    (g.S.Store.told c.loop-number.self.store) (g.S.Store.told c.clear_slot.new.self.store)
    (c.clear_slot.ensures.turns (slot_at old n) (cleared.inside n from below))
    (c.loop-number.invariant.tears old cleared f) is c.loop-number.invariant.opened

pub loop-number-preserved : goal.loop-number-preserved
loop-number-preserved g c =
    let m = c.args.memory.now in
    let n = c.loop-number.number in
    let from = c.loop-number.invariant.from in
    let before = g.S.Store.told c.loop-number.self.store in
    let after = g.S.Store.told c.clear_slot.new.self.store in
    let below : n < c.args.first + c.args.count = search rules in
    record {
      same = c.clear_slot.ensures.waits ∙ c.loop-number.invariant.same;
      room = c.clear_slot.ensures.room ∙ c.loop-number.invariant.room;
      from = omega (arith, from);
      counts = rw c.in_ok-clear_slot.was at c.clear_slot.ensures.counts ∙ c.loop-number.invariant.counts;
      opened = opened_turned m.shape n (slot_at m.image n) (slot_at m.image n) c.clear_slot.result before after
          (c.clear_slot.ensures.turns (slot_at m.image n) (inl refl)) c.loop-number.invariant.opened;
      kept = λ head f. kept_turned m.shape n (slot_at m.image n) (slot_at m.image n) c.clear_slot.result before after
          (c.clear_slot.ensures.turns (slot_at m.image n) (inl refl)) head (c.loop-number.invariant.kept head f);
      tears = λ old cleared f. subst (λ i. IfSome after (AreWrittenAnew m.shape old m.image c.args.first i)) (sym (add-one n))
          (torn_next_told m.shape old m.image c.args.first n from c.clear_slot.result before after
          (c.clear_slot.ensures.turns (slot_at old n) (cleared.inside n from below))
          (c.loop-number.invariant.tears old cleared f) c.in_ok-clear_slot.was);
    }

pub returns-clause-tears : goal.returns-clause-tears
returns-clause-tears g c = λ old cleared f.
    let m = c.args.memory.now in
    let end : c.loop-number.number ≡ c.args.first + c.args.count = search rules in
    subst (λ i. IfSome (g.S.Store.told c.loop-number.self.store) (AreWrittenAnew m.shape old m.image c.args.first i)) end
    (c.loop-number.invariant.tears old cleared f)

pub returns-clause-loses : goal.returns-clause-loses
returns-clause-loses g c = λ old is cleared f.
    let m = c.args.memory.now in
    tears_told m.shape old m.image c.args.first c.loop-number.number (g.S.Store.told c.loop-number.self.store) is
    c.loop-number.invariant.opened (c.loop-number.invariant.tears old cleared f)

pub returns-in_err-clear_slot-clause-opened : goal.returns-in_err-clear_slot-clause-opened
returns-in_err-clear_slot-clause-opened g c =
    let m = c.args.memory.now in
    let n = c.loop-number.number in
    opened_turned m.shape n (slot_at m.image n) (slot_at m.image n) c.clear_slot.result
    (g.S.Store.told c.loop-number.self.store) (g.S.Store.told c.clear_slot.new.self.store)
    (c.clear_slot.ensures.turns (slot_at m.image n) (inl refl)) c.loop-number.invariant.opened
