mod FoundSlots
use Rattle.tx_engine.proofs.Common.{◌<◌, length, vec_capacity, ap, ◌∙◌, sym, arith, slots_of}
use Rattle.judged_records.proofs.OfNotes.FoundIn.{found_in_nil}
use Rattle.tx_engine.proofs.store.Store.noted_records.Answers.FoundSlots.{with_record, without_record}
use Rattle.tx_engine.proofs.store.Store.noted_records.Goals as goal
use Rattle.tx_engine.proofs.store.Store.noted_records.Goals.{in-Some, in_default}

pub loop-at-init : goal.loop-at-init
loop-at-init g c = record {
  items = c.in_ok-list.ensures.items ∙ sym found_in_nil;
  len = omega (arith, c.in_ok-list.ensures.len);
  room = c.in_ok-list.ensures.exact;
}

pub loop-at-preserved : goal.loop-at-preserved
loop-at-preserved g c =
    let m = (rw (← c.self.view_is) at c.requires.stored).matches in
    let slots = ap slots_of m.shape in
    let within : c.loop-at.at < length c.args.self.now.noted.notes =
    rw (← c.self.view_is)
    (let a = c.loop-at-test.true in let b = m.noted.slots in let d = c.slots-slots.ensures in let e = ap slots_of
    c.shape.ensures.shape in omega (arith, slots)) in
    record {
      items = elim c.match-rec.branch [
        | in-Some w ↦
            (ap (λ v. v.items) w.list-is ∙ w.push_reserved.ensures.items
            ∙ with_record c.args.self.now.noted.notes c.loop-at.at within c.loop-at.list.items c.loop-at.invariant.items
            w.in-Some.rec (rw (← c.self.view_is)
            (sym c.rec.ensures ∙ w.in-Some.is)))
        | in_default w ↦
            (ap (λ v. v.items) w.list-is ∙ without_record c.args.self.now.noted.notes c.loop-at.at within
            c.loop-at.list.items c.loop-at.invariant.items (rw
            (← c.self.view_is) (sym c.rec.ensures ∙ w.in_default.is)))
      ];
      len = let h = c.loop-at.invariant.len in elim c.match-rec.branch [
        | in-Some w ↦ rw w.list-is (omega (arith, w.push_reserved.ensures.len))
        | in_default w ↦ rw w.list-is (omega arith)
      ];
      room = elim c.match-rec.branch [
        | in-Some w ↦ ap vec_capacity w.list-is ∙ w.push_reserved.ensures.capacity ∙ c.loop-at.invariant.room
        | in_default w ↦ ap vec_capacity w.list-is ∙ c.loop-at.invariant.room
      ];
    }
