-- The last records come first.
use Rattle.version_index.proofs.Common.{◌≡◌, ◌+◌, ◌-◌, ◌<◌, List, length, set, get_or, refl, ap, sym, subst, ◌∙◌, arith, slots_of, nothing, SlotUse, TablesState}
use Rattle.slot_tables.specs.declared.slots.SlotUse.TheVariants as slot
use Rattle.version_index.specs.Filling.{ArePut}
use Rattle.version_index.proofs.OfOpening.ScanDecided.{place_below}
use Rattle.version_index.proofs.OfOpening.ScanSlots.{none_put, put_more}
use Rattle.version_index.proofs.placing.place_records.Goals as goal

pub loop-i-init : goal.loop-i-init
loop-i-init c = record {
  rest = refl;
  put = none_put c.args.records.now c.args.numbers.now c.args.tables.now.slots;
}

pub set_slot-requires-clause-slot : goal.set_slot-requires-clause-slot
set_slot-requires-clause-slot c =
    let records = c.args.records.now in
    let at = length records - 1 - c.loop-i.i in
    let shape = ap (λ (t : TablesState). t.shape) c.loop-i.invariant.rest in
    let below = c.loop-i-test.true in
    subst (λ s. (get_or records at nothing).slot.0 < slots_of s) (sym shape)
    (c.requires.within at nothing (omega arith))

pub set_slot-requires-clause-number : goal.set_slot-requires-clause-number
set_slot-requires-clause-number c =
    let records = c.args.records.now in
    let numbers = c.args.numbers.now in
    let at = length records - 1 - c.loop-i.i in
    let shape = ap (λ (t : TablesState). t.shape) c.loop-i.invariant.rest in
    let below = c.loop-i-test.true in
    subst (λ s. get_or numbers at 0 < slots_of s) (sym shape)
    (place_below records numbers c.args.tables.now c.requires.numbered c.requires.whole c.shape.ensures.kept at
    (omega arith))

pub loop-i-preserved : goal.loop-i-preserved
loop-i-preserved c =
    let records = c.args.records.now in
    let numbers = c.args.numbers.now in
    let k = c.args.tables.now in
    let t = c.loop-i.tables in
    let i = c.loop-i.i in
    let at = length records - 1 - i in
    let there = (get_or records at nothing).slot.0 in
    let u = slot.Holds (get_or numbers at 0) in
    let below = c.loop-i-test.true in
    let size = c.loop-i.invariant.put.size in
    let slots = c.shape.ensures.kept.slots in
    let exists = c.requires.within at nothing (omega arith) in
    let low : there < length t.slots = omega arith in
    let place : at + i + 1 ≡ length records = omega arith in
    let is = c.set_slot.ensures in
    record {
      rest = is ∙ ap (λ (v : TablesState). record v { slots = set t.slots there u }) c.loop-i.invariant.rest
          ∙ ap (λ (s : List SlotUse). record k { slots = s }) (sym (ap (λ (v : TablesState). v.slots) is));
      put = subst (ArePut records numbers k.slots (i + 1)) (sym (ap (λ (v : TablesState). v.slots) is))
          (put_more records numbers k.slots i at t.slots c.loop-i.invariant.put place low);
    }

pub returns-clause-put : goal.returns-clause-put
returns-clause-put c =
    let end = c.loop-i-test.false in
    let most = c.loop-i.auto.i-end in
    let all : c.loop-i.i ≡ length c.args.records.now = omega arith in
    subst (λ n. ArePut c.args.records.now c.args.numbers.now c.args.tables.now.slots n c.loop-i.tables.slots) all
    c.loop-i.invariant.put
