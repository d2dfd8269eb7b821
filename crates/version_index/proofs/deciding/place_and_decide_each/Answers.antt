-- One record after the other.
use Rattle.version_index.proofs.Common.{◌≡◌, ◌+◌, ◌<◌, length, set, get_or, ap, sym, subst, ◌∙◌, arith, slots_of, nothing, TablesState, AreDecided}
use Rattle.slot_tables.specs.declared.slots.SlotUse.TheVariants as slot
use Rattle.version_index.proofs.OfOpening.ScanDecided.{start_decided, numbered_in, place_below}
use Rattle.version_index.proofs.deciding.place_and_decide_each.Invariants.PutSoFar.{ArePutSoFar, none_so_far, put_next, put_whole, slots_decided}
use Rattle.version_index.proofs.deciding.place_and_decide_each.Goals as goal

pub loop-at-init : goal.loop-at-init
loop-at-init c =
    let s = c.args.standing.now in
    record {
      put = none_so_far s.list c.args.numbers.now c.args.tables.now.slots;
      decided = start_decided s.protocol s.list c.args.numbers.now c.args.logical c.args.tables.now
          c.requires.undecided;
    }

pub set_slot-requires-clause-slot : goal.set_slot-requires-clause-slot
set_slot-requires-clause-slot c =
    let list = c.args.standing.now.list in
    let at = c.loop-at.at in
    let same = c.records-records.ensures.records ∙ c.sorted_records.ensures in
    let shape = ap (λ (t : TablesState). t.shape) c.loop-at.invariant.decided.rest in
    let long = ap length same in
    let below = c.loop-at-test.true in
    subst (λ l. (get_or l at nothing).slot.0 < slots_of c.loop-at.tables.shape) (sym same)
    (subst (λ s. (get_or list at nothing).slot.0 < slots_of s) (sym shape)
    (c.requires.within at nothing (omega arith)))

pub set_slot-requires-clause-number : goal.set_slot-requires-clause-number
set_slot-requires-clause-number c =
    let list = c.args.standing.now.list in
    let numbers = c.args.numbers.now in
    let at = c.loop-at.at in
    let long = ap length (c.records-records.ensures.records ∙ c.sorted_records.ensures) in
    let shape = ap (λ (t : TablesState). t.shape) c.loop-at.invariant.decided.rest in
    let below = c.loop-at-test.true in
    subst (λ s. get_or numbers at 0 < slots_of s) (sym shape)
    (place_below list numbers c.args.tables.now c.requires.numbered c.requires.whole c.shape.ensures.kept at
    (omega arith))

pub decide_record-requires-clause-numbered : goal.decide_record-requires-clause-numbered
decide_record-requires-clause-numbered c =
    numbered_in c.args.standing.now.list c.args.numbers.now c.args.tables.now c.set_slot.new.self
    c.requires.numbered
    (ap (λ (t : TablesState). t.records) c.set_slot.ensures
    ∙ ap (λ (t : TablesState). t.records) c.loop-at.invariant.decided.rest)

pub decide_record-requires-clause-pages : goal.decide_record-requires-clause-pages
decide_record-requires-clause-pages c =
    ap (λ (t : TablesState). length t.pages) c.set_slot.ensures
    ∙ ap (λ (t : TablesState). length t.pages) c.loop-at.invariant.decided.rest ∙ c.requires.pages

pub decide_record-requires-clause-within : goal.decide_record-requires-clause-within
decide_record-requires-clause-within c =
    let long = ap length (c.records-records.ensures.records ∙ c.sorted_records.ensures) in
    let below = c.loop-at-test.true in
    omega arith

pub loop-at-preserved : goal.loop-at-preserved
loop-at-preserved c =
    let s = c.args.standing.now in
    let list = s.list in
    let numbers = c.args.numbers.now in
    let logical = c.args.logical in
    let k = c.args.tables.now in
    let t = c.loop-at.tables in
    let v : TablesState = c.decide_record.new.tables in
    let at = c.loop-at.at in
    let same = c.records-records.ensures.records ∙ c.sorted_records.ensures in
    let long = ap length same in
    let below = c.loop-at-test.true in
    let there = (get_or list at nothing).slot.0 in
    let uses = set t.slots there (slot.Holds (get_or numbers at 0)) in
    let is : c.set_slot.new.self ≡ record t { slots = uses } =
    c.set_slot.ensures
    ∙ ap (λ l. record t { slots = set t.slots (get_or l at nothing).slot.0 (slot.Holds (get_or numbers at 0)) }) same in
    let exists = c.requires.within at nothing (omega arith) in
    let size = c.loop-at.invariant.put.size in
    let slots = c.shape.ensures.kept.slots in
    let put = put_next list numbers k.slots at t.slots c.loop-at.invariant.put (omega arith) in
    let decided = c.decide_record.ensures (record k { slots = uses })
    (subst (λ u. AreDecided s.protocol list numbers logical (record k { slots = uses }) u at) (sym is)
    (slots_decided s.protocol list numbers logical (record k { slots = t.slots }) t at uses
    c.loop-at.invariant.decided)) in
    let stays : v.slots ≡ uses = ap (λ (u : TablesState). u.slots) decided.rest in
    record {
      put = subst (ArePutSoFar list numbers k.slots (at + 1)) (sym stays) put;
      decided = subst (λ u. AreDecided s.protocol list numbers logical (record k { slots = u }) v (at + 1)) (sym stays)
          decided;
    }

pub returns-clause-put : goal.returns-clause-put
returns-clause-put c =
    let s = c.args.standing.now in
    let long = ap length (c.records-records.ensures.records ∙ c.sorted_records.ensures) in
    let all = c.loop-at-test.false in
    let end = c.loop-at.auto.at-end in
    put_whole s.list c.args.numbers.now c.args.tables.now.slots c.loop-at.at c.loop-at.tables.slots (omega arith)
    c.loop-at.invariant.put

pub returns-clause-decided : goal.returns-clause-decided
returns-clause-decided c =
    let s = c.args.standing.now in
    let t = c.loop-at.tables in
    let long = ap length (c.records-records.ensures.records ∙ c.sorted_records.ensures) in
    let all = c.loop-at-test.false in
    let end = c.loop-at.auto.at-end in
    let whole : c.loop-at.at ≡ length s.list = omega arith in
    subst (AreDecided s.protocol s.list c.args.numbers.now c.args.logical
    (record c.args.tables.now { slots = t.slots }) t) whole c.loop-at.invariant.decided
