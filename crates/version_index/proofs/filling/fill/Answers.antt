-- The slots are used by the numbers of their records, and what is decided of these leaves them.
mod ScanFilled
use Rattle.version_index.proofs.Common.{◌≡◌, ℕ, ◌<◌, false, All, [], length, map, ap, sym, subst, ◌∙◌, arith, length-replicate, slots_of, TablesState, use_at, NamesAgree, AreNumbered, AreBlankBut, AreDecided, found_in, notes_in}
use Rattle.std.specs.List.{range_with_len}
use Rattle.record_list.specs.Records.{mention, record_at}
use Rattle.judged_records.specs.Notes.{seen_as}
use Rattle.version_index.specs.Filling.{ArePut}
use Rattle.version_index.proofs.filling.fill.Answers.ScanFilled.{blank_at, undecided_from, filled_from}
use Rattle.version_index.proofs.OfOpening.ScanDecided.{numbered_in}
use Rattle.version_index.proofs.OfOpening.ScanSlots.{all_held, all_placed, put_used, put_within, uses_held}
use Rattle.version_index.proofs.filling.fill.Goals as goal

pub number_records-requires-clause-agree : goal.number_records-requires-clause-agree
number_records-requires-clause-agree c = subst NamesAgree
    (sym (c.records-records.ensures.records ∙ c.sorted_records.ensures)) c.requires.fills.1.agree

pub place_damaged-requires-clause-size : goal.place_damaged-requires-clause-size
place_damaged-requires-clause-size c =
    c.requires.fills.1.reads
    ∙ sym (ap (λ (k : TablesState). slots_of k.shape) c.in_ok-numbered.ensures.blank.rest)

pub place_damaged-requires-clause-blank : goal.place_damaged-requires-clause-blank
place_damaged-requires-clause-blank c at =
    ap (λ (k : TablesState). use_at k.slots at) c.in_ok-numbered.ensures.blank.rest ∙ blank_at _ at

pub place_and_decide-requires-clause-within : goal.place_and_decide-requires-clause-within
place_and_decide-requires-clause-within c =
    let list = c.args.standing.now.list in
    let its = c.place_damaged.new.tables.shape in
    let size : length c.args.seen.now ≡ slots_of its = c.requires.fills.1.reads
    ∙ sym (ap (λ (k : TablesState). slots_of k.shape) c.place_damaged.ensures
    ∙ ap (λ (k : TablesState). slots_of k.shape) c.in_ok-numbered.ensures.blank.rest) in
    subst (λ n. All (λ f. f.slot.0 < n) list) size
    (put_within list c.args.seen.now c.requires.fills.0 c.requires.fills.1.complete c.requires.fills.1.known)

pub place_and_decide-requires-clause-numbered : goal.place_and_decide-requires-clause-numbered
place_and_decide-requires-clause-numbered c =
    let list = c.args.standing.now.list in
    let numbers = c.in_ok-numbered.numbered.numbers.items in
    let t0 = c.number_records.new.tables in
    let td = c.place_damaged.new.tables in
    let in_chart = c.records-records.ensures.records ∙ c.sorted_records.ensures in
    let numbered = subst (λ l. AreNumbered l numbers t0) in_chart c.in_ok-numbered.ensures.numbered in
    subst (λ ns. AreNumbered list ns td) (sym c.deref.ensures.value)
    (numbered_in list numbers t0 td numbered (ap (λ (t : TablesState). t.records) c.place_damaged.ensures))

pub place_and_decide-requires-clause-whole : goal.place_and_decide-requires-clause-whole
place_and_decide-requires-clause-whole c =
    ap length c.deref.ensures.value ∙ c.in_ok-numbered.ensures.whole
    ∙ ap length (c.records-records.ensures.records ∙ c.sorted_records.ensures)

pub place_and_decide-requires-clause-pages : goal.place_and_decide-requires-clause-pages
place_and_decide-requires-clause-pages c =
    ap (λ (t : TablesState). length t.pages) c.place_damaged.ensures ∙ c.in_ok-numbered.ensures.blank.pages
    ∙ ap (λ (t : TablesState). length t.pages) c.requires.fills.1.blank ∙ length-replicate c.args.logical []

pub place_and_decide-requires-clause-undecided : goal.place_and_decide-requires-clause-undecided
place_and_decide-requires-clause-undecided c =
    let td = c.place_damaged.new.tables in
    undecided_from _ _ c.number_records.new.tables td c.in_ok-numbered.ensures.blank
    (c.place_damaged.ensures
    ∙ ap (λ s. record c.number_records.new.tables { slots = s })
    (sym (ap (λ (t : TablesState). t.slots) c.place_damaged.ensures)))

pub returns-clause-reads : goal.returns-clause-reads
returns-clause-reads c =
    let list = c.args.standing.now.list in
    let numbers = c.in_ok-numbered.numbered.numbers.items in
    let scanned = c.requires.fills.0 in
    let seen = c.args.seen.now in
    let t0 = c.number_records.new.tables in
    let td = c.place_damaged.new.tables in
    let t2 = c.place_and_decide.new.tables in
    let t1 : TablesState = record td { slots = t2.slots } in
    let in_chart = c.records-records.ensures.records ∙ c.sorted_records.ensures in
    let numbered = subst (λ l. AreNumbered l numbers t0) in_chart c.in_ok-numbered.ensures.numbered in
    let whole = c.in_ok-numbered.ensures.whole ∙ ap length in_chart in
    let put = subst (λ ns. ArePut list ns td.slots (length list) t2.slots) c.deref.ensures.value
    c.place_and_decide.ensures.put in
    let first = ap (λ (t : TablesState). t.slots) c.place_damaged.ensures in
    let is : t1 ≡ record t0 { slots = t2.slots } =
    ap (λ (v : TablesState). record v { slots = t2.slots }) c.place_damaged.ensures in
    let used = put_used list numbers seen scanned td.slots t2.slots c.requires.fills.1.complete
    c.requires.fills.1.listed c.requires.fills.1.known first put in
    let held = uses_held list numbers t0 t1 seen scanned t2.slots numbered whole c.requires.fills.1.agree
    c.requires.fills.1.listed used is in
    let notes = ap notes_in c.place_and_decide.ensures.decided.rest
    ∙ all_held list numbers t0 used.notes t1 (length used.notes) held (omega arith) in
    ap (map seen_as) notes ∙ used.reads

pub returns-clause-found : goal.returns-clause-found
returns-clause-found c own can =
    let list = c.args.standing.now.list in
    let numbers = c.in_ok-numbered.numbered.numbers.items in
    let seen = c.args.seen.now in
    let t0 = c.number_records.new.tables in
    let td = c.place_damaged.new.tables in
    let t2 = c.place_and_decide.new.tables in
    let t1 : TablesState = record td { slots = t2.slots } in
    let in_chart = c.records-records.ensures.records ∙ c.sorted_records.ensures in
    let numbered = subst (λ l. AreNumbered l numbers t0) in_chart c.in_ok-numbered.ensures.numbered in
    let whole = c.in_ok-numbered.ensures.whole ∙ ap length in_chart in
    let put = subst (λ ns. ArePut list ns td.slots (length list) t2.slots) c.deref.ensures.value
    c.place_and_decide.ensures.put in
    let first = ap (λ (t : TablesState). t.slots) c.place_damaged.ensures in
    let is : t1 ≡ record t0 { slots = t2.slots } =
    ap (λ (v : TablesState). record v { slots = t2.slots }) c.place_damaged.ensures in
    let used = put_used list numbers seen own td.slots t2.slots can.complete can.listed can.known first put in
    let held = uses_held list numbers t0 t1 seen own t2.slots numbered whole can.agree can.listed used is in
    let notes = ap notes_in c.place_and_decide.ensures.decided.rest
    ∙ all_held list numbers t0 used.notes t1 (length used.notes) held (omega arith) in
    ap found_in notes ∙ used.found

pub returns-clause-filled : goal.returns-clause-filled
returns-clause-filled c =
    let list = c.args.standing.now.list in
    let numbers = c.in_ok-numbered.numbered.numbers.items in
    let scanned = c.requires.fills.0 in
    let seen = c.args.seen.now in
    let t0 = c.number_records.new.tables in
    let td = c.place_damaged.new.tables in
    let t2 = c.place_and_decide.new.tables in
    let t1 : TablesState = record td { slots = t2.slots } in
    let in_chart = c.records-records.ensures.records ∙ c.sorted_records.ensures in
    let numbered = subst (λ l. AreNumbered l numbers t0) in_chart c.in_ok-numbered.ensures.numbered in
    let whole = c.in_ok-numbered.ensures.whole ∙ ap length in_chart in
    let put = subst (λ ns. ArePut list ns td.slots (length list) t2.slots) c.deref.ensures.value
    c.place_and_decide.ensures.put in
    let first = ap (λ (t : TablesState). t.slots) c.place_damaged.ensures in
    let is : t1 ≡ record t0 { slots = t2.slots } =
    ap (λ (v : TablesState). record v { slots = t2.slots }) c.place_damaged.ensures in
    let used = put_used list numbers seen scanned td.slots t2.slots c.requires.fills.1.complete
    c.requires.fills.1.listed c.requires.fills.1.known first put in
    let held = uses_held list numbers t0 t1 seen scanned t2.slots numbered whole c.requires.fills.1.agree
    c.requires.fills.1.listed used is in
    let k = c.args.tables.now in
    let protocol = c.args.standing.now.protocol in
    let logical = c.args.logical in
    let pages = ap (λ (t : TablesState). length t.pages) c.requires.fills.1.blank ∙ length-replicate logical [] in
    filled_from protocol list k.shape logical numbers t0 t1 t2
    (subst (λ n. AreBlankBut k.shape n t0) pages c.in_ok-numbered.ensures.blank)
    whole numbered is (all_placed list numbers t0 used.notes t1 (length used.notes) held (omega arith))
    (subst (λ ns. AreDecided protocol list ns logical t1 t2 (length list)) c.deref.ensures.value
    c.place_and_decide.ensures.decided)

pub returns-clause-mentions : goal.returns-clause-mentions
returns-clause-mentions c =
    c.in_ok-numbered.ensures.mentions
    ∙ ap (λ l. map (mention l) (range_with_len 0 c.args.logical)) (c.records-records.ensures.records
    ∙ c.sorted_records.ensures)

pub returns-clause-discards : goal.returns-clause-discards
returns-clause-discards c =
    let kept = c.in_ok-numbered.ensures.discards in
    subst (λ l. c.in_ok-numbered.numbered.discards ≡ false → (j : ℕ) → j < length l →
    (record_at l j).discard ≡ false)
    (c.records-records.ensures.records ∙ c.sorted_records.ensures) kept

pub returns-clause-none_closed : goal.returns-clause-none_closed
returns-clause-none_closed c =
    ap (λ (t : TablesState). t.closed) c.place_and_decide.ensures.decided.rest
    ∙ ap (λ (t : TablesState). t.closed) c.place_damaged.ensures
    ∙ ap (λ (t : TablesState). t.closed) c.in_ok-numbered.ensures.blank.rest
