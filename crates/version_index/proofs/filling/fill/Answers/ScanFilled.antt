-- Tables that are filled step by step with the records of a scan.
use Rattle.version_index.proofs.Common.{◌≡◌, ℕ, ◌<◌, Bool, List, length, get_or, Option, Some, None, sym, ap, ◌∙◌, inl, inr, arith, cases_lt, cases_Option, length-replicate, get_or_past, Contains-get_or, position, option_map, Protocol, Shape, Link, Found, nothing, name_of, has_name, has_name_true, present_in, cur, SlotUse, TablesState, use_at, number_at, name_at, number_by, AreNumbered, AreBlankBut, AreDecided, AreFilled}
use Rattle.std.proofs.Common.{replicate}
use Rattle.std.proofs.lemmas.List.{get_or-replicate}
use Rattle.slot_tables.specs.declared.slots.SlotUse.TheVariants as slot
use Rattle.list_lemmas.proofs.Positions.{position_some}
use Rattle.list_lemmas.proofs.Tests.{find-position, find_stands}
use Rattle.record_list.specs.Records as records
use Rattle.version_index.specs.Filling.{AreUndecided, IsCurrentAmong}
use Rattle.version_index.proofs.OfOpening.ScanDecided.{numbered_in}
use Rattle.version_index.proofs.OfOpening.ScanSlots.{not_missing}

none_at : (n x : ℕ) → number_at (replicate n None) x ≡ None
none_at n x = elim (cases_lt x n) [
  | inl low ↦ get_or-replicate n x None None low
  | inr past ↦ get_or_past (replicate n None) x None (let long = length-replicate {A = Option ℕ} n None in omega arith)
]

pub blank_at : (n at : ℕ) → use_at (replicate n slot.Blank) at ≡ slot.Blank
blank_at n at = elim (cases_lt at n) [
  | inl low ↦ get_or-replicate n at slot.Blank slot.Blank low
  | inr past ↦ get_or_past (replicate n slot.Blank) at slot.Blank
      (let long = length-replicate {A = SlotUse} n slot.Blank in omega arith)
]

-- blank slots, and records with numbers, are undecided
pub undecided_from : (its_shape : Shape) (logical : ℕ) (t0 t1 : TablesState) → AreBlankBut its_shape logical t0 →
    t1 ≡ record t0 { slots = t1.slots } → AreUndecided t1
undecided_from its_shape logical t0 t1 blank rest = record {
  current = λ page. ap (λ (t : TablesState). number_at t.current page) rest
      ∙ ap (λ (t : TablesState). number_at t.current page) blank.rest ∙ none_at _ page;
  answerers = λ x. ap (λ (t : TablesState). number_at t.answerers x) rest
      ∙ ap (λ (t : TablesState). number_at t.answerers x) blank.rest ∙ none_at _ x;
  waits = λ x. ap (λ (t : TablesState). number_at t.waits x) rest
      ∙ ap (λ (t : TablesState). number_at t.waits x) blank.rest ∙ none_at _ x;
}

-- once it is known of all records which are current, each page has the number of its current one
module _ (protocol : Protocol) (list : List Found) (numbers : List ℕ) (logical : ℕ) (t : TablesState)
    (whole : length numbers ≡ length list)
    (numbered : AreNumbered list numbers t) where
  -- the numbers at two places of one name are the same
  one_number : (i j : ℕ) → i < length list → j < length list →
      name_of (records.record_at list i) ≡ name_of (records.record_at list j) →
      get_or numbers i 0 ≡ get_or numbers j 0
  one_number i j low_i low_j same =
      numbered.once (get_or numbers i 0) (get_or numbers j 0) (records.record_at list i) (records.record_at list j)
      (numbered.each i (omega arith)) (numbered.each j (omega arith)) same

  -- the record at the place of a name has it
  at_name : (link : Link) (place : ℕ) → position (λ f. has_name link f.rec) list ≡ Some place →
      (place < length list) × (name_of (records.record_at list place) ≡ link)
  at_name link place is =
      let p : Found → Bool = λ f. has_name link f.rec in
      let within = position_some p list place is in
      let stands = find_stands p list (get_or list place nothing) (find-position p list place nothing is) in
      (within.1, has_name_true link (records.record_at list place) stands.1)

  current_by : (page : ℕ) (o : Option ℕ) → IsCurrentAmong protocol list numbers logical (length list) page o →
      o ≡ number_by list numbers (name_at page (cur protocol list logical page))
  current_by page o among = elim among [
    | inl (j, low, name, is) ↦
        let f = get_or list j nothing in
        let present = present_in list f (Contains-get_or list j nothing low) in
        let by_name = ap (number_by list numbers) name in
        elim (cases_Option (position (λ g. has_name (name_of f.rec) g.rec) list)) [
          | inl none ↦ absurd (not_missing list f.rec present none)
          | inr (place, found) ↦
              let there = at_name (name_of f.rec) place found in
              is ∙ ap Some (sym (one_number place j there.0 low there.1))
              ∙ sym (by_name ∙ ap (option_map (λ q. get_or numbers q 0)) found)
        ]
    | inr (none, is) ↦ elim (cases_Option (name_at page (cur protocol list logical page))) [
      | inl nothing_there ↦ is ∙ sym (ap (number_by list numbers) nothing_there)
      | inr (link, name) ↦ elim (cases_Option (position (λ g. has_name link g.rec) list)) [
        | inl missing ↦ is ∙ sym (ap (number_by list numbers) name ∙ ap (option_map (λ q. get_or numbers q 0)) missing)
        | inr (place, found) ↦
            let there = at_name link place found in
            absurd (none place there.0 (name ∙ ap Some (sym there.1)))
      ]
    ]
  ]

pub filled_from : (protocol : Protocol) (list : List Found) (its_shape : Shape) (logical : ℕ) (numbers : List ℕ)
    (t0 t1 t2 : TablesState) →
    AreBlankBut its_shape logical t0 → length numbers ≡ length list → AreNumbered list numbers t0 →
    t1 ≡ record t0 { slots = t1.slots } →
    ((at x : ℕ) → use_at t1.slots at ≡ slot.Holds x → (j : ℕ) × (j < length list) × (get_or numbers j 0 ≡ x)) →
    AreDecided protocol list numbers logical t1 t2 (length list) →
    AreFilled protocol list its_shape logical t2
filled_from protocol list its_shape logical numbers t0 t1 t2 blank whole numbered rest placed decided =
    let records : t2.records ≡ t0.records = ap (λ (t : TablesState). t.records) decided.rest
    ∙ ap (λ (t : TablesState). t.records) rest in
    let slots : t2.slots ≡ t1.slots = ap (λ (t : TablesState). t.slots) decided.rest in
    let now = numbered_in list numbers t0 t2 numbered records in
    record {
      numbers = numbers;
      whole = whole;
      numbered = now;
      placed = λ at x e. placed at x (sym (ap (λ l. use_at l at) slots) ∙ e);
      current = λ page low. current_by protocol list numbers logical t2 whole now page (number_at t2.current page)
          (decided.current page low);
      done = decided.done;
      others = λ x none. elim (decided.others x) [
        | inl (j, less, same) ↦ absurd (none j less same)
        | inr both ↦ both
      ];
      shape = ap (λ (t : TablesState). t.shape) decided.rest ∙ ap (λ (t : TablesState). t.shape) rest
          ∙ ap (λ (t : TablesState). t.shape) blank.rest;
      pages = ap (λ (t : TablesState). length t.pages) decided.rest ∙ ap (λ (t : TablesState). length t.pages) rest
          ∙ blank.pages;
      pins = ap (λ (t : TablesState). t.pins) decided.rest ∙ ap (λ (t : TablesState). t.pins) rest
          ∙ ap (λ (t : TablesState). t.pins) blank.rest;
      spare = ap (λ (t : TablesState). t.spare) decided.rest ∙ ap (λ (t : TablesState). t.spare) rest
          ∙ ap (λ (t : TablesState). t.spare) blank.rest;
    }
