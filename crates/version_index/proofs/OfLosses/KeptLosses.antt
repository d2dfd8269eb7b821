-- A block whose slots are used otherwise leaves tables that have what was noted.
use Rattle.version_index.proofs.Common.{◌≡◌, ◌≢◌, ℕ, zero, suc, ◌+◌, ◌*◌, ◌<◌, ◌≤◌, ◌⊎◌, true, false, List, length, set, get_or, Option, Some, None, refl, sym, ap, ◌∙◌, subst, inl, inr, arith, slice_get, option_map_or, false≢true, cases_Bool, cases_eq, cases_lt, length-set, get_or-set_same, get_or-set_other, get_or_past, ext_get_or, All-contains, none-some, same_Some, Config, Protocol, Rec, shape_of, blocks_of, name_of, is_present, is_outside, found_named, present_in, SlotUse, TablesState, IsTablesState, use_at, holds, copies_of, number_in, record_at, Note, note_at, rec_of, found_in, IndexState, IsNoted, CanLose, current_of, answerer_of, derived_of, freed, used_so, used_from, rec_at, AreDerived, note_in, notes_in, noted_by, numbered_of, AreHeld, AreIndexed}
use Rattle.list_lemmas.proofs.Membership.{from_filter}
use Rattle.flash_model.proofs.ImageLemmas.{block_within}
use Rattle.record_list.specs.Changes.{LossLaw, left}
use Rattle.slot_tables.specs.declared.slots.SlotUse.TheVariants as slot
use Rattle.slot_tables.specs.Copies.{HoldsNone}
use Rattle.slot_tables.specs.TablesState.{given_up}
use Rattle.judged_records.specs.declared.note.Note.TheVariants as note
use Rattle.judged_records.specs.Numbered.{number_at}
use Rattle.judged_records.specs.DerivedChanges.{NothingMoves}
use Rattle.judged_records.specs.Notes.{with_block_noted}
use Rattle.judged_records.proofs.OfNotes.Blocks.{length-with_item, item_in, item_out, outside_it}
use Rattle.judged_records.proofs.OfReadings.Firsts.{head_find, first_passed, none_passed}
use Rattle.judged_records.proofs.OfNotes.FoundIn.{found}
use Rattle.judged_records.proofs.OfChanges.Losses.{left_in, loss_moves_nothing, lost_answers_none, lost_not_current}
use Rattle.judged_records.proofs.OfChanges.NotedChanges.{block_noted}
use Rattle.judged_records.proofs.OfNotes.Numbered.{given_up_derived}
use Rattle.version_index.specs.Losing.{bared_as, without}
use Rattle.version_index.specs.Written.{pages_written}
use Rattle.version_index.proofs.OfChanges.KeptChanges.{still_indexed}
use Rattle.version_index.proofs.OfReadings.KeptHomes.{holds_use, use_holds}
use Rattle.version_index.proofs.OfReadings.KeptReadings.{current_record}
use Rattle.version_index.proofs.OfTables.KeptNotes.{note_by, kept_found, found_number, length-notes}
use Rattle.version_index.proofs.OfWritten.CountedPages.{same_written}

-- a slot that holds no number
holds_none : (u : SlotUse) (x : ℕ) → HoldsNone u → u ≡ slot.Holds x → ⊥
holds_none slot.Blank x h e = cc
holds_none slot.Damaged x h e = cc
holds_none (slot.Holds y) x h e = h

same_number : (x y : ℕ) → slot.Holds x ≡ slot.Holds y → x ≡ y
same_number x y e = same_Some x y (ap number_in e)

some_within : {X : Type 0} (xs : List (Option X)) (i : ℕ) (x : X) → get_or xs i None ≡ Some x → i < length xs
some_within xs i x e = elim (cases_lt i (length xs)) [
  | inl within ↦ within
  | inr past ↦ absurd (none-some x (sym (get_or_past xs i None past) ∙ e))
]

-- the copies of a number: one of them, or none at all
copy_holds : (k : TablesState) (x at : ℕ) → slice_get (copies_of k.slots x) 0 ≡ Some at →
    use_at k.slots at ≡ slot.Holds x
unfolding copies_of
copy_holds k x at e =
    let first = first_passed (λ j. holds x (use_at k.slots j)) (λ _. true) 0 (length k.slots) at
    (sym (head_find (copies_of k.slots x)) ∙ e) in
    holds_use x (use_at k.slots at) first.one

no_copy : (k : TablesState) (x at : ℕ) → slice_get (copies_of k.slots x) 0 ≡ None → use_at k.slots at ≡ slot.Holds x → ⊥
unfolding copies_of
no_copy k x at e here = elim (cases_lt at (length k.slots)) [
  | inl within ↦ false≢true (sym (none_passed (λ j. holds x (use_at k.slots j)) (λ _. true) (length k.slots)
      (sym (head_find (copies_of k.slots x)) ∙ e)
      at within (use_holds x (use_at k.slots at) here)))
  | inr past ↦ (let other : slot.Blank ≡ slot.Holds x = sym (get_or_past k.slots at slot.Blank past)
      ∙ here in absurd cc)
]

-- which record is current stays
bared_current : (k : TablesState) (x : ℕ) (r : Option Rec) (at : Option ℕ) → (bared_as k x r at).current ≡ k.current
bared_current k x None at = refl
bared_current k x (Some r) (Some at) = refl
bared_current k x (Some r) None = refl

without_current : (k : TablesState) (o : Option ℕ) → (without k o).current ≡ k.current
without_current k None = refl
without_current k (Some x) = bared_current k x (record_at k.records x) (slice_get (copies_of k.slots x) 0)

used_current : (k : TablesState) (first : ℕ) (to : SlotUse) (count : ℕ) → (used_from k first to count).current ≡ k.current
unfolding used_from
used_current k first to zero = refl
used_current k first to (suc count) =
    let t = used_from k first to count in
    without_current (record t { slots = set t.slots (first + count) to }) (number_in (use_at t.slots (first + count)))
    ∙ used_current k first to count

module _ (protocol : Protocol) (its : Config) (m : List ℕ) (k : TablesState) (i : AreIndexed protocol its m k)
    (sizes : IsTablesState k)
    (loss : LossLaw protocol) (block : ℕ) (exists : block < blocks_of (shape_of its))
    (lose : CanLose (noted_by its m k) block)
    (to : SlotUse) (holds_no : HoldsNone to) (its_note : Note) (no_record : rec_of its_note ≡ None)
    (noted_so : (records : List (Option Rec)) → note_in records to ≡ its_note) where
  abbrev n : IndexState
  n = noted_by its m k

  abbrev per : ℕ
  per = its.pages_per_block

  abbrev first : ℕ
  first = block * per

  abbrev after : IndexState
  after = record n { notes = with_block_noted (shape_of its) (notes_in k) block its_note }

  -- slots of which this many of the block are used so
  record AreUsed (count : ℕ) (slots : List SlotUse) : Type 0 where
    size : length slots ≡ length k.slots
    inside : (a : ℕ) → first ≤ a → a < first + count → use_at slots a ≡ to
    outside : (a : ℕ) → (a < first) ⊎ (first + count ≤ a) → use_at slots a ≡ use_at k.slots a

  long : first + per ≤ length k.slots
  long = let bound = block_within (shape_of its) block exists in let slots = i.noted.slots in
      let same = length-notes k in omega arith

  used_place : (count : ℕ) (slots : List SlotUse) → count < per → AreUsed count slots →
      use_at (set slots (first + count) to) (first + count) ≡ to
  used_place count slots below u = get_or-set_same slots (first + count) to slot.Blank (let same = u.size in
      let all = long in omega arith)

  used_more : (count : ℕ) (slots : List SlotUse) → count < per → AreUsed count slots →
      AreUsed (count + 1) (set slots (first + count) to)
  used_more count slots below u = record {
    size = length-set slots (first + count) to ∙ u.size;
    inside = λ a low high. elim (cases_eq a (first + count)) [
      | inl here ↦ ap (use_at (set slots (first + count) to)) here ∙ used_place count slots below u
      | inr off ↦ get_or-set_other slots (first + count) a to slot.Blank off ∙ u.inside a low (omega arith)
    ];
    outside = λ a off. (
        let other : a ≢ first + count = λ here. elim off [
          | inl before ↦ absurd (omega arith)
          | inr behind ↦ absurd (omega arith)
        ] in
        let before : (a < first) ⊎ (first + count ≤ a) = elim off [
          | inl low ↦ inl low
          | inr high ↦ inr (omega arith)
        ] in
        get_or-set_other slots (first + count) a to slot.Blank other ∙ u.outside a before);
  }

  -- the tables once this many slots of the block are used so
  record IsLosing (count : ℕ) (t : TablesState) : Type 0 where
    shape : t.shape ≡ k.shape
    slots : AreUsed count t.slots
    pages : length t.pages ≡ length k.pages
    answerers : length t.answerers ≡ length k.answerers
    waits : length t.waits ≡ length k.waits
    pins : t.pins ≡ k.pins
    spare : t.spare ≡ k.spare
    closed : t.closed ≡ k.closed
    records : (x : ℕ) (r : Rec) → rec_at t.records x ≡ Some r → rec_at k.records x ≡ Some r
    held : AreHeld t
    judged : AreDerived (numbered_of t) its.logical (derived_of n)

  start : IsLosing 0 k
  start = record {
    shape = refl;
    pages = refl;
    answerers = refl;
    waits = refl;
    pins = refl;
    spare = refl;
    closed = refl;
    slots = record { size = refl; inside = λ a low high. absurd (omega arith); outside = λ a off. refl };
    records = λ x r is. is;
    held = i.held;
    judged = i.judged;
  }

  -- a number that no slot outside the block holds has a name that is gone
  name_gone : (x : ℕ) (r : Rec) → rec_at k.records x ≡ Some r →
      ((a : ℕ) → (a < first) ⊎ (first + per ≤ a) → use_at k.slots a ≡ slot.Holds x → ⊥) →
      is_present (found_in after.notes) (name_of r) ≡ false
  name_gone x r is nowhere = elim (cases_Bool (is_present (found_in after.notes) (name_of r))) [
    | inr gone ↦ gone
    | inl here ↦ (
        let keep = is_outside (shape_of its) block in
        let left_here = subst (λ l. is_present l (name_of r) ≡ true)
        (left_in protocol n i.noted block its_note no_record exists lose) here in
        let f = found_named (left keep (found_in (notes_in k))) (name_of r) left_here in
        let parts = from_filter (λ g. keep g.slot.0) f.0 (found_in (notes_in k)) f.1 in
        let y = found_number k i.held f.0 parts.0 in
        let same = i.held.once y.number x f.0.rec r y.is is f.2 in
        absurd (nowhere f.0.slot.0 (outside_it (shape_of its) block f.0.slot.0 parts.1) (y.holds ∙ ap slot.Holds same)))
  ]

  module _ (count : ℕ) (t : TablesState) (below : count < per) (l : IsLosing count t) where
    abbrev at : ℕ
    at = first + count

    abbrev t1 : TablesState
    t1 = record t { slots = set t.slots at to }

    -- a slot that holds a number yet is another one
    still_holds : (a x : ℕ) → use_at t1.slots a ≡ slot.Holds x → (a ≢ at) × (use_at t.slots a ≡ slot.Holds x)
    still_holds a x e =
        let off : a ≢ at = λ here. holds_none to x holds_no
        (sym (used_place count t.slots below l.slots) ∙ ap (use_at t1.slots) (sym here) ∙ e) in
        (off, sym (get_or-set_other t.slots at a to slot.Blank off) ∙ e)

    -- one slot more, with no record given up
    one_more : ((x : ℕ) (r : Rec) → rec_at t.records x ≡ Some r → use_at t.slots at ≡ slot.Holds x →
        (a : ℕ) × (use_at t1.slots a ≡ slot.Holds x)) → IsLosing (count + 1) t1
    one_more kept = record {
      shape = l.shape;
      pages = l.pages;
      answerers = l.answerers;
      waits = l.waits;
      pins = l.pins;
      spare = l.spare;
      closed = l.closed;
      slots = used_more count t.slots below l.slots;
      records = l.records;
      held = record {
        held = λ a x e. l.held.held a x (still_holds a x e).1;
        used = λ x r is. (
            let old = l.held.used x r is in
            elim (cases_eq old.0 at) [
              | inl here ↦ kept x r is (ap (use_at t.slots) (sym here) ∙ old.1)
              | inr off ↦ (old.0, get_or-set_other t.slots at old.0 to slot.Blank off ∙ old.1)
            ]);
        once = l.held.once;
        unused = l.held.unused;
      };
      judged = l.judged;
    }

    module _ (x : ℕ) (r : Rec) (holds_x : use_at t.slots at ≡ slot.Holds x) (is : rec_at t.records x ≡ Some r)
        (none : slice_get (copies_of t1.slots x) 0 ≡ None) where
      abbrev t2 : TablesState
      t2 = given_up (freed t1 x) r.page x

      not_x : (y : ℕ) (s : Rec) → rec_at t2.records y ≡ Some s → y ≢ x
      not_x y s e here = none-some s (sym (get_or-set_same t.records x None None (some_within t.records x r is))
          ∙ ap (rec_at t2.records) (sym here) ∙ e)

      others : (y : ℕ) → y ≢ x → rec_at t2.records y ≡ rec_at t.records y
      others y off = get_or-set_other t.records x y None None off

      its_name_gone : is_present (found_in after.notes) (name_of r) ≡ false
      its_name_gone = name_gone x r (l.records x r is) (λ a off here. (
          let u = used_more count t.slots below l.slots in
          let outside : (a < first) ⊎ (first + (count + 1) ≤ a) =
          elim off [ inl low ↦ inl low | inr high ↦ inr (omega arith) ] in
          no_copy t1 x a none (u.outside a outside ∙ here)))

      free : (y : ℕ) (s : Rec) → rec_at t.records y ≡ Some s → answerer_of n s ≢ Some (name_of r)
      free y s is_y =
          let f = kept_found k i.held y s (l.records y s is_y) in
          All-contains (λ g. answerer_of n g.rec ≢ Some (name_of r)) (found_in (notes_in k)) (found f.0 s)
          (lost_answers_none protocol n i.noted block its_note no_record exists lose (name_of r) its_name_gone) f.2

      stale : current_of n r.page ≢ r.version
      stale e =
          let f = kept_found k i.held x r (l.records x r is) in
          lost_not_current protocol n i.noted block its_note no_record exists lose (name_of r)
          (present_in (found_in (notes_in k)) (found f.0 r) f.2) its_name_gone (sym e)

      its_within : (x < length t.answerers) × (x < length t.waits)
      its_within =
          let within = some_within k.records x r (l.records x r is) in
          let a = l.answerers in
          let b = sizes.answerers in
          let c = sizes.records in
          let d = l.waits in
          let e = sizes.waits in
          (omega arith, omega arith)

      -- one slot more, and its record given up
      one_less : IsLosing (count + 1) t2
      one_less = record {
        shape = l.shape;
        pages = length-set t.pages r.page _ ∙ l.pages;
        answerers = length-set t.answerers x None ∙ l.answerers;
        waits = length-set t.waits x None ∙ l.waits;
        pins = l.pins;
        spare = l.spare;
        closed = l.closed;
        slots = used_more count t.slots below l.slots;
        records = λ y s e. l.records y s (sym (others y (not_x y s e)) ∙ e);
        held = record {
          held = λ a y e. (
              let was = still_holds a y e in
              let old = l.held.held a y was.1 in
              let off : y ≢ x = λ here. no_copy t1 x a none (e ∙ ap slot.Holds here) in
              (old.0, others y off ∙ old.1));
          used = λ y s e. (
              let off = not_x y s e in
              let old = l.held.used y s (sym (others y off) ∙ e) in
              let elsewhere : old.0 ≢ at = λ here. off (same_number y x (sym old.1 ∙ ap (use_at t.slots) here
              ∙ holds_x)) in
              (old.0, get_or-set_other t.slots at old.0 to slot.Blank elsewhere ∙ old.1));
          once = λ y z s u ey ez e. l.held.once y z s u (sym (others y (not_x y s ey)) ∙ ey)
              (sym (others z (not_x z u ez)) ∙ ez) e;
          unused = λ y e. elim (cases_eq y x) [
            | inl here ↦ (
              ap (number_at t2.answerers) here ∙ get_or-set_same t.answerers x None None its_within.0,
              ap (number_at t2.waits) here ∙ get_or-set_same t.waits x None None its_within.1,
            )
            | inr off ↦ (
                let old = l.held.unused y (sym (others y off) ∙ e) in (
                  get_or-set_other t.answerers x y None None off ∙ old.0,
                  get_or-set_other t.waits x y None None off ∙ old.1,
                ))
          ];
        };
        judged = given_up_derived (numbered_of t) (numbered_of t2) its.logical (derived_of n) x r l.judged is stale
            free (record {
              own = get_or-set_same t.records x None None (some_within t.records x r is);
              others = others;
              current = refl;
              answerers = λ y off. get_or-set_other t.answerers x y None None off;
              waits = λ y off. get_or-set_other t.waits x y None None off;
            });
      }

    -- one slot more
    one_step : IsLosing (count + 1) (used_so t at to)
    one_step = of_use (use_at t.slots at) refl
      where
        of_copies : (x : ℕ) (r : Rec) → use_at t.slots at ≡ slot.Holds x → rec_at t.records x ≡ Some r →
            (o : Option ℕ) →
            slice_get (copies_of t1.slots x) 0 ≡ o → IsLosing (count + 1) (bared_as t1 x (Some r) o)
        of_copies x r holds_x is None e = one_less x r holds_x is e
        of_copies x r holds_x is (Some b) e = one_more (λ y s is_y here.
            (b, copy_holds t1 x b e ∙ ap slot.Holds (same_number x y (sym holds_x ∙ here))))

        of_use : (u : SlotUse) → use_at t.slots at ≡ u → IsLosing (count + 1) (used_so t at to)
        of_use slot.Blank e = subst (λ u. IsLosing (count + 1) (without t1 (number_in u))) (sym e)
            (one_more (λ x r is here. (
            let other : slot.Blank ≡ slot.Holds x = sym e ∙ here in absurd cc)))
        of_use slot.Damaged e = subst (λ u. IsLosing (count + 1) (without t1 (number_in u))) (sym e)
            (one_more (λ x r is here. (
            let other : slot.Damaged ≡ slot.Holds x = sym e ∙ here in absurd cc)))
        of_use (slot.Holds x) e =
            let r = l.held.held at x e in
            subst (λ u. IsLosing (count + 1) (without t1 (number_in u))) (sym e)
            (subst (λ o. IsLosing (count + 1) (bared_as t1 x o (slice_get (copies_of t1.slots x) 0))) (sym r.1)
            (of_copies x r.0 e r.1 (slice_get (copies_of t1.slots x) 0) refl))

  all_steps : (count : ℕ) → count ≤ per → IsLosing count (used_from k first to count)
  unfolding used_from
  all_steps zero below = start
  all_steps (suc count) below =
      let more : count + 1 ≡ suc count = omega arith in
      subst (λ c. IsLosing c (used_so (used_from k first to count) (first + count) to)) more
      (one_step count (used_from k first to count) (omega arith) (all_steps count (omega arith)))

  abbrev whole : TablesState
  whole = used_from k first to per

  -- the notes once the whole block is used so
  whole_notes : notes_in whole ≡ after.notes
  whole_notes =
      let l = all_steps per (omega arith) in
      let some : 0 < per = (let least = i.noted.bounds.shape.pages_least in omega arith) in
      let fits : first + per ≤ length (notes_in k) = (let all = long in let same = length-notes k in omega arith) in
      ext_get_or note.Blank (notes_in whole) after.notes
      (length-notes whole ∙ l.slots.size ∙ sym (length-notes k)
      ∙ sym (length-with_item (shape_of its) some (notes_in k) block its_note note.Blank fits)) (λ a within.
      note_by whole a ∙ elim (cases_lt a first) [
        | inl before ↦ same_note a (inl before)
            ∙ sym (item_out (shape_of its) some (notes_in k) block its_note note.Blank fits a (inl before))
        | inr low ↦ elim (cases_lt a (first + per)) [
          | inl inside ↦ ap (note_in whole.records) (l.slots.inside a low inside) ∙ noted_so whole.records
              ∙ sym (item_in (shape_of its) some (notes_in k) block its_note note.Blank fits a low inside)
          | inr behind ↦ same_note a (inr behind)
              ∙ sym (item_out (shape_of its) some (notes_in k) block its_note note.Blank fits a (inr behind))
        ]
      ])
    where
      same_note : (a : ℕ) → (a < first) ⊎ (first + per ≤ a) → note_in whole.records (use_at whole.slots a)
          ≡ note_at (notes_in k) a
      same_note a off =
          let l = all_steps per (omega arith) in
          of_use (use_at whole.slots a) refl ∙ ap (note_in k.records) (l.slots.outside a off) ∙ sym (note_by k a)
        where
          of_use : (u : SlotUse) → use_at whole.slots a ≡ u → note_in whole.records u ≡ note_in k.records u
          of_use slot.Blank e = refl
          of_use slot.Damaged e = refl
          of_use (slot.Holds x) e =
              let l = all_steps per (omega arith) in
              let r = l.held.held a x e in
              ap (λ o. option_map_or note.Holds o note.Damaged) r.1
              ∙ sym (ap (λ o. option_map_or note.Holds o note.Damaged) (l.records x r.0 r.1))

  pub lost_is : noted_by its m whole ≡ after
  lost_is =
      let l = all_steps per (omega arith) in
      ap (λ notes. record (noted_by its m whole) { notes = notes }) whole_notes
      ∙ ap (λ pins. record after { pins = pins; spare = whole.spare; closed = whole.closed }) l.pins
      ∙ ap (λ spare. record after { spare = spare; closed = whole.closed }) l.spare
      ∙ ap (λ closed. record after { closed = closed }) l.closed

  pub lost_indexed : AreIndexed protocol its m whole
  lost_indexed =
      let l = all_steps per (omega arith) in
      still_indexed protocol its m k i whole l.shape l.pages l.held l.judged
      (subst (IsNoted protocol) (sym lost_is) (block_noted protocol n i.noted loss block its_note
      no_record exists lose))
      (subst (NothingMoves n) (sym lost_is) (loss_moves_nothing protocol n i.noted block its_note no_record
      exists lose loss))

  -- and as many pages are not blank: no current record is given up
  pub lost_written : pages_written whole ≡ pages_written k
  lost_written =
      let l = all_steps per (omega arith) in
      let same = used_current k first to per in
      same_written k whole same (λ page x within e. (
      let size = sizes.current in
      let pages = i.pages in
      let c = current_record protocol its m whole lost_indexed page x (omega arith)
      (ap (λ list. number_at list page) same ∙ e) in
      c.is ∙ sym (l.records x c.rec c.is)))
