-- Where the record of a number is read: its home, and its lowest slot outside a block.
use Rattle.version_index.proofs.Common.{◌≡◌, ℕ, ◌<◌, Bool, true, eqb, ◌&&◌, List, length, Some, None, refl, sym, ap, ◌∙◌, inl, inr, arith, eq-eqb, eqb-true, slice_get, false≢true, cases_Bool, and_from, and_parts, cases_Option, Rec, Config, shape_of, name_of, has_name, is_outside, has_name_true, SlotUse, TablesState, use_at, holds, copies_of, note_at, home_of, slot_off, rec_at, notes_in, noted_by, AreHeld}
use Rattle.std.proofs.Common.{find}
use Rattle.std.specs.Option.{option_or}
use Rattle.std.proofs.lemmas.Bool.{and_left, and_right}
use Rattle.record_list.specs.Written.{is_outside_spare}
use Rattle.slot_tables.specs.declared.slots.SlotUse.TheVariants as slot
use Rattle.slot_tables.specs.TablesState.{home_in}
use Rattle.judged_records.specs.declared.note.Note.TheVariants as note
use Rattle.judged_records.specs.Derived.{IsLowestSlot, HasNoSlot}
use Rattle.judged_records.proofs.OfReadings.Firsts.{head_find, first_passed, none_passed}
use Rattle.judged_records.proofs.OfNotes.FoundIn.{holds_within}
use Rattle.judged_records.proofs.OfReadings.LowestSlots.{home_outside, home_inside, off_lowest, off_none}
use Rattle.version_index.proofs.OfTables.KeptNotes.{note_held, held_number, length-notes}

-- a slot is used for a number exactly where the test says so
pub holds_use : (x : ℕ) (u : SlotUse) → holds x u ≡ true → u ≡ slot.Holds x
holds_use x slot.Blank e = absurd (false≢true e)
holds_use x slot.Damaged e = absurd (false≢true e)
holds_use x (slot.Holds y) e = ap slot.Holds (eqb-true y x e)

pub use_holds : (x : ℕ) (u : SlotUse) → u ≡ slot.Holds x → holds x u ≡ true
use_holds x u e = ap (holds x) e ∙ eq-eqb x x refl

module _ (its : Config) (m : List ℕ) (k : TablesState) (h : AreHeld k) (x : ℕ) (r : Rec)
    (is : rec_at k.records x ≡ Some r) where
  -- a slot with the name of its record holds the number
  number_slot : (at : ℕ) (s : Rec) → note_at (notes_in k) at ≡ note.Holds s → has_name (name_of r) s ≡ true →
      (at < length k.slots) × (holds x (use_at k.slots at) ≡ true)
  number_slot at s here named =
      let held = held_number k at s here in
      let same : held.number ≡ x = h.once held.number x s r held.is is (has_name_true (name_of r) s named) in
      let within = holds_within (notes_in k) at s here in
      let long = length-notes k in
      (omega arith, use_holds x (use_at k.slots at) (held.holds ∙ ap slot.Holds same))

  own_name : has_name (name_of r) r ≡ true
  own_name = and_from (eqb r.page r.page) (eqb r.version r.version) (eq-eqb r.page r.page refl)
      (eq-eqb r.version r.version refl)

  -- the first copy that passes a test is the lowest slot of the name that passes
  pub first_lowest : (q : ℕ → Bool) (at : ℕ) → find q (copies_of k.slots x) ≡ Some at →
      IsLowestSlot (noted_by its m k) (λ f. has_name (name_of r) f.rec && q f.slot.0) at
  unfolding copies_of
  first_lowest q at e =
      let p : ℕ → Bool = λ j. holds x (use_at k.slots j) in
      let first = first_passed p q 0 (length k.slots) at e in
      record {
        rec = r;
        holds = note_held k at x r (holds_use x (use_at k.slots at) first.one) is;
        passes = and_from (has_name (name_of r) r) (q at) own_name first.other;
        least = λ j s here both.
            let parts = and_parts (has_name (name_of r) s) (q j) both in
            first.least j (omega arith) (number_slot j s here parts.0).1 parts.1;
      }

  -- and where none passes there is none
  pub none_lowest : (q : ℕ → Bool) → find q (copies_of k.slots x) ≡ None →
      HasNoSlot (noted_by its m k) (λ f. has_name (name_of r) f.rec && q f.slot.0)
  unfolding copies_of
  none_lowest q e at s here = elim (cases_Bool (has_name (name_of r) s)) [
    | inl named ↦ (
        let at_number = number_slot at s here named in
        and_right (has_name (name_of r) s) (q at) (none_passed (λ j. holds x (use_at k.slots j)) q (length k.slots) e at
        at_number.0 at_number.1))
    | inr other ↦ and_left (has_name (name_of r) s) (q at) other
  ]

  -- the lowest copy is the lowest slot of the name
  pub head_lowest : (at : ℕ) → slice_get (copies_of k.slots x) 0 ≡ Some at →
      IsLowestSlot (noted_by its m k) (λ f. has_name (name_of r) f.rec) at
  head_lowest at e =
      let s = first_lowest (λ _. true) at (sym (head_find (copies_of k.slots x)) ∙ e) in
      record {
        rec = s.rec;
        holds = s.holds;
        passes = (and_parts (has_name (name_of r) s.rec) true s.passes).0;
        least = λ j t here named. s.least j t here (and_from (has_name (name_of r) t) true named refl);
      }

  -- there is one
  pub head_some : (e : slice_get (copies_of k.slots x) 0 ≡ None) → ⊥
  head_some e =
      let used = h.used x r is in
      let here = note_held k used.0 x r used.1 is in
      let none = none_lowest (λ _. true) (sym (head_find (copies_of k.slots x)) ∙ e) used.0 r here in
      false≢true (sym none ∙ and_from (has_name (name_of r) r) true own_name refl)

  -- the home of the number is that of the name
  pub kept_home : home_in (shape_of its) k.spare k.slots x ≡ home_of (noted_by its m k) (name_of r)
  kept_home =
      let n = noted_by its m k in
      let q = is_outside_spare (shape_of its) k.spare in
      let outside = find q (copies_of k.slots x) in
      let any = slice_get (copies_of k.slots x) 0 in
      elim (cases_Option outside) [
        | inl none ↦ elim (cases_Option any) [
          | inl bare ↦ absurd (head_some bare)
          | inr some ↦ ap (λ o. option_or o any) none ∙ some.1
              ∙ sym (home_inside n (name_of r) some.0 (none_lowest q none) (head_lowest some.0 some.1))
        ]
        | inr some ↦ ap (λ o. option_or o any) some.1
            ∙ sym (home_outside n (name_of r) some.0 (first_lowest q some.0 some.1))
      ]

  -- and so is its lowest slot outside a block
  pub kept_off : (block : ℕ) → find (is_outside (shape_of its) block) (copies_of k.slots x)
      ≡ slot_off (noted_by its m k) block (name_of r)
  kept_off block =
      let n = noted_by its m k in
      let q = is_outside (shape_of its) block in
      elim (cases_Option (find q (copies_of k.slots x))) [
        | inl none ↦ none ∙ sym (off_none n (name_of r) block (none_lowest q none))
        | inr some ↦ some.1 ∙ sym (off_lowest n (name_of r) block some.0 (first_lowest q some.0 some.1))
      ]
