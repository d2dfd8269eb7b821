-- What tables of slots and records have noted, slot by slot and record by record.
use Rattle.version_index.proofs.Common.{◌≡◌, ℕ, ◌<◌, ◌≤◌, arith, length, Contains, List, Any, Option, Some, refl, sym, ap, ◌∙◌, inl, inr, get_or-map, length-map, All-contains, option_map_or, cases_Option, Config, Protocol, Rec, Found, SlotUse, TablesState, use_at, note_at, rec_of, found_in, rec_at, note_in, notes_in, noted_by, numbered_of, AreHeld, AreIndexed}
use Rattle.list_lemmas.proofs.Membership.{any_in}
use Rattle.record_list.specs.Records.{IsScanned}
use Rattle.slot_tables.specs.declared.slots.SlotUse.TheVariants as slot
use Rattle.judged_records.specs.declared.note.Note.TheVariants as note
use Rattle.judged_records.proofs.OfNotes.FoundIn.{found, noted_from, noted_in, holds_within}
use Rattle.judged_records.proofs.OfReadings.NumberedReadings.{IsNumbering}

-- what is noted of a slot is by how it is used
pub note_by : (k : TablesState) (at : ℕ) → note_at (notes_in k) at ≡ note_in k.records (use_at k.slots at)
note_by k at = get_or-map (note_in k.records) k.slots at slot.Blank

-- a slot that holds a number with a record has the record noted
pub note_held : (k : TablesState) (at x : ℕ) (r : Rec) → use_at k.slots at ≡ slot.Holds x →
    rec_at k.records x ≡ Some r →
    note_at (notes_in k) at ≡ note.Holds r
note_held k at x r holds is =
    note_by k at ∙ ap (note_in k.records) holds ∙ ap (λ o. option_map_or note.Holds o note.Damaged) is

-- a slot that is noted blank is blank
blank_use : (records : List (Option Rec)) (u : SlotUse) → note_in records u ≡ note.Blank → u ≡ slot.Blank
blank_use records slot.Blank e = refl
blank_use records slot.Damaged e = cc
blank_use records (slot.Holds x) e = elim (cases_Option (rec_at records x)) [
  | inl none ↦ (let other : note.Damaged ≡ note.Blank = sym (ap (λ o. option_map_or note.Holds o note.Damaged) none)
      ∙ e in cc)
  | inr some ↦ (let other : note.Holds some.0 ≡ note.Blank = sym (ap (λ o. option_map_or note.Holds o note.Damaged)
      some.1) ∙ e in cc)
]

pub blank_slot : (k : TablesState) (at : ℕ) → note_at (notes_in k) at ≡ note.Blank → use_at k.slots at ≡ slot.Blank
blank_slot k at e = blank_use k.records (use_at k.slots at) (sym (note_by k at) ∙ e)

-- the number in a slot with a noted record
pub record HoldsNumber (k : TablesState) (at : ℕ) (r : Rec) : Type 0 where
  pub number : ℕ
  pub holds : use_at k.slots at ≡ slot.Holds number
  pub is : rec_at k.records number ≡ Some r

number_use : (k : TablesState) (at : ℕ) (r : Rec) (u : SlotUse) → use_at k.slots at ≡ u →
    note_in k.records u ≡ note.Holds r → HoldsNumber k at r
number_use k at r slot.Blank is e = cc
number_use k at r slot.Damaged is e = cc
number_use k at r (slot.Holds x) is e = elim (cases_Option (rec_at k.records x)) [
  | inl none ↦ (let other : note.Damaged ≡ note.Holds r = sym (ap (λ o. option_map_or note.Holds o note.Damaged) none)
      ∙ e in cc)
  | inr some ↦ (
      let same : note.Holds some.0 ≡ note.Holds r = sym (ap (λ o. option_map_or note.Holds o note.Damaged) some.1)
      ∙ e in
      let its : Some some.0 ≡ Some r = ap rec_of same in
      record { number = x; holds = is; is = some.1 ∙ its })
]

pub held_number : (k : TablesState) (at : ℕ) (r : Rec) → note_at (notes_in k) at ≡ note.Holds r → HoldsNumber k at r
held_number k at r e = number_use k at r (use_at k.slots at) refl (sym (note_by k at) ∙ e)

pub length-notes : (k : TablesState) → length (notes_in k) ≡ length k.slots
length-notes k = length-map k.slots (note_in k.records)

module _ (k : TablesState) (h : AreHeld k) where
  -- the record of a number is noted
  pub kept_found : (x : ℕ) (r : Rec) → rec_at k.records x ≡ Some r → (at : ℕ) × (use_at k.slots at ≡ slot.Holds x) ×
      Contains (found_in (notes_in k)) (found at r)
  kept_found x r is =
      let used = h.used x r is in
      let here = note_held k used.0 x r used.1 is in
      (used.0, used.1, noted_in (notes_in k) used.0 r (holds_within (notes_in k) used.0 r here) here)

  -- where the noted records are scanned ones, its version is above 0
  pub kept_above : IsScanned (found_in (notes_in k)) → (x : ℕ) (r : Rec) → rec_at k.records x ≡ Some r → 0 < r.version
  kept_above scanned x r is =
      let f = kept_found x r is in
      let low = All-contains (λ f. (1 ≤ f.rec.version) × (1 ≤ f.rec.next.version)) (found_in (notes_in k)) (found f.0 r)
      scanned.versions f.2 in
      omega (arith, low.0)

  -- and a noted record has a number, which its slot holds
  pub found_number : (f : Found) → Contains (found_in (notes_in k)) f → HoldsNumber k f.slot.0 f.rec
  found_number f i = held_number k f.slot.0 f.rec (noted_from (notes_in k) f i).1

  pub kept_noted : (x : ℕ) (r : Rec) → rec_at k.records x ≡ Some r → Any (λ f. f.rec ≡ r) (found_in (notes_in k))
  kept_noted x r is = let f = kept_found x r is in
      any_in (λ g. g.rec ≡ r) (found_in (notes_in k)) (found f.0 r) f.2 refl

-- the numbers of the tables are those of the noted records
pub numbering : (protocol : Protocol) (its : Config) (m : List ℕ) (k : TablesState) (i : AreIndexed protocol its m k) →
    IsNumbering (numbered_of k) (noted_by its m k)
numbering protocol its m k i = record {
  judged = i.judged;
  noted = kept_noted k i.held;
  each = λ f is. (let h = found_number k i.held f is in (h.number, h.is));
  once = i.held.once;
  unused = λ x none. (i.held.unused x none).0;
}
