-- The homes of wanted records are marked one after the other, and tables that were filled once all are.
use Rattle.slot_tables.proofs.Common.{◌≡◌, ℕ, zero, suc, ◌+◌, ◌<◌, ◌≤◌, Bool, true, false, cond, Option, Some, None, List, map, set, replicate, length, refl, sym, ap, ◌∙◌, inl, inr, arith, eqb-true, length-set, range_with_len, IfSome, cases_eq, cases_lt, false≢true, get_or-set_same, get_or-set_other, get_or_past, blocks_of, slots_of, is_slot, SlotUse, Blank, Damaged, Holds, TablesState, IsTablesState, use_at, number_in, record_at, Rec, home, is_wanted, is_needed, is_needed_for, LiveSlotsState, is_marked, tables_state, AreMarked, TablesInvariant}
use Rattle.std.specs.Option.{option_map_or}
use Rattle.std.proofs.lemmas.Bool.{and_parts}
use Rattle.std.proofs.lemmas.Option.{same_Some, none-some}
use Rattle.std.proofs.lemmas.List.FromFn.{get_or-map-range_with_len, length-map-range_with_len}
use Rattle.slot_tables.specs.declared.tables_builder.TablesBuilder.TheInside.{Inside}
use Rattle.slot_tables.specs.declared.tables.Tables.TheInside.{Inside as Whole}
use Rattle.slot_tables.specs.TablesState.{is_wanted_as}
use Rattle.slot_tables.specs.TablesBuilder.{TablesBuilderInvariant}
use Rattle.slot_tables.specs.BaseTables.{marked, home_marked}
use Rattle.slot_tables.proofs.OfLiveSlots.Needing.{needed_none, home_wanted, home_lies}

-- what is marked is needed, and the homes of the wanted records of the first numbers are marked
pub record AreHomes (k : TablesState) (upto : ℕ) (marks : List Bool) : Type 0 where
  pub needed : (at : ℕ) → is_marked marks at ≡ true → is_needed k at ≡ true
  pub homes : (number at : ℕ) → number < upto → home k number ≡ Some at → is_wanted k number ≡ true →
      is_marked marks at ≡ true

-- the home of one more record is marked
marked_more : (k : TablesState) (upto at : ℕ) (marks : List Bool) → AreHomes k upto marks → home k upto ≡ Some at →
    is_wanted k upto ≡ true → at < length marks
    → AreHomes k (upto + 1) (set marks at true)
marked_more k upto at marks h is wanted low = record {
  needed = λ s marked_s. elim (cases_eq s at) [
    | inl here ↦ ap (is_needed k) here ∙ home_wanted k upto at is ∙ wanted
    | inr other ↦ h.needed s (sym (get_or-set_other marks at s true false other) ∙ marked_s)
  ];
  homes = λ number s less its_home its_wanted. elim (cases_eq s at) [
    | inl here ↦ rw here (get_or-set_same marks at true false low)
    | inr other ↦ get_or-set_other marks at s true false other ∙ elim (cases_eq number upto) [
      | inl e ↦ absurd (other (same_Some s at (sym its_home ∙ ap (home k) e ∙ is)))
      | inr apart ↦ h.homes number s (omega arith) its_home its_wanted
    ]
  ];
}

-- one number more
pub one_more : (k : TablesState) (upto : ℕ) (marks : List Bool) → AreHomes k upto marks →
    length marks ≡ length k.slots →
    AreHomes k (upto + 1) (home_marked k marks upto)
one_more k upto marks h size = by (is_wanted k upto) refl (home k upto) refl (home_lies k (Some upto))
  where
    -- a record that is not wanted or has no home
    skip : ((at : ℕ) → home k upto ≡ Some at → is_wanted k upto ≡ true → ⊥) → AreHomes k (upto + 1) marks
    skip none = record {
      needed = h.needed;
      homes = λ number at less its_home its_wanted. elim (cases_eq number upto) [
        | inl e ↦ absurd (none at (sym (ap (home k) e) ∙ its_home) (sym (ap (is_wanted k) e) ∙ its_wanted))
        | inr apart ↦ h.homes number at (omega arith) its_home its_wanted
      ];
    }

    by : (w : Bool) → is_wanted k upto ≡ w → (o : Option ℕ) → home k upto ≡ o → IfSome o (λ at. at < length k.slots)
        → AreHomes k (upto + 1) (cond w (marked marks o) marks)
    by false unwanted o is lies = skip (λ at _home wanted. false≢true (sym unwanted ∙ wanted))
    by true wanted None is lies = skip (λ at its_home _wanted. none-some at (sym is ∙ its_home))
    by true wanted (Some at) is lies = marked_more k upto at marks h is wanted (omega arith)

-- numbers without a record have nothing that is marked
pub homes_past : (k : TablesState) (end upto : ℕ) (marks : List Bool) →
    ((number : ℕ) → end ≤ number → record_at k.records number ≡ None) → AreHomes k end marks → AreHomes k upto marks
homes_past k end upto marks fresh h = record {
  needed = h.needed;
  homes = λ number at less its_home wanted. elim (cases_lt number end) [
    | inl low ↦ h.homes number at low its_home wanted
    | inr past ↦ absurd (false≢true
        (sym (ap (λ (o : Option Rec). option_map_or (is_wanted_as k number) o false) (fresh number past)) ∙ wanted))
  ];
}

pub unmarked : (n at : ℕ) → is_marked (replicate n false) at ≡ false
unmarked zero at = refl
unmarked (suc n) zero = refl
unmarked (suc n) (suc at) = unmarked n at

pub marked_length : (k : TablesState) (marks : List Bool) (number : ℕ) →
    length (home_marked k marks number) ≡ length marks
marked_length k marks number = by (is_wanted k number) (home k number)
  where
    by : (w : Bool) (o : Option ℕ) → length (cond w (marked marks o) marks) ≡ length marks
    by false o = refl
    by true None = refl
    by true (Some at) = length-set marks at true

-- at first none is
pub none_marked : (k : TablesState) (marks : List Bool) → ((at : ℕ) → is_marked marks at ≡ false) → AreHomes k 0 marks
none_marked k marks none = record {
  needed = λ at is. absurd (false≢true (sym (none at) ∙ is));
  homes = λ number at less its_home its_wanted. absurd (omega arith);
}

-- a slot that is needed is the home of a record that is wanted
needed_home : (k : TablesState) (at : ℕ) → is_needed k at ≡ true
    → (number : ℕ) × (use_at k.slots at ≡ Holds number) × (home k number ≡ Some at) × (is_wanted k number ≡ true)
unfolding is_needed
needed_home k at is = by (use_at k.slots at) refl is
  where
    is_there : (o : Option ℕ) → is_slot at o ≡ true → o ≡ Some at
    is_there None never = absurd (false≢true never)
    is_there (Some slot) yes_there = ap Some (eqb-true slot at yes_there)

    by : (u : SlotUse) → use_at k.slots at ≡ u → is_needed_for k at (number_in u) ≡ true
        → (number : ℕ) × (use_at k.slots at ≡ Holds number) × (home k number ≡ Some at) × (is_wanted k number ≡ true)
    by Blank e never = absurd (false≢true never)
    by Damaged e never = absurd (false≢true never)
    by (Holds number) e both =
        let parts = and_parts (is_slot at (home k number)) (is_wanted k number) both in
        (number, e, is_there (home k number) parts.0, parts.1)

-- once the homes of all are marked, the marks are those of the needed slots
pub all_marked : (k : TablesState) (marks : List Bool) → IsTablesState k → AreHomes k (length k.slots) marks →
    (at : ℕ) → is_marked marks at ≡ is_needed k at
all_marked k marks kept h at = by (is_marked marks at) refl (is_needed k at) refl
  where
    by : (m : Bool) → is_marked marks at ≡ m → (n : Bool) → is_needed k at ≡ n → m ≡ n
    by true is n e = sym (h.needed at is) ∙ e
    by false is false e = refl
    by false is true e =
        let (number, held, its_home, wanted) = needed_home k at e in
        let low = kept.held at number held in
        absurd (false≢true (sym is ∙ h.homes number at (omega (arith, kept.slots)) its_home wanted))

-- tables that are being filled are tables with the marks of the needed slots
abbrev pub right_needs : TablesState → List Bool → LiveSlotsState
right_needs k blank = record {
  needed = map (is_needed k) (range_with_len 0 (slots_of k.shape));
  blanks = blank;
  closed = k.closed;
  size = k.shape.pages_per_block;
  blocks = blocks_of k.shape;
  spare = k.spare;
}

abbrev pub as_tables : Inside → Whole
as_tables f = record { base = f.base; live = right_needs (tables_state f.base) f.blanks.marks }

right_marked : (k : TablesState) (blank : List Bool) → length k.slots ≡ slots_of k.shape →
    AreMarked k (right_needs k blank)
right_marked k blank slots = record {
  slots = length-map-range_with_len (is_needed k) 0 (slots_of k.shape);
  size = refl;
  blocks = refl;
  spare = refl;
  closed = refl;
  needed = λ at. elim (cases_lt at (slots_of k.shape)) [
    | inl low ↦ get_or-map-range_with_len (is_needed k) 0 (slots_of k.shape) at at false low (omega arith)
    | inr past ↦
        get_or_past (map (is_needed k) (range_with_len 0 (slots_of k.shape))) at false
        (rw (length-map-range_with_len (is_needed k) 0 (slots_of k.shape)) past)
        ∙ sym (needed_none k at (ap number_in (get_or_past k.slots at Blank (rw slots past))))
  ];
}

pub are_tables : (f : Inside) → TablesBuilderInvariant f → TablesInvariant (as_tables f)
are_tables f h = record {
  sized = h.sized;
  blanks = record { marks = h.blanks.marks; size = refl };
  live = right_marked (tables_state f.base) f.blanks.marks h.sized.kept.slots;
}
