-- The slots of a scan hold the numbers of their records.
use Rattle.version_index.proofs.Common.{◌≡◌, ℕ, ◌+◌, ◌<◌, ◌≤◌, true, eqb, List, length, map, set, get_or, All, Contains, Some, None, refl, sym, ap, ◌∙◌, subst, inl, inr, arith, eq-eqb, option_map_or, position, get_or-map, false≢true, cases_eq, cases_lt, and_from, length-map, length-set, get_or-set_same, get_or-set_other, get_or_past, ext_get_or, at_from_Contains, Contains-get_or, all_from, Link, Rec, Found, name_of, has_name, is_present, nothing, found_named, present_in, has_name_true, SlotUse, TablesState, record_at, use_at, Note, NamesAgree, AreNumbered, Seen, note_at, note_in, notes_in}
use Rattle.std.proofs.Common.{subst₂}
use Rattle.std.proofs.lemmas.List.{set-get_or}
use Rattle.list_lemmas.proofs.Positions.{position-all}
use Rattle.record_list.specs.Records as records
use Rattle.record_list.proofs.OfFacts.Names.{has_own_name}
use Rattle.slot_tables.specs.declared.slots.SlotUse.TheVariants as slot
use Rattle.judged_records.specs.declared.note.Note.TheVariants as note
use Rattle.judged_records.specs.Notes.{seen_as, complete_slots}
use Rattle.flash_model.specs.declared.flash.Seen.TheVariants as seen
use Rattle.judged_records.proofs.OfNotes.FoundIn.{noted_in, noted_from, holds_within, found}
use Rattle.judged_records.proofs.OfNotes.Scans.{slots, scanned_notes}
use Rattle.version_index.specs.Filling.{AreListed, AreUses, IsNumberAt, UsesNote, first_use, ArePut}

-- a name that is present has a place
pub not_missing : (list : List Found) (rec : Rec) → is_present list (name_of rec) ≡ true →
    position (λ f. has_name (name_of rec) f.rec) list ≡ None → ⊥
not_missing list rec present none =
    let f = found_named list (name_of rec) present in
    let k = at_from_Contains list f.0 f.1 in
    let fails = position-all (λ g. has_name (name_of rec) g.rec) list nothing none k.0 k.1 in
    let own = and_from (eqb f.0.rec.page rec.page) (eqb f.0.rec.version rec.version)
    (eq-eqb f.0.rec.page rec.page (ap (λ (l : Link). l.page) f.2))
    (eq-eqb f.0.rec.version rec.version (ap (λ (l : Link). l.version) f.2)) in
    false≢true (sym fails ∙ ap (λ g. has_name (name_of rec) g.rec) (k.2 nothing) ∙ own)

module _ (list : List Found) (numbers : List ℕ) (k : TablesState) (numbered : AreNumbered list numbers k)
    (whole : length numbers ≡ length list)
    (agree : NamesAgree list) where
  -- a number at a place of a name has the record of that name
  its_record : (rec : Rec) (x : ℕ) → is_present list (name_of rec) ≡ true →
      ((f : Found) → Contains list f → name_of f.rec ≡ name_of rec → f.rec ≡ rec) →
      IsNumberAt list numbers rec x → record_at k.records x ≡ Some rec
  its_record rec x present one at =
      let low = at.within in
      let name = has_name_true (name_of rec) (records.record_at list at.place) at.its_name in
      ap (record_at k.records) (sym at.number) ∙ numbered.each at.place (omega arith)
      ∙ ap Some (one (get_or list at.place nothing) (Contains-get_or list at.place nothing at.within) name)

  -- a slot that is used so is noted so
  pub uses_note : (notes : List Note) → AreListed notes list → (at : ℕ) (its : Note) (u : SlotUse) →
      note_at notes at ≡ its →
      UsesNote list numbers its u → note_in k.records u ≡ its
  uses_note notes all at note.Blank u e h = ap (note_in k.records) h
  uses_note notes all at note.Damaged u e h = ap (note_in k.records) h
  uses_note notes all at (note.Holds rec) slot.Blank e h = absurd h
  uses_note notes all at (note.Holds rec) slot.Damaged e h = absurd h
  uses_note notes all at (note.Holds rec) (slot.Holds x) e h =
      let own = all (found at rec) (noted_in notes at rec (holds_within notes at rec e) e) in
      let is = its_record rec x (present_in list (found at rec) own)
      (λ f i same. agree f (found at rec) i own same) h in
      ap (λ o. option_map_or note.Holds o note.Damaged) is

-- the last slots are used as they were noted
pub record IsHolding (list : List Found) (numbers : List ℕ) (k t : TablesState) (notes : List Note)
    (count : ℕ) : Type 0 where
  pub rest : t ≡ record k { slots = t.slots }
  pub size : length t.slots ≡ length notes
  pub done : (a : ℕ) → length notes ≤ a + count → a < length notes →
      (note_in k.records (use_at t.slots a) ≡ note_at notes a)
      × UsesNote list numbers (note_at notes a) (use_at t.slots a)

module _ (list : List Found) (numbers : List ℕ) (k : TablesState) (notes : List Note) where
  pub all_held : (t : TablesState) (count : ℕ) → IsHolding list numbers k t notes count → length notes ≤ count →
      notes_in t ≡ notes
  all_held t count h all =
      ap (λ l. map (note_in l) t.slots) (ap (λ (v : TablesState). v.records) h.rest)
      ∙ ext_get_or note.Blank (map (note_in k.records) t.slots) notes (length-map t.slots (note_in k.records)
      ∙ h.size) (λ a low.
      let long = length-map t.slots (note_in k.records) in
      let size = h.size in
      get_or-map (note_in k.records) t.slots a slot.Blank ∙ (h.done a (omega arith) (omega arith)).0)

  -- a slot that holds a number holds one of a place
  pub all_placed : (t : TablesState) (count : ℕ) → IsHolding list numbers k t notes count →
      length notes ≤ count → (a x : ℕ) →
      use_at t.slots a ≡ slot.Holds x → (j : ℕ) × (j < length list) × (get_or numbers j 0 ≡ x)
  all_placed t count h all a x e = elim (cases_lt a (length t.slots)) [
    | inl low ↦ (let size = h.size in of_note (note_at notes a)
        (subst (UsesNote list numbers (note_at notes a)) e (h.done a (omega arith) (omega arith)).1))
    | inr past ↦ (let bare : slot.Blank ≡ slot.Holds x = sym (get_or_past t.slots a slot.Blank past) ∙ e in absurd cc)
  ]
    where
      of_note : (its : Note) → UsesNote list numbers its (slot.Holds x) → (j : ℕ) × (j < length list)
          × (get_or numbers j 0 ≡ x)
      of_note note.Blank h = (let other : slot.Holds x ≡ slot.Blank = h in absurd cc)
      of_note note.Damaged h = (let other : slot.Holds x ≡ slot.Damaged = h in absurd cc)
      of_note (note.Holds rec) h = (h.place, h.within, h.number)

-- slots that are used so by what is noted of them are used as they were noted
pub uses_held : (list : List Found) (numbers : List ℕ) (k t : TablesState) (all : List Seen) (scanned : List Found)
    (uses : List SlotUse)
    → AreNumbered list numbers k → length numbers ≡ length list → NamesAgree list →
    ((f : Found) → Contains scanned f → Contains list f)
    → (h : AreUses list numbers all scanned uses) → t ≡ record k { slots = uses } →
    IsHolding list numbers k t h.notes (length h.notes)
uses_held list numbers k t all scanned uses numbered whole agree listed h e = record {
  rest = e ∙ ap (λ (s : List SlotUse). record k { slots = s }) (sym (ap (λ (v : TablesState). v.slots) e));
  size = ap (λ (v : TablesState). length v.slots) e ∙ h.size;
  done = λ a low high.
      let slots = ap (λ (v : TablesState). v.slots) e in
      let its = h.each a high in
      let own : AreListed h.notes list = λ f i. listed f (subst (λ l. Contains l f) h.found i) in (
        ap (λ s. note_in k.records (use_at s a)) slots
            ∙ uses_note list numbers k numbered whole agree h.notes own a (note_at h.notes a) (use_at uses a) refl its,
        subst (λ s. UsesNote list numbers (note_at h.notes a) (use_at s a)) (sym slots) its,
      );
}

-- a slot is noted blank or damaged, or holds a record
unnoted : (its : Note) (u : SlotUse) (how : Seen) → seen_as its ≡ how → ((rec : Rec) → its ≡ note.Holds rec → ⊥) →
    u ≡ first_use how →
    (list : List Found) (numbers : List ℕ)
    → UsesNote list numbers its u
unnoted note.Blank u how e none is list numbers = is ∙ ap first_use (sym e)
unnoted note.Damaged u how e none is list numbers = is ∙ ap first_use (sym e)
unnoted (note.Holds rec) u how e none is list numbers = absurd (none rec refl)

-- slots in which the records of a scan were put are used by what is noted of them
pub put_used : (list : List Found) (numbers : List ℕ) (all : List Seen) (scanned : List Found)
    (before uses : List SlotUse)
    → slots scanned ≡ complete_slots all
    → ((f : Found) → Contains scanned f → Contains list f) → ((f : Found) → Contains list f → Contains scanned f)
    → before ≡ map first_use all → ArePut list numbers before (length list) uses →
    AreUses list numbers all scanned uses
put_used list numbers all scanned before uses complete listed known first put =
    let (its_notes, reads, its_found) = scanned_notes all scanned complete in
    let long : length its_notes ≡ length all = sym (length-map its_notes seen_as) ∙ ap length reads in
    let size : length before ≡ length all = ap length first ∙ length-map all first_use in
    record {
      notes = its_notes;
      reads = reads;
      found = its_found;
      size = put.size ∙ size ∙ sym long;
      each = λ at low. elim (put.each at (omega arith)) [
        | inl (j, last, within, there, is) ↦
            let f = get_or list j nothing in
            let stands = noted_from its_notes f (subst (λ l. Contains l f) (sym its_found)
            (known f (Contains-get_or list j nothing within))) in
            subst₂ (UsesNote list numbers) (sym stands.1 ∙ ap (note_at its_notes) there) (sym is)
            (record { place = j; within = within; number = refl; its_name = has_own_name (name_of f.rec) f.rec refl })
        | inr (none, is) ↦
            unnoted (note_at its_notes at) (use_at uses at) (get_or all at seen.Blank)
            (sym (get_or-map seen_as its_notes at note.Blank) ∙ ap (λ l. get_or l at seen.Blank) reads)
            (λ rec e.
            let f = found at rec in
            let own = listed f (subst (λ l. Contains l f) its_found (noted_in its_notes at rec low e)) in
            let k = at_from_Contains list f own in
            none k.0 (omega arith) k.1 (ap (λ g. g.slot.0) (k.2 nothing)))
            (is ∙ ap (λ l. use_at l at) first ∙ get_or-map first_use all at seen.Blank) list numbers
      ];
    }

-- and there are such slots
pub put_within : (list : List Found) (all : List Seen) (scanned : List Found) → slots scanned ≡ complete_slots all
    → ((f : Found) → Contains list f → Contains scanned f) → All (λ f. f.slot.0 < length all) list
put_within list all scanned complete known =
    let (its_notes, reads, its_found) = scanned_notes all scanned complete in
    let long : length its_notes ≡ length all = sym (length-map its_notes seen_as) ∙ ap length reads in
    all_from (λ f. f.slot.0 < length all) list (λ f i.
    let stands = noted_from its_notes f (subst (λ l. Contains l f) (sym its_found) (known f i)) in
    let low = stands.0 in
    omega arith)

-- one record more is put where it stands
pub put_more : (list : List Found) (numbers : List ℕ) (before : List SlotUse) (count place : ℕ)
    (uses : List SlotUse) → ArePut list numbers before count uses → place + count + 1 ≡ length list
    → (get_or list place nothing).slot.0 < length uses
    → ArePut list numbers before (count + 1) (set uses (get_or list place nothing).slot.0
    (slot.Holds (get_or numbers place 0)))
put_more list numbers before count place uses put next low =
    let there = (get_or list place nothing).slot.0 in
    let u = slot.Holds (get_or numbers place 0) in
    record {
      size = length-set uses there u ∙ put.size;
      each = λ at within. elim (cases_eq at there) [
        | inl here ↦ inl (
          place,
          omega arith,
          omega arith,
          sym here,
          ap (use_at (set uses there u)) here
              ∙ get_or-set_same uses there u slot.Blank low,
        )
        | inr off ↦
            let same = get_or-set_other uses there at u slot.Blank off in
            elim (put.each at within) [
              | inl (j, last, less, stands, is) ↦ inl (j, omega arith, less, stands, same ∙ is)
              | inr (none, is) ↦ inr (
                λ j last less stands. elim (cases_eq j place) [
                  | inl e ↦ off (sym stands ∙ ap (λ k. (get_or list k nothing).slot.0) e)
                  | inr other ↦ none j (omega arith) less stands
                ],
                same ∙ is,
              )
            ]
      ];
    }

-- at first none is
pub none_put : (list : List Found) (numbers : List ℕ) (uses : List SlotUse) → ArePut list numbers uses 0 uses
none_put list numbers uses = record {
  size = refl;
  each = λ at within. inr (λ j last less. absurd (omega arith), refl);
}

-- the first slots are used as they read, and the others are blank
pub record AreFirstUsed (all : List Seen) (k t : TablesState) (upto : ℕ) : Type 0 where
  pub rest : t ≡ record k { slots = t.slots }
  pub size : length t.slots ≡ length k.slots
  pub done : (a : ℕ) → a < upto → use_at t.slots a ≡ first_use (get_or all a seen.Blank)
  pub others : (a : ℕ) → upto ≤ a → use_at t.slots a ≡ slot.Blank

module _ (all : List Seen) (k : TablesState) where
  pub none_used : ((a : ℕ) → use_at k.slots a ≡ slot.Blank) → AreFirstUsed all k k 0
  none_used blank = record {
    rest = refl;
    size = refl;
    done = λ a low. absurd (omega arith);
    others = λ a from. blank a;
  }

  pub one_used : (t : TablesState) (at : ℕ) → AreFirstUsed all k t at → at < length t.slots →
      AreFirstUsed all k (record t { slots = set t.slots at (first_use (get_or all at seen.Blank)) }) (at + 1)
  one_used t at h low =
      let u = first_use (get_or all at seen.Blank) in
      record {
        rest = ap (λ (v : TablesState). record v { slots = set t.slots at u }) h.rest;
        size = length-set t.slots at u ∙ h.size;
        done = λ a less. elim (cases_eq a at) [
          | inl here ↦ ap (use_at (set t.slots at u)) here ∙ get_or-set_same t.slots at u slot.Blank low
              ∙ ap (λ i. first_use (get_or all i seen.Blank)) (sym here)
          | inr off ↦ get_or-set_other t.slots at a u slot.Blank off ∙ h.done a (omega arith)
        ];
        others = λ a from. get_or-set_other t.slots at a u slot.Blank (λ here. omega arith)
            ∙ h.others a (omega arith);
      }

  pub all_used : (t : TablesState) (upto : ℕ) → AreFirstUsed all k t upto → length k.slots ≡ length all →
      length all ≤ upto → t ≡ record k { slots = map first_use all }
  all_used t upto h size whole =
      h.rest ∙ ap (λ (s : List SlotUse). record k { slots = s })
      (ext_get_or slot.Blank t.slots (map first_use all) (h.size ∙ size ∙ sym (length-map all first_use))
      (λ a low. let long = h.size in
      h.done a (omega arith) ∙ sym (get_or-map first_use all a seen.Blank)))

-- a blank slot that is made blank stays so
pub stays_blank : (k : TablesState) (at : ℕ) (u : SlotUse) → use_at k.slots at ≡ slot.Blank → u ≡ slot.Blank →
    k ≡ record k { slots = set k.slots at u }
stays_blank k at u blank is =
    ap (λ (s : List SlotUse). record k { slots = s })
    (sym (ap (set k.slots at) (is ∙ sym blank) ∙ set-get_or k.slots at slot.Blank))
