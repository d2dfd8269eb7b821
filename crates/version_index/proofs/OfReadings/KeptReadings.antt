-- What is read of the tables, by what was noted.
use Rattle.version_index.proofs.Common.{◌≡◌, ℕ, ◌<◌, Bool, true, false, eqb, ◌&&◌, cond, List, [], ◌∷◌, ◌+◌, ◌*◌, ap₂, length, get_or, count_by, Option, Some, None, refl, sym, ap, ◌∙◌, inl, inr, eq-eqb, eqb-true, range_with_len, option_map_or, false≢true, cases_Bool, cases_lt, none-some, get_or_past, All-contains, Contains-get_or, at_from_Contains, cases_Option, Rec, Config, Protocol, Shape, shape_of, name_of, has_name, is_outside, has_name_true, SlotUse, TablesState, use_at, copies_of, number_in, is_number, note_at, rec_of, found_in, current_of, current_name_of, discarded_of, home_of, slot_off, needed_of, name_at, rec_at, named, version_at, note_in, notes_in, noted_by, numbered_of, AreIndexed}
use Rattle.std.proofs.Common.{◌||◌, find}
use Rattle.std.specs.Option.{option_and_then}
use Rattle.std.specs.List.{list_any}
use Rattle.std.proofs.lemmas.List.Sums.{sum_by-cons}
use Rattle.std.proofs.lemmas.Bool.{and_left}
use Rattle.list_lemmas.proofs.Values.{one_test}
use Rattle.list_lemmas.proofs.Tests.{any_of, any_from}
use Rattle.record_list.specs.Written.{is_garbage, is_slot}
use Rattle.record_list.proofs.OfFacts.Names.{absent_record, present_as}
use Rattle.slot_tables.specs.declared.slots.SlotUse.TheVariants as slot
use Rattle.judged_records.specs.declared.note.Note.TheVariants as note
use Rattle.judged_records.specs.IndexState as noted
use Rattle.slot_tables.specs.TablesState.{is_blank, is_garbage_at, garbage_of, shut_or_part, home, copy_off, is_wanted, is_wanted_as}
use Rattle.slot_tables.specs.TablesState.{is_needed, is_needed_for, is_answerer}
use Rattle.judged_records.specs.Derived.{wanted_of}
use Rattle.judged_records.specs.Numbered.{number_at}
use Rattle.judged_records.specs.IndexState.{held_of}
use Rattle.judged_records.proofs.OfNotes.FoundIn.{found, noted_in, holds_within}
use Rattle.judged_records.proofs.OfNotes.Derived.{name_at_is}
use Rattle.judged_records.proofs.OfReadings.LowestSlots.{off_none}
use Rattle.judged_records.proofs.OfNotes.NotedFacts.{home_missing, noted_discard, noted_positive}
use Rattle.judged_records.proofs.OfNotes.Numbered.{named_some}
use Rattle.judged_records.proofs.OfReadings.NumberedReadings.{uncurrent_number, current_number, held_number}
use Rattle.judged_records.proofs.OfReadings.Readings.{wanted_reading, needed_reading, unneeded_reading}
use Rattle.version_index.specs.Tables.{discard_at}
use Rattle.version_index.proofs.OfReadings.KeptHomes.{kept_home, kept_off}
use Rattle.version_index.proofs.OfTables.KeptNotes.{note_by, note_held, kept_found, numbering}

-- a number is the one that stands there
number_is : (x : ℕ) (o : Option ℕ) → is_number x o ≡ true → o ≡ Some x
number_is x None e = absurd (false≢true e)
number_is x (Some y) e = ap Some (eqb-true y x e)

is_number_of : (x : ℕ) (o : Option ℕ) → o ≡ Some x → is_number x o ≡ true
is_number_of x o e = ap (is_number x) e ∙ eq-eqb x x refl

-- some item of a list passes where some index has one
any_at : (p : Option ℕ → Bool) (xs : List (Option ℕ)) → list_any p xs ≡ true → (y : ℕ) × (p (number_at xs y) ≡ true)
any_at p xs e =
    let some = any_of p xs e in
    let place = at_from_Contains xs some.0 some.1 in
    (place.0, ap p (place.2 None) ∙ some.2)

at_any : (x : ℕ) (xs : List (Option ℕ)) (y : ℕ) → number_at xs y ≡ Some x → is_answerer xs x ≡ true
at_any x xs y e = elim (cases_lt y (length xs)) [
  | inl within ↦ any_from (is_number x) xs (number_at xs y) (Contains-get_or xs y None within)
      (is_number_of x (number_at xs y) e)
  | inr past ↦ absurd (none-some x (sym (get_or_past xs y None past) ∙ e))
]

pub count_same : (p q : ℕ → Bool) (xs : List ℕ) → ((x : ℕ) → p x ≡ q x) → count_by p xs ≡ count_by q xs
count_same p q [] h = refl
count_same p q (x ∷ xs) h = sum_by-cons (λ y. cond (p y) 1 0) x xs
    ∙ ap₂ (λ b c. cond b 1 0 + c) (h x) (count_same p q xs h)
    ∙ sym (sum_by-cons (λ y. cond (q y) 1 0) x xs)

-- a slot is blank where it is noted so
pub blank_reading : (k : TablesState) (at : ℕ) → is_blank (use_at k.slots at) ≡ noted.is_blank (note_at (notes_in k) at)
blank_reading k at = of_use (use_at k.slots at) ∙ ap noted.is_blank (sym (note_by k at))
  where
    of_use : (u : SlotUse) → is_blank u ≡ noted.is_blank (note_in k.records u)
    of_use slot.Blank = refl
    of_use slot.Damaged = refl
    of_use (slot.Holds x) = elim (cases_Option (rec_at k.records x)) [
      | inl none ↦ sym (ap (λ o. noted.is_blank (option_map_or note.Holds o note.Damaged)) none)
      | inr some ↦ sym (ap (λ o. noted.is_blank (option_map_or note.Holds o note.Damaged)) some.1)
    ]

-- the record of a page's current number
pub record IsCurrentRecord (k : TablesState) (page version x : ℕ) : Type 0 where
  pub rec : Rec
  pub is : rec_at k.records x ≡ Some rec
  pub name : name_of rec ≡ record { page = page; version = version }

module _ (protocol : Protocol) (its : Config) (m : List ℕ) (k : TablesState) (i : AreIndexed protocol its m k) where
  pub current_record : (page x : ℕ) → page < its.logical → number_at k.current page ≡ Some x →
      IsCurrentRecord k page (current_of (noted_by its m k) page) x
  current_record page x below e =
      let n = noted_by its m k in
      let o = name_at page (current_of n page) in
      let some = named_some k.records o x (ap (named k.records) (sym e) ∙ i.judged.current page below) in
      record { rec = some.0; is = some.1; name = (name_at_is page (current_of n page) (name_of some.0) some.2).1 }

  pub current_none : (page : ℕ) → page < its.logical → number_at k.current page ≡ None →
      current_of (noted_by its m k) page ≡ 0
  current_none page below e = (uncurrent_number (numbered_of k) (noted_by its m k) (numbering protocol its m k i)
      page below).0 e

  -- where the current record of a page is read
  pub read_home : (page : ℕ) → page < its.logical →
      option_and_then (home k) (number_at k.current page)
      ≡ home_of (noted_by its m k) (current_name_of (noted_by its m k) page)
  read_home page below =
      let n = noted_by its m k in
      elim (cases_Option (number_at k.current page)) [
        | inl none ↦ ap (option_and_then (home k)) none
            ∙ sym (home_missing protocol n i.noted page (current_none page below none))
        | inr some ↦ (
            let c = current_record page some.0 below some.1 in
            ap (option_and_then (home k)) some.1
            ∙ ap (λ s. home (record k { shape = s }) some.0) i.shape
            ∙ kept_home its m k i.held some.0 c.rec c.is
            ∙ ap (home_of n) c.name)
      ]

  -- a page with no current version has no slot
  off_missing : (page block : ℕ) → current_of (noted_by its m k) page ≡ 0 →
      slot_off (noted_by its m k) block (current_name_of (noted_by its m k) page) ≡ None
  off_missing page block none =
      let n = noted_by its m k in
      let name = current_name_of n page in
      off_none n name block (λ at s here. and_left (has_name name s) (is_outside (shape_of its) block at)
      (elim (cases_Bool (has_name name s)) [
        | inl same ↦ absurd (false≢true (sym (noted_positive protocol n i.noted name none)
            ∙ present_as (found_in n.notes) (found at s) name
            (noted_in n.notes at s (holds_within n.notes at s here) here) (has_name_true name s same)))
        | inr other ↦ other
      ]))

  -- its lowest slot outside a block
  pub read_off : (page block : ℕ) → page < its.logical →
      option_and_then (copy_off k block) (number_at k.current page)
      ≡ slot_off (noted_by its m k) block (current_name_of (noted_by its m k) page)
  read_off page block below =
      let n = noted_by its m k in
      elim (cases_Option (number_at k.current page)) [
        | inl none ↦ ap (option_and_then (copy_off k block)) none
            ∙ sym (off_missing page block (current_none page below none))
        | inr some ↦ (
            let c = current_record page some.0 below some.1 in
            ap (option_and_then (copy_off k block)) some.1
            ∙ ap (λ s. find (is_outside s block) (copies_of k.slots some.0)) i.shape
            ∙ kept_off its m k i.held some.0 c.rec c.is block
            ∙ ap (slot_off n block) c.name)
      ]

  -- the version of the current record
  pub read_current : (page : ℕ) → page < its.logical →
      version_at k (number_at k.current page) ≡ current_of (noted_by its m k) page
  read_current page below =
      let version : ℕ → ℕ = λ x. option_map_or (λ r. r.version) (rec_at k.records x) 0 in
      elim (cases_Option (number_at k.current page)) [
        | inl none ↦ ap (λ o. option_map_or version o 0) none ∙ sym (current_none page below none)
        | inr some ↦ (
            let c = current_record page some.0 below some.1 in
            ap (λ o. option_map_or version o 0) some.1 ∙ ap (λ o. option_map_or (λ r. r.version) o 0) c.is
            ∙ ap (λ l. l.version) c.name)
      ]

  -- whether the current record discards its page
  pub read_discard : (page : ℕ) → page < its.logical →
      discard_at k (number_at k.current page) ≡ discarded_of (noted_by its m k) page
  unfolding discarded_of
  read_discard page below =
      let n = noted_by its m k in
      let l = found_in n.notes in
      let discard : ℕ → Bool = λ x. option_map_or (λ r. r.discard) (rec_at k.records x) false in
      elim (cases_Option (number_at k.current page)) [
        | inl none ↦ ap (λ o. option_map_or discard o false) none
            ∙ sym (ap (λ r. r.discard) (absent_record l (current_name_of n page)
            (noted_positive protocol n i.noted _ (current_none page below none))))
        | inr some ↦ (
            let c = current_record page some.0 below some.1 in
            let used = i.held.used some.0 c.rec c.is in
            ap (λ o. option_map_or discard o false) some.1 ∙ ap (λ o. option_map_or (λ r. r.discard) o false) c.is
            ∙ noted_discard protocol n i.noted page used.0 c.rec (note_held k used.0 some.0 c.rec used.1 c.is) c.name)
      ]

  -- a record is wanted where its number is
  number_current : (x : ℕ) (r : Rec) → rec_at k.records x ≡ Some r →
      is_number x (number_at k.current r.page) ≡ eqb r.version (current_of (noted_by its m k) r.page)
  number_current x r is =
      let n = noted_by its m k in
      let both = current_number protocol n i.noted (numbered_of k) (numbering protocol its m k i) x r is in
      one_test _ _
      (λ e. eq-eqb r.version (current_of n r.page) (sym (both.0 (number_is x (number_at k.current r.page) e))))
      (λ e. is_number_of x (number_at k.current r.page) (both.1 (sym (eqb-true r.version (current_of n r.page) e))))

  number_held : (x : ℕ) (r : Rec) → rec_at k.records x ≡ Some r →
      is_answerer k.answerers x ≡ held_of (noted_by its m k) r
  number_held x r is =
      let n = noted_by its m k in
      let both = held_number protocol n i.noted (numbered_of k) (numbering protocol its m k i) x r is in
      one_test _ _
      (λ e. (let y = any_at (is_number x) k.answerers e in both.1 (y.0, number_is x (number_at k.answerers y.0) y.1)))
      (λ e. (let y = both.0 e in at_any x k.answerers y.0 y.1))

  pub number_wanted : (x : ℕ) (r : Rec) → rec_at k.records x ≡ Some r → is_wanted k x ≡ wanted_of (noted_by its m k) r
  number_wanted x r is =
      let n = noted_by its m k in
      let f = kept_found k i.held x r is in
      let pin = eqb r.version (get_or k.pins r.page 0) in
      ap (λ o. option_map_or (is_wanted_as k x) o false) is
      ∙ ap (λ b. (b || is_answerer k.answerers x) || pin) (number_current x r is)
      ∙ ap (λ b. (eqb r.version (current_of n r.page) || b) || pin) (number_held x r is)
      ∙ sym (All-contains (λ g. wanted_of n g.rec ≡ ((eqb g.rec.version (current_of n g.rec.page) || held_of n g.rec)
      || eqb g.rec.version (get_or n.pins g.rec.page 0))) (found_in n.notes) (found f.0 r)
      (wanted_reading protocol n i.noted) f.2)

  -- a slot is needed where the tables say so
  pub read_needed : (at : ℕ) → is_needed k at ≡ needed_of (noted_by its m k) at
  unfolding is_needed
  read_needed at = by_use (use_at k.slots at) refl
    where
      by_use : (u : SlotUse) → use_at k.slots at ≡ u → is_needed_for k at (number_in (use_at k.slots at))
          ≡ needed_of (noted_by its m k) at
      by_use slot.Blank e = ap (λ u. is_needed_for k at (number_in u)) e
          ∙ sym (unneeded_reading (noted_by its m k) at (ap rec_of (note_by k at ∙ ap (note_in k.records) e)))
      by_use slot.Damaged e = ap (λ u. is_needed_for k at (number_in u)) e
          ∙ sym (unneeded_reading (noted_by its m k) at (ap rec_of (note_by k at ∙ ap (note_in k.records) e)))
      by_use (slot.Holds x) e =
          let n = noted_by its m k in
          let r = i.held.held at x e in
          ap (λ u. is_needed_for k at (number_in u)) e
          ∙ ap (λ o. is_slot at o && is_wanted k x)
          (ap (λ s. home (record k { shape = s }) x) i.shape ∙ kept_home its m k i.held x r.0 r.1)
          ∙ ap (λ b. is_slot at (home_of n (name_of r.0)) && b) (number_wanted x r.0 r.1)
          ∙ sym (needed_reading n at r.0 (note_held k at x r.0 e r.1))

  -- and a block's garbage is as much
  pub read_garbage : (block : ℕ) (shut : Bool) → garbage_of k shut block
      ≡ noted.garbage_of (noted_by its m k) block shut
  unfolding garbage_of noted.garbage_of
  read_garbage block shut =
      let n = noted_by its m k in
      let state = shut_or_part shut in
      let p = k.shape.pages_per_block in
      let test : (at : ℕ) → is_garbage_at k state at ≡ noted.is_garbage_at n state at =
      λ at. ap (λ b. is_garbage state b (is_needed k at)) (blank_reading k at)
      ∙ ap (λ b. is_garbage state (noted.is_blank (note_at (notes_in k) at)) b) (read_needed at) in
      ap (λ c. cond (is_slot block k.spare) 0 c)
      (count_same (is_garbage_at k state) (noted.is_garbage_at n state) (range_with_len (block * p) p) test
      ∙ ap (λ (s : Shape). count_by (noted.is_garbage_at n state)
      (range_with_len (block * s.pages_per_block) s.pages_per_block)) i.shape)
