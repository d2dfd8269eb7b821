-- A record that is wanted and noted stands in the image too, outside the place whose contents are not known.
use Rattle.collector.proofs.Common.{◌≡◌, ℕ, ◌<◌, true, false, not, eqb-true, List, length, Contains, refl, sym, ap, ◌∙◌, subst, inl, inr, arith, ◌==◌, cases_Bool, All-contains, from_filter, shape_of, slots_of, Link, FlashState, slot_at, Found, cur, name_of, is_present, left, Written, is_outside, is_wanted, found_named, present_as, counted_wanted, pinned_wanted, Blank, Holds, records_in, written_in, found_in, note_at, IndexState, current_of, current_name_of, pinned_names, noted_from, BlocksState, Unsure, is_unsure, Matches, CanSpare, IsThere}
use Rattle.record_list.specs.Written.{found_of}
use Rattle.record_list.proofs.OfChanges.WrittenLists.{in_records}
use Rattle.judged_records.proofs.OfLaws.ImageScans.{written, read_slot}
use Rattle.collector.specs.declared.unsure.Unsure.TheVariants as unsure
use Rattle.collector.proofs.OfNotes.SpelledNotes.{noted_record}

module _ (s : FlashState) (n : IndexState) (t : BlocksState) (u : Unsure) (m : Matches s n t u) where
  abbrev list : List Found
  list = found_in n.notes

  -- a record of a slot outside the unsure place is one of the image
  sure_written : (f : Found) → Contains list f → is_unsure s.shape t.spare u f.slot.0 ≡ false →
      (w : Written) × Contains (written_in n.config.protocol s.image) w × (w.rec ≡ f.rec)
  sure_written f i sure =
      let at = noted_from n.notes f i in
      let slots = m.noted.slots in
      let within : f.slot.0 < slots_of s.shape = (let low = at.0 in omega (arith, ap slots_of m.shape)) in
      let reads = noted_record n.config.protocol f.rec (slot_at s.image f.slot.0) (sym at.1
      ∙ m.sure f.slot.0 within sure) in
      let long : f.slot.0 < length s.image = omega (arith, m.flash.slots) in (
        written f.slot.0 f.rec reads.bytes,
        read_slot n.config.protocol s.image f.slot.0 reads.bytes reads.spare f.rec long reads.is reads.spells,
        refl,
      )

abbrev IsWanted : IndexState → Link → Type 0
IsWanted n name = (f : Found) → Contains (found_in n.notes) f → name_of f.rec ≡ name →
    is_wanted n.config.protocol (found_in n.notes) n.config.logical (pinned_names n.pins) f.rec ≡ true

-- a noted record of this name outside the unsure place
record IsSure (s : FlashState) (n : IndexState) (t : BlocksState) (u : Unsure) (name : Link) : Type 0 where
  pub found : Found
  pub is_in : Contains (found_in n.notes) found
  pub named : name_of found.rec ≡ name
  pub sure : is_unsure s.shape t.spare u found.slot.0 ≡ false

-- outside a block that can be spared
outside_one : (s : FlashState) (n : IndexState) (t : BlocksState) (u : Unsure) (m : Matches s n t u) (block : ℕ) →
    CanSpare n block → (name : Link) → IsThere n name →
    IsWanted n name →
    (f : Found) × Contains (found_in n.notes) f × (name_of f.rec ≡ name)
    × (not (is_outside s.shape block f.slot.0) ≡ false)
outside_one s n t u m block spared name there wanted =
    let f = found_named (found_in n.notes) name there in
    let stays = All-contains (λ f. is_wanted n.config.protocol (found_in n.notes) n.config.logical (pinned_names n.pins)
    f.rec ≡ true →
    is_present (left (is_outside (shape_of n.config) block) (found_in n.notes)) (name_of f.rec) ≡ true)
    (found_in n.notes) f.0 spared f.1
    (wanted f.0 f.1 f.2) in
    let g = found_named (left (is_outside (shape_of n.config) block) (found_in n.notes)) name
    (subst (λ y. is_present (left (is_outside (shape_of n.config) block) (found_in n.notes)) y ≡ true) f.2 stays) in
    let parts = from_filter (λ f. is_outside (shape_of n.config) block f.slot.0) g.0 (found_in n.notes) g.1 in
    (g.0, parts.0, g.2, ap not (ap (λ sh. is_outside sh block g.0.slot.0) m.shape ∙ parts.1))

-- a slot that is noted as blank holds none
not_blank : (n : IndexState) (at : ℕ) → note_at n.notes at ≡ Blank → (f : Found) → Contains (found_in n.notes) f →
    (f.slot.0 == at) ≡ false
not_blank n at was f i = elim (cases_Bool (f.slot.0 == at)) [
  | inl here ↦ (let k : Holds f.rec ≡ Blank = sym (noted_from n.notes f i).1
      ∙ ap (note_at n.notes) (eqb-true f.slot.0 at here) ∙ was in cc)
  | inr other ↦ other
]

sure_one : (s : FlashState) (n : IndexState) (t : BlocksState) (u : Unsure) → Matches s n t u → (name : Link) →
    IsThere n name → IsWanted n name → IsSure s n t u name
sure_one s n t unsure.Nothing m name there wanted =
    let f = found_named (found_in n.notes) name there in
    record { found = f.0; is_in = f.1; named = f.2; sure = refl }
sure_one s n t (unsure.Own at rec) m name there wanted =
    let f = found_named (found_in n.notes) name there in
    record { found = f.0; is_in = f.1; named = f.2; sure = not_blank n at.0 m.place.1 f.0 f.1 }
sure_one s n t (unsure.Copy from to) m name there wanted =
    let f = found_named (found_in n.notes) name there in
    record { found = f.0; is_in = f.1; named = f.2; sure = not_blank n to.0 m.place.2 f.0 f.1 }
sure_one s n t unsure.SpareErase m name there wanted =
    let f = outside_one s n t unsure.SpareErase m t.spare m.spared name there wanted in
    record { found = f.0; is_in = f.1; named = f.2; sure = f.3 }
sure_one s n t (unsure.VictimErase block) m name there wanted =
    let f = outside_one s n t (unsure.VictimErase block) m block.0 m.victim name there wanted in
    record { found = f.0; is_in = f.1; named = f.2; sure = f.3 }

-- a record of this name that is noted and stands in the image
pub record IsNotedAndWritten (s : FlashState) (n : IndexState) (name : Link) : Type 0 where
  pub found : Found
  pub written : Written
  pub noted : Contains (found_in n.notes) found
  pub reads : Contains (written_in n.config.protocol s.image) written
  pub named : name_of found.rec ≡ name
  pub same : written.rec ≡ found.rec

is_written : (s : FlashState) (n : IndexState) (name : Link) → IsNotedAndWritten s n name →
    is_present (records_in n.config.protocol s.image) name ≡ true
is_written s n name h =
    present_as (records_in n.config.protocol s.image) (found_of h.written) name
    (in_records (written_in n.config.protocol s.image) h.written h.reads)
    (ap name_of h.same ∙ h.named)

module _ (s : FlashState) (n : IndexState) (t : BlocksState) (u : Unsure) (m : Matches s n t u) where
  wanted_written : (name : Link) → IsThere n name → IsWanted n name → IsNotedAndWritten s n name
  wanted_written name there wanted =
      let f = sure_one s n t u m name there wanted in
      let w = sure_written s n t u m f.found f.is_in f.sure in
      record { found = f.found; written = w.0; noted = f.is_in; reads = w.1; named = f.named; same = w.2 }

  -- a current name that is noted has a record that is noted and stands in the image
  pub current_written : (page : ℕ) → IsThere n (current_name_of n page) → IsNotedAndWritten s n (current_name_of n page)
  unfolding current_of
  current_written page there = wanted_written (current_name_of n page) there (λ f i named.
      let at_page : f.rec.page ≡ page = ap (λ (y : Link). y.page) named in
      let version : f.rec.version ≡ cur n.config.protocol (found_in n.notes) n.config.logical page =
      ap (λ (y : Link). y.version) named in
      counted_wanted n.config.protocol (found_in n.notes) n.config.logical (pinned_names n.pins) f.rec
      (inl (version ∙ ap (cur n.config.protocol (found_in n.notes) n.config.logical) (sym at_page))))

  -- so it is in the image
  pub current_present : (page : ℕ) → IsThere n (current_name_of n page) →
      is_present (records_in n.config.protocol s.image) (current_name_of n page) ≡ true
  current_present page there = is_written s n (current_name_of n page) (current_written page there)

  -- and so is a pinned one
  pub pinned_present : (name : Link) → IsThere n name → Contains (pinned_names n.pins) name →
      is_present (records_in n.config.protocol s.image) name ≡ true
  pinned_present name there pin = is_written s n name (wanted_written name there (λ f i named.
      pinned_wanted n.config.protocol (found_in n.notes) n.config.logical (pinned_names n.pins) f.rec
      (subst (Contains (pinned_names n.pins)) (sym named) pin)))
