-- The records of an image as its slots change.
use Rattle.judged_records.proofs.Common.{◌≡◌, ℕ, ◌+◌, ◌*◌, ◌<◌, ◌≤◌, Bool, true, false, List, length, get_or, set, AllPairs, Option, Some, None, refl, sym, ap, ◌∙◌, subst, arith, Contains, if◌then◌else◌, option_map, none-some, same_Some, all_from, blocks_of, Protocol, Shape, Rec, Contents, blank, damaged, complete, slot_at, block_within, record_of, IsInserted, Written, found_of, written_in, records_in}
use Rattle.std.proofs.lemmas.List.Elements.{All-map}
use Rattle.list_lemmas.proofs.Pairs.{pairs_to}
use Rattle.flash_model.specs.Flash.{IsImage}
use Rattle.flash_model.specs.Operations.{with_block}
use Rattle.judged_records.proofs.OfNotes.Blocks.{given-with_item}
use Rattle.page_record.proofs.Spellings.{record_of-some}
use Rattle.record_list.specs.WrittenChanges.{left_outside}
use Rattle.record_list.specs.Losses.{left_written}
use Rattle.record_list.specs.Records.{IsScanned}
use Rattle.judged_records.specs.Images.{written_at}
use Rattle.judged_records.proofs.OfNotes.BaseTables.{given, given-inserted, given-unchanged, given_from, given_in, given_ascending, given_same, chosen, given-chosen}

-- a numbered slot with its record
abbrev pub read_at : Protocol → ℕ × Contents → Option Written
read_at protocol (slot, contents) = written_at protocol slot contents

-- a record of a slot with its bytes
abbrev pub written : ℕ → Rec → List ℕ → Written
written slot rec bytes = record { slot = record { 0 = slot }; rec = rec; bytes = bytes }

pub written_in_is : (p : Protocol) (image : List Contents) → written_in p image ≡ given (read_at p) 0 image
unfolding written_in
written_in_is p image = refl

-- a slot's record is that of its spare area
pub record Reads (p : Protocol) (slot : ℕ) (contents : Contents) (w : Written) : Type 0 where
  pub place : w.slot.0 ≡ slot
  pub bytes : List ℕ
  pub spare : List ℕ
  pub is : contents ≡ complete bytes spare
  pub spells : record_of p spare ≡ Some w.rec
  pub page : w.bytes ≡ bytes

reads_some : (p : Protocol) (slot : ℕ) (bytes spare : List ℕ) (w : Written) (o : Option Rec) → record_of p spare ≡ o →
    option_map (λ rec. written slot rec bytes) o ≡ Some w → Reads p slot (complete bytes spare) w
reads_some p slot bytes spare w None is e = absurd (none-some w e)
reads_some p slot bytes spare w (Some rec) is e =
    let same : written slot rec bytes ≡ w = same_Some (written slot rec bytes) w e in
    record {
      place = sym (ap (λ (v : Written). v.slot.0) same);
      bytes = bytes;
      spare = spare;
      is = refl;
      spells = is ∙ ap (λ (v : Written). Some v.rec) same;
      page = sym (ap (λ (v : Written). v.bytes) same);
    }

pub reads : (p : Protocol) (slot : ℕ) (contents : Contents) (w : Written) → written_at p slot contents ≡ Some w →
    Reads p slot contents w
reads p slot blank w e = absurd (none-some w e)
reads p slot damaged w e = absurd (none-some w e)
reads p slot (complete bytes spare) w e = reads_some p slot bytes spare w (record_of p spare) refl e

placed : (p : Protocol) (m : ℕ) (x : Contents) (w : Written) → read_at p (m, x) ≡ Some w → w.slot.0 ≡ m
placed p m x w e = (reads p m x w e).place

-- a record of an image is that of one of its slots
pub record IsRead (p : Protocol) (image : List Contents) (w : Written) : Type 0 where
  pub within : w.slot.0 < length image
  pub reads : Reads p w.slot.0 (slot_at image w.slot.0) w

pub is_read : (p : Protocol) (image : List Contents) (w : Written) → Contains (written_in p image) w → IsRead p image w
is_read p image w i =
    let h = given_from (read_at p) 0 image w (subst (λ l. Contains l w) (written_in_is p image) i) in
    let r = reads p (0 + h.at) (get_or image h.at blank) w (h.from blank) in
    let at : w.slot.0 ≡ h.at = (let e = r.place in omega arith) in
    let back : h.at ≡ w.slot.0 = sym at in
    let zero_at : 0 + h.at ≡ w.slot.0 = omega arith in
    record {
      within = (let w = h.within in omega (arith, at));
      reads = subst (λ k. Reads p k (get_or image w.slot.0 blank) w) zero_at
          (subst (λ k. Reads p (0 + h.at) (get_or image k blank) w) back r);
    }

-- the records of an image are scanned
ascending_written : (p : Protocol) (image : List Contents) → AllPairs (λ v w. v.slot.0 < w.slot.0) (written_in p image)
ascending_written p image =
    subst (λ l. AllPairs (λ v w. v.slot.0 < w.slot.0) l) (sym (written_in_is p image))
    (given_ascending (read_at p) (λ w. w.slot.0) (placed p) 0 image)

versions_written : (p : Protocol) (image : List Contents) (w : Written) → Contains (written_in p image) w →
    (1 ≤ w.rec.version) × (1 ≤ w.rec.next.version)
versions_written p image w i =
    let r = (is_read p image w i).reads in
    let spelled = (record_of-some p r.spare w.rec r.spells).0 in
    (spelled.version_least, spelled.next_version_least)

pub records_scanned : (p : Protocol) (image : List Contents) → IsScanned (records_in p image)
records_scanned p image = record {
  ascending = pairs_to found_of (λ f g. f.slot.0 < g.slot.0) (written_in p image) (ascending_written p image);
  versions = All-map (λ f. (1 ≤ f.rec.version) × (1 ≤ f.rec.next.version)) found_of (written_in p image)
      (all_from (λ w. (1 ≤ w.rec.version) × (1 ≤ w.rec.next.version)) (written_in p image) (versions_written p image));
}

read_complete : (p : Protocol) (slot : ℕ) (bytes spare : List ℕ) (rec : Rec) → record_of p spare ≡ Some rec →
    written_at p slot (complete bytes spare) ≡ Some (written slot rec bytes)
read_complete p slot bytes spare rec e = ap (option_map (λ r. written slot r bytes)) e

-- a complete slot's record is one of the image's
pub read_slot : (p : Protocol) (image : List Contents) (at : ℕ) (bytes spare : List ℕ) (rec : Rec) → at < length image →
    slot_at image at ≡ complete bytes spare → record_of p spare ≡ Some rec →
    Contains (written_in p image) (written at rec bytes)
read_slot p image at bytes spare rec within is spells =
    subst (λ l. Contains l (written at rec bytes)) (sym (written_in_is p image))
    (given_in (read_at p) 0 image at blank (written at rec bytes) within
    (ap (written_at p (0 + at)) is ∙ subst (λ k. written_at p k (complete bytes spare) ≡ Some (written at rec bytes))
    (omega arith)
    (read_complete p at bytes spare rec spells)))

-- a record in a slot that was blank is one more
read_blank : (p : Protocol) (slot : ℕ) (contents : Contents) → contents ≡ blank → written_at p slot contents ≡ None
read_blank p slot contents e = ap (written_at p slot) e

pub written_inserted : (p : Protocol) (image : List Contents) (at : ℕ) (bytes spare : List ℕ) (rec : Rec) →
    at < length image →
    slot_at image at ≡ blank → record_of p spare ≡ Some rec →
    IsInserted (written_in p image) (written at rec bytes) (written_in p (set image at (complete bytes spare)))
written_inserted p image at bytes spare rec within was spells =
    subst (λ l. IsInserted l (written at rec bytes) (written_in p (set image at (complete bytes spare))))
    (sym (written_in_is p image))
    (subst (λ m. IsInserted (given (read_at p) 0 image) (written at rec bytes) m)
    (sym (written_in_is p (set image at (complete bytes spare))))
    (given-inserted (read_at p) 0 image at blank (complete bytes spare) (written at rec bytes) within
    (read_blank p (0 + at) (get_or image at blank) was)
    (subst (λ k. written_at p k (complete bytes spare) ≡ Some (written at rec bytes)) (omega arith)
    (read_complete p at bytes spare rec spells))))

-- a slot that was blank and is damaged has none
pub written_damaged : (p : Protocol) (image : List Contents) (at : ℕ) → at < length image → slot_at image at ≡ blank →
    written_in p (set image at damaged) ≡ written_in p image
written_damaged p image at within was =
    written_in_is p (set image at damaged)
    ∙ given-unchanged (read_at p) 0 image at blank damaged within (read_blank p (0 + at) (get_or image at blank) was)
    refl
    ∙ sym (written_in_is p image)

-- contents without a record
abbrev pub HasNone : Protocol → Contents → Type 0
HasNone p contents = (slot : ℕ) → written_at p slot contents ≡ None

-- without a block, the records outside it are left
pub written_left : (p : Protocol) (shape : Shape) (image : List Contents) → IsImage shape image → (block : ℕ) →
    block < blocks_of shape →
    (contents : Contents) → HasNone p contents → written_in p (with_block shape image block contents)
    ≡ left_outside shape block (written_in p image)
written_left p shape image whole block below contents none =
    let some : 0 < shape.pages_per_block = (let b = whole.bounds.pages_least in omega arith) in
    let fits : block * shape.pages_per_block + shape.pages_per_block ≤ length image =
    omega (arith, whole.slots, block_within shape block below) in
    written_in_is p (with_block shape image block contents)
    ∙ given-with_item shape some image block contents blank fits (read_at p) (λ w. w.slot.0) (placed p) none
    ∙ ap (left_outside shape block) (sym (written_in_is p image))

-- where slots are lost, the records of those that stay are left
pub written_lost : (p : Protocol) (keep : ℕ → Bool) (image image' : List Contents) → length image' ≡ length image →
    ((slot : ℕ) → keep slot ≡ true → slot_at image' slot ≡ slot_at image slot) →
    ((slot : ℕ) → keep slot ≡ false → HasNone p (slot_at image' slot)) →
    written_in p image' ≡ left_written keep (written_in p image)
written_lost p keep image image' long kept none =
    written_in_is p image'
    ∙ given_same (read_at p) (chosen (read_at p) (λ w. w.slot.0) (placed p) keep) 0 image' image blank blank long
    (λ slot within. same_at slot (keep slot) refl)
    ∙ sym (given-chosen (read_at p) (λ w. w.slot.0) (placed p) keep 0 image)
    ∙ ap (left_written keep) (sym (written_in_is p image))
  where
    at_each : (slot : ℕ) (b : Bool) → keep slot ≡ b →
        read_at p (0 + slot, slot_at image' slot) ≡ (if b then read_at p (0 + slot, slot_at image slot) else None)
    at_each slot true e = ap (written_at p (0 + slot)) (kept slot e)
    at_each slot false e = none slot e (0 + slot)

    same_at : (slot : ℕ) (b : Bool) → keep slot ≡ b →
        read_at p (0 + slot, slot_at image' slot) ≡ chosen (read_at p) (λ w. w.slot.0) (placed p) keep (
          0 + slot,
          slot_at image slot,
        )
    same_at slot b e =
        let at : 0 + slot ≡ slot = omega arith in
        let whole : keep (0 + slot) ≡ b = ap keep at ∙ e in
        at_each slot b e ∙ ap (λ t. if t then read_at p (0 + slot, slot_at image slot) else None) (sym whole)
