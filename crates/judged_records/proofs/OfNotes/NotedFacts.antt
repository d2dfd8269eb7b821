-- What was noted: current records are present, and homes hold them.
use Rattle.judged_records.proofs.Common.{◌≡◌, ℕ, ◌*◌, Bool, true, false, Option, Some, None, IsSomeAnd, ◌↔◌, ◌⊎◌, refl, sym, ap, ◌∙◌, subst, inl, inr, arith, false≢true, cases_Bool, cond-true, cond-false, and_parts, none-some, option_map, range_with_len, Link, Rec, Protocol, shape_of, name_of, has_name, is_present, cur, record_named, is_slot, IsSoundMap, sound_map, Holds, note_at, rec_of, found_in, IndexState, IsNoted, current_of, home_of, slot_off, garbage_of}
use Rattle.std.proofs.Common.{IsNone, count_by, IfSome}
use Rattle.tx_types.specs.declared.config.Slot.{Slot}
use Rattle.record_list.proofs.OfFacts.Facts.{cur_present}
use Rattle.record_list.proofs.OfFacts.Names.{has_name_true}
use Rattle.judged_records.specs.IndexState.{IsBlank, current_name_of, discarded_of, is_garbage_at, shut_or_part}
use Rattle.judged_records.specs.IndexState.{HoldsName}
use Rattle.judged_records.proofs.OfNotes.FoundIn.{found, holds_within, noted_from, noted_in}
use Rattle.judged_records.proofs.OfNotes.HomeFacts.{StandsAt, first_stands, home_stands, home_absent, home_present}

module _ (protocol : Protocol) (n : IndexState) (k : IsNoted protocol n) where
  -- the noted records by names
  pub noted_map : IsSoundMap protocol (found_in n.notes) n.config.logical
  noted_map = sound_map protocol (found_in n.notes) n.config.logical k.sound k.scanned

  -- the current version of a page is 0 or present
  pub noted_present : (page : ℕ) → (current_of n page ≡ 0)
      ⊎ (is_present (found_in n.notes) (current_name_of n page) ≡ true)
  unfolding current_of
  noted_present page =
      subst (λ p. (cur p (found_in n.notes) n.config.logical page ≡ 0) ⊎ (is_present (found_in n.notes)
      (record { page = page; version = cur p (found_in n.notes) n.config.logical page }) ≡ true))
      (sym k.rule) (cur_present protocol (found_in n.notes) n.config.logical noted_map page)

  -- no record has the version 0
  pub noted_positive : (name : Link) → name.version ≡ 0 → is_present (found_in n.notes) name ≡ false
  noted_positive name none = elim (cases_Bool (is_present (found_in n.notes) name)) [
    | inl here ↦ (let positive = (noted_map.linked.versions name here).0 in absurd (omega arith))
    | inr gone ↦ gone
  ]

  -- a noted record of the current name says whether it discards the page
  pub noted_discard : (page at : ℕ) (rec : Rec) → note_at n.notes at ≡ Holds rec →
      name_of rec ≡ current_name_of n page → rec.discard ≡ discarded_of n page
  unfolding discarded_of
  noted_discard page at rec here name =
      let i = noted_in n.notes at rec (holds_within n.notes at rec here) here in
      ap (λ (r : Rec). r.discard) (noted_map.copies (found at rec) i ∙ ap (record_named (found_in n.notes)) name)

  -- a slot where a record of a name stands holds it
  pub noted_stands : (name : Link) (at : ℕ) → StandsAt (λ f. has_name name f.rec) (found_in n.notes) at →
      HoldsName n at name
  noted_stands name at h =
      let parts = noted_from n.notes h.found h.is_in in
      let here : note_at n.notes at ≡ Holds h.found.rec = subst (λ i. note_at n.notes i ≡ Holds h.found.rec)
      h.its_slot parts.1 in
      let within = parts.0 in
      let slots = k.slots in
      let its = h.its_slot in (
        omega arith,
        subst (λ note. IsSomeAnd (rec_of note) (λ rec. name_of rec ≡ name)) (sym here)
            (has_name_true name h.found.rec h.passes),
      )

  -- a page has a home exactly where it has a current version
  pub home_missing : (page : ℕ) → current_of n page ≡ 0 → home_of n (current_name_of n page) ≡ None
  unfolding home_of
  home_missing page none = home_absent (shape_of n.config) n.spare (found_in n.notes) (current_name_of n page)
      (noted_positive (current_name_of n page) none)

  pub home_there : (page : ℕ) → home_of n (current_name_of n page) ≡ None → current_of n page ≡ 0
  unfolding home_of
  home_there page none = elim (noted_present page) [
    | inl bare ↦ bare
    | inr here ↦ absurd (home_present (shape_of n.config) n.spare (found_in n.notes) (current_name_of n page) here none)
  ]

  -- a home holds its record, and so does a slot outside a block
  pub home_holds : (name : Link) (at : ℕ) → home_of n name ≡ Some at → HoldsName n at name
  unfolding home_of
  home_holds name at e = noted_stands name at (home_stands (shape_of n.config) n.spare (found_in n.notes) name at e)

  pub off_holds : (block : ℕ) (name : Link) (at : ℕ) → slot_off n block name ≡ Some at → HoldsName n at name
  unfolding slot_off
  off_holds block name at e =
      let h = first_stands _ (found_in n.notes) at e in
      noted_stands name at (record {
        found = h.found;
        is_in = h.is_in;
        its_slot = h.its_slot;
        passes = (and_parts _ _ h.passes).0;
      })

  -- what an answer is that names the home of a page's current record
  pub located_none : (page : ℕ) (r : Option Slot) → discarded_of n page ≡ false →
      option_map (λ at. at.0) r ≡ home_of n (current_name_of n page) →
      IsNone r ↔ IsBlank n page
  located_none page None held e = (λ none. inl (home_there page (sym e)), λ none. refl)
  located_none page (Some at) held e = (
    λ none. absurd (false≢true (sym none)),
    λ blank. elim blank [
      | inl none ↦ absurd (none-some at.0 (sym (home_missing page none) ∙ sym e))
      | inr discards ↦ absurd (false≢true (sym held ∙ discards))
    ],
  )

  pub located_holds : (name : Link) (r : Option Slot) → option_map (λ at. at.0) r ≡ home_of n name →
      IfSome r (λ at. HoldsName n at.0 name)
  located_holds name None e = tt
  located_holds name (Some at) e = home_holds name at.0 (sym e)

  -- and one that names a slot outside a block
  pub off_located : (block : ℕ) (name : Link) (r : Option Slot) → option_map (λ at. at.0) r ≡ slot_off n block name →
      IfSome r (λ at. HoldsName n at.0 name)
  off_located block name None e = tt
  off_located block name (Some at) e = off_holds block name at.0 (sym e)

-- the spare has no garbage, and of another block what counts is counted
pub spare_garbage : (n : IndexState) (block : ℕ) (shut : Bool) → is_slot block n.spare ≡ true →
    garbage_of n block shut ≡ 0
unfolding garbage_of
spare_garbage n block shut spare = cond-true (is_slot block n.spare) 0 _ spare

pub other_garbage : (n : IndexState) (block : ℕ) (shut : Bool) → is_slot block n.spare ≡ false →
    garbage_of n block shut ≡ count_by (is_garbage_at n (shut_or_part shut))
    (range_with_len (block * n.config.pages_per_block) n.config.pages_per_block)
unfolding garbage_of
other_garbage n block shut other = cond-false (is_slot block n.spare) 0 _ other
