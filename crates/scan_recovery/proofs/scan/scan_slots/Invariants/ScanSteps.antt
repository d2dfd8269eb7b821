-- A scan of an image, one slot after another.
use Rattle.scan_recovery.proofs.Common.{◌≡◌, ℕ, ◌+◌, ◌<◌, List, [], ◌∷◌, map, length, take, All, Option, Some, None, sym, ap, ap₂, ◌∙◌, subst, arith, length-map, get_or-map, all_from, Protocol, Slot, Seen, Contents, slot_at, Found, SlotReads, records_in, IsScanOf}
use Rattle.std.proofs.Common.{◌++◌, unwrap_or}
use Rattle.std.specs.Prelude.{MatchOption}
use Rattle.std.specs.List.{cons_option}
use Rattle.std.proofs.lemmas.List.{take-map, map-append, take_more, get_or-take, length-take-le}
use Rattle.std.proofs.lemmas.List.Elements.{All-append}
use Rattle.list_lemmas.proofs.Membership.{Contains-one}
use Rattle.flash_model.specs.Flash.{blank}
use Rattle.flash_model.specs.Calls.{seen_of}
use Rattle.record_list.specs.Written.{records_of}
use Rattle.judged_records.specs.declared.note.Note.{Note}
use Rattle.judged_records.specs.declared.note.Note.TheVariants.{Blank}
use Rattle.judged_records.specs.Notes.{seen_as, found_at, found_in, note_of, notes_of}
use Rattle.judged_records.proofs.OfNotes.FoundIn.{found_in_more}
use Rattle.judged_records.proofs.OfLaws.ImageScans.{written_in_is}
use Rattle.judged_records.proofs.OfLaws.NotedImages.{found_in_notes, note_reads}
use Rattle.scan_recovery.specs.Scans.{IsNote}

-- the slots below this one keep law 1, and are noted
abbrev pub IsScanTo : Protocol → ℕ → List Contents → ℕ → List Seen → List Found → Type 0
IsScanTo protocol logical image at slots list = IsScanOf protocol logical (take at image) slots list

-- this is the first slot that breaks law 1, and it is below that one
pub record IsUnreadTo (protocol : Protocol) (logical : ℕ) (image : List Contents) (at slot : ℕ) : Type 0 where
  pub below : slot < at
  pub breaks : SlotReads protocol logical (slot_at image slot) → ⊥
  pub earlier_slots : (k : ℕ) → k < slot → SlotReads protocol logical (slot_at image k)

-- nothing was scanned yet
pub scan_first : (p : Protocol) (logical : ℕ) (image : List Contents) (slots : List Seen) (list : List Found) →
    slots ≡ [] → list ≡ [] →
    IsScanTo p logical image 0 slots list
scan_first p logical image slots list no_slots no_records = record {
  reads = λ k d within. absurd (omega arith);
  seen = no_slots;
  records = no_records ∙ sym (ap records_of (written_in_is p []));
}

-- the records of one slot more
records_more : (p : Protocol) (image : List Contents) (at : ℕ) → at < length image →
    records_in p (take (at + 1) image) ≡ records_in p (take at image)
    ++ cons_option (found_at at (note_of p (slot_at image at))) []
records_more p image at within =
    let noted = notes_of p image in
    let long : at < length noted = omega (arith, length-map image (note_of p)) in
    sym (found_in_notes p (take (at + 1) image)) ∙ ap found_in (sym (take-map (note_of p) (at + 1) image))
    ∙ found_in_more noted at long
    ∙ ap₂ (λ (l : List Found) (n : Note). l ++ cons_option (found_at at n) [])
    (ap found_in (take-map (note_of p) at image) ∙ found_in_notes p (take at image))
    (get_or-map (note_of p) image at blank Blank within)

module _ (p : Protocol) (logical : ℕ) (image : List Contents) (at : ℕ) (within : at < length image) where
  scan_next : (slots : List Seen) (list : List Found) (note : Note) → IsScanTo p logical image at slots list →
      SlotReads p logical (slot_at image at) → note ≡ note_of p (slot_at image at) →
      IsScanTo p logical image (at + 1) (slots ++ seen_as note ∷ []) (list ++ cons_option (found_at at note) [])
  scan_next slots list note h reads is = record {
    reads = subst (All (SlotReads p logical)) (sym (take_more image at blank within))
        (All-append (SlotReads p logical) (take at image) (slot_at image at ∷ []) h.reads (one_reads reads));
    seen = ap₂ (λ (l : List Seen) (s : Seen). l ++ s ∷ []) h.seen (ap seen_as is
        ∙ note_reads p logical (slot_at image at) reads)
        ∙ sym (ap (map seen_of) (take_more image at blank within)
        ∙ map-append seen_of (take at image) (slot_at image at ∷ []));
    records = ap₂ (λ (l : List Found) (n : Note). l ++ cons_option (found_at at n) []) h.records is
        ∙ sym (records_more p image at within);
  }
    where
      one_reads : SlotReads p logical (slot_at image at) → All (SlotReads p logical) (slot_at image at ∷ [])
      one_reads reads = all_from (SlotReads p logical) (slot_at image at ∷ [])
          (λ x i. subst (SlotReads p logical) (Contains-one (slot_at image at) x i) reads)

  abbrev pub IsFoundTo : ℕ → Option Slot → List Seen → List Found → Type 0
  IsFoundTo to unread slots list = MatchOption unread (IsScanTo p logical image to slots list)
      (λ slot. IsUnreadTo p logical image to slot.0)

  -- a slot that keeps law 1
  pub found_note : (unread : Option Slot) (slots : List Seen) (list : List Found) (note : Note) →
      IsFoundTo at unread slots list →
      IsNote p logical (slot_at image at) (Some note) →
      IsFoundTo (at + 1) unread (slots ++ seen_as note ∷ []) (list ++ cons_option (found_at at note) [])
  found_note None slots list note h is = scan_next slots list note h is.0 is.1
  found_note (Some slot) slots list note h is = record {
    below = (let below = h.below in omega arith);
    breaks = h.breaks;
    earlier_slots = h.earlier_slots;
  }

  -- a slot that breaks it
  pub found_unread : (unread : Option Slot) (slots : List Seen) (list : List Found) → IsFoundTo at unread slots list →
      IsNote p logical (slot_at image at) None →
      IsUnreadTo p logical image (at + 1) (unwrap_or unread (record { 0 = at })).0
  found_unread None slots list h breaks = record {
    below = omega arith;
    breaks = breaks;
    earlier_slots = λ k less.
        let long : k < length (take at image) = omega (arith, length-take-le at image (omega arith)) in
        subst (SlotReads p logical) (get_or-take at image k blank less) (h.reads k blank long);
  }
  found_unread (Some slot) slots list h breaks = record {
    below = (let below = h.below in omega arith);
    breaks = h.breaks;
    earlier_slots = h.earlier_slots;
  }
