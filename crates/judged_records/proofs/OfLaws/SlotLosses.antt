-- An image of which some slots are lost: its records are those of the slots that stay.
use Rattle.judged_records.proofs.Common.{◌≡◌, ℕ, ◌<◌, Bool, true, false, List, [], length, All, refl, sym, ap, ◌∙◌, subst, inl, inr, Protocol, Contents, blank, slot_at, IsWrite, LossLaw, left, found_of, records_of, is_outside, written_in, records_in, SlotReads}
use Rattle.std.proofs.lemmas.List.{get_or_default}
use Rattle.record_list.specs.Losses.{WrittenSlotLossLaw}
use Rattle.record_list.proofs.OfChanges.Spared.{counted_first}
use Rattle.record_list.proofs.OfChanges.SlotLosses.{written_slot_loss}
use Rattle.record_list.proofs.OfChanges.LostWrites.{write_after_loss}
use Rattle.record_list.proofs.OfChanges.WrittenLists.{records_left}
use Rattle.judged_records.specs.ImageChanges.{image_with}
use Rattle.judged_records.specs.SlotLosses.{LosesSlots, ImageSlotLossLaw, AsksAfterLossLaw}
use Rattle.judged_records.proofs.OfLaws.ImageScans.{written, records_scanned, HasNone, written_lost}
use Rattle.judged_records.proofs.OfLaws.ImageLaws.{writes, less_written}

module _ (p : Protocol) (keep : ℕ → Bool) (image image' : List Contents) (loss : LosesSlots keep image image') where
  -- a slot that is lost has no record
  lost_none : (slot : ℕ) → keep slot ≡ false → HasNone p (slot_at image' slot)
  lost_none slot e = elim (loss.lost slot e) [
    | inl is ↦ subst (HasNone p) (sym is) (λ k. refl)
    | inr is ↦ subst (HasNone p) (sym is) (λ k. refl)
  ]

  -- and reads
  reads_at : (logical : ℕ) → All (SlotReads p logical) image → (slot : ℕ) (b : Bool) → keep slot ≡ b →
      slot < length image →
      SlotReads p logical (slot_at image' slot)
  reads_at logical reads slot true e within = subst (SlotReads p logical) (sym (loss.kept slot e))
      (reads slot blank within)
  reads_at logical reads slot false e within = elim (loss.lost slot e) [
    | inl is ↦ subst (SlotReads p logical) (sym is) tt
    | inr is ↦ subst (SlotReads p logical) (sym is) tt
  ]

  reads_lost : (logical : ℕ) → All (SlotReads p logical) image → All (SlotReads p logical) image'
  reads_lost logical reads slot d within =
      subst (SlotReads p logical) (get_or_default image' slot blank d within)
      (reads_at logical reads slot (keep slot) refl (subst (λ n. slot < n) loss.slots within))

pub image_slot_loss : (p : Protocol) → WrittenSlotLossLaw p → ImageSlotLossLaw p
image_slot_loss p law logical shape image image' keep sound loss spared =
    less_written p logical shape image image' keep sound (written_lost p keep image image' loss.slots loss.kept
    (lost_none p keep image image' loss))
    (reads_lost p keep image image' loss logical sound.reads)
    (law (written_in p image) logical shape keep sound.written (records_scanned p image) spared)

pub asks_after_loss : (p : Protocol) → LossLaw p → AsksAfterLossLaw p
asks_after_loss p law logical shape image image' names at rec keep asks loss spared stays =
    let list = records_in p image in
    let list' = records_in p (image_with p image at [] rec) in
    let f = found_of (written at rec []) in
    let is : left keep list ≡ records_in p image' =
    sym (ap records_of (written_lost p keep image image' loss.slots loss.kept (lost_none p keep image image' loss))
    ∙ records_left keep (written_in p image)) in
    let write : IsWrite p (records_in p image') (left keep list') logical names f =
    subst (λ l. IsWrite p l (left keep list') logical names f) is
    (write_after_loss p law list list' logical names f keep asks.sound.written.records
    (writes p logical shape image names at [] rec asks).write
    (counted_first p list logical keep (is_outside shape spared.block) spared.counted) stays) in
    record {
      sound = (image_slot_loss p (written_slot_loss p law) logical shape image image' keep asks.sound loss
          spared).sound;
      within = subst (λ n. at < n) (sym loss.slots) asks.within;
      blank = loss.kept at stays ∙ asks.blank;
      spelled = asks.spelled;
      in_progress = write.in_progress;
      named = write.named;
      fresh = write.fresh;
      asked = write.asked;
      clear = write.clear;
    }
