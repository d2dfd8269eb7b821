-- A copy that was programmed in the spare, or whose program was broken: what matches then.
use Rattle.collector.proofs.Common.{◌≡◌, ◌≢◌, ◌⊎◌, ℕ, ◌/◌, ◌<◌, eqb-true, List, length, set, Option, Some, None, Ok, Err, refl, sym, ap, ◌∙◌, subst, inl, inr, arith, ◌==◌, option_map_or, cases_Bool, eqb-false, get_or-set_same, get_or-set_other, text_at, shape_of, slots_of, Protocol, Shape, Slot, Rec, Broken, Outcome, FlashState, IsFlash, IsImage, Contents, blank, damaged, complete, slot_at, Programs, program, image_left, CanDo, record_of, CopyLaw, Blank, Damaged, Holds, cur, is_held, IsSoundImage, note_at, note_of, IndexState, IsNoted, copied, BlocksState, IsFree, block_of_slot, has_room_not_spare, Matches, IsNotedAt, KeepsArray}
use Rattle.std.proofs.lemmas.List.{set-get_or}
use Rattle.flash_model.specs.declared.outcome.Outcome.TheVariants as outcome
use Rattle.flash_model.proofs.ImageLemmas.{IsImage-left}
use Rattle.record_list.specs.Written.{records_of}
use Rattle.record_list.specs.WrittenChanges.{WrittenCopyLaw}
use Rattle.judged_records.specs.ImageChanges.{KeepsCopied, KeepsDamaged}
use Rattle.judged_records.proofs.OfLaws.ImageLaws.{image_copy_law, image_damage_law}
use Rattle.die_alloc.proofs.Changes.{block_within}
use Rattle.collector.specs.declared.unsure.Unsure.TheVariants as unsure
use Rattle.collector.proofs.OfNotes.Calm.{noted_as_read}
use Rattle.collector.proofs.OfNotes.Keeping.{keeps_array_same}
use Rattle.collector.proofs.OfCopies.CopyNotes.{copy_spared}
use Rattle.collector.proofs.OfNotes.ShutBlocks.{copy_shut}
use Rattle.collector.proofs.OfNotes.SureCounts.{sure_counts}

-- a slot that is noted blank as it reads is blank
pub blank_noted : (p : Protocol) (contents : Contents) → note_of p contents ≡ Blank → contents ≡ blank
blank_noted p blank e = refl
blank_noted p damaged e = cc
blank_noted p (complete bytes spare) e = absurd (never (record_of p spare) e)
  where
    never : (o : Option Rec) → option_map_or Holds o Damaged ≡ Blank → ⊥
    never None e = cc
    never (Some rec) e = cc

module _ (s s' : FlashState) (n : IndexState) (t : BlocksState) (m : Matches s n t unsure.Nothing)
    (written_copy : WrittenCopyLaw n.config.protocol)
    (from to : Slot) (rec : Rec) (bytes spare : List ℕ)
    (from_within : from.0 < slots_of (shape_of n.config)) (to_within : to.0 < slots_of (shape_of n.config))
    (in_spare : to.0 / n.config.pages_per_block ≡ t.spare)
    (source : note_at n.notes from.0 ≡ Holds rec) (was : note_at n.notes to.0 ≡ Blank)
    (reads : slot_at s.image from.0 ≡ complete bytes spare)
    (can : CanDo s.shape s.image (program to.0 bytes spare)) (same : s'.shape ≡ s.shape) where
  abbrev p : Protocol
  p = n.config.protocol

  in_image : (k : ℕ) → k < slots_of (shape_of n.config) → k < length s.image
  in_image k within = omega (arith, within, m.flash.slots, ap slots_of m.shape)

  blank_there : slot_at s.image to.0 ≡ blank
  blank_there = blank_noted p (slot_at s.image to.0)
      (sym (noted_as_read s n t m to.0 (omega (arith, to_within, ap slots_of m.shape))) ∙ was)

  abbrev with_copy : List Contents
  with_copy = set s.image to.0 (complete bytes spare)

  kept : KeepsCopied p n.config.logical s.shape s.image with_copy
  kept = image_copy_law p written_copy n.config.logical s.shape s.image from.0 to.0 bytes spare m.sound
      (in_image from.0 from_within) (in_image to.0 to_within) reads blank_there

  harmed : KeepsDamaged p n.config.logical s.shape s.image (set s.image to.0 damaged)
  harmed = image_damage_law p n.config.logical s.shape s.image to.0 m.sound (in_image to.0 to_within) blank_there

  abbrev SoundNow : List Contents → Type 0
  SoundNow image = IsSoundImage p n.config.logical s.shape image

  -- what the flash is now, by its image
  pub record Left (Q : Contents → Type 0) : Type 0 where
    pub sound : IsSoundImage p n.config.logical s'.shape s'.image
    pub flash : IsFlash s'
    pub array : KeepsArray p n.config.logical s.image s'.image
    pub others : (slot : ℕ) → slot ≢ to.0 → slot_at s'.image slot ≡ slot_at s.image slot
    pub there : Q (slot_at s'.image to.0)

  left_as : (Q : Contents → Type 0) (how : Outcome) (contents : Contents) →
      s'.image ≡ image_left s.shape s.image (program to.0 bytes spare) how →
      image_left s.shape s.image (program to.0 bytes spare) how ≡ set s.image to.0 contents →
      SoundNow (set s.image to.0 contents) →
      KeepsArray p n.config.logical s.image (set s.image to.0 contents) → Q contents → Left Q
  left_as Q how contents is as_set sound array q =
      let now : s'.image ≡ set s.image to.0 contents = is ∙ as_set in
      record {
        sound = subst (λ i. IsSoundImage p n.config.logical s'.shape i) (sym now)
            (subst (λ sh. IsSoundImage p n.config.logical sh (set s.image to.0 contents)) (sym same) sound);
        flash = subst (λ i. IsImage s'.shape i) (sym is)
            (subst (λ sh. IsImage sh (image_left s.shape s.image (program to.0 bytes spare) how)) (sym same)
            (IsImage-left s.shape s.image (program to.0 bytes spare) how m.flash can));
        array = subst (λ i. KeepsArray p n.config.logical s.image i) (sym now) array;
        others = λ slot other. ap (λ i. slot_at i slot) now ∙ get_or-set_other s.image to.0 slot contents blank other;
        there = subst Q (sym (ap (λ i. slot_at i to.0) now
            ∙ get_or-set_same s.image to.0 contents blank (in_image to.0 to_within))) q;
      }

  copied_array : KeepsArray p n.config.logical s.image with_copy
  copied_array = record {
    array = kept.array;
    versions = kept.records.same_current;
    held = λ r h. sym (kept.records.same_held r) ∙ h;
    texts = λ name h. kept.texts name (kept.names name h);
  }

  -- a damaged slot changes no record
  harmed_array : KeepsArray p n.config.logical s.image (set s.image to.0 damaged)
  harmed_array = record {
    array = harmed.array;
    versions = λ page low. ap (λ l. cur p (records_of l) n.config.logical page) harmed.written;
    held = λ r h. ap (λ l. is_held p (records_of l) n.config.logical r) (sym harmed.written) ∙ h;
    texts = λ name h. ap (λ l. text_at l name) harmed.written;
  }

  pub left_done : s'.image ≡ image_left s.shape s.image (program to.0 bytes spare) outcome.All →
      Left (λ contents. contents ≡ complete bytes spare)
  left_done is = left_as (λ contents. contents ≡ complete bytes spare) outcome.All (complete bytes spare) is refl
      kept.sound copied_array refl

  abbrev MayHold : Contents → Type 0
  MayHold contents = (contents ≡ blank) ⊎ ((contents ≡ damaged) ⊎ (contents ≡ complete bytes spare))

  pub left_torn : (how : Outcome) → s'.image ≡ image_left s.shape s.image (program to.0 bytes spare) how → Left MayHold
  left_torn outcome.None is =
      left_as MayHold outcome.None blank is (sym (set_same blank_there))
      (subst SoundNow (sym (set_same blank_there)) m.sound)
      (keeps_array_same p n.config.logical s.image (set s.image to.0 blank) (set_same blank_there)) (inl refl)
    where
      set_same : slot_at s.image to.0 ≡ blank → set s.image to.0 blank ≡ s.image
      set_same e = ap (set s.image to.0) (sym e) ∙ set-get_or s.image to.0 blank
  left_torn outcome.All is = left_as MayHold outcome.All (complete bytes spare) is refl kept.sound copied_array
      (inr (inr refl))
  left_torn outcome.Bad is = left_as MayHold outcome.Bad damaged is refl harmed.sound harmed_array (inr (inl refl))

  -- a free slot lies outside the spare
  free_other : (slot : ℕ) → IsFree t slot → slot ≢ to.0
  free_other slot free e =
      has_room_not_spare t m.table (block_of_slot t.shape slot) (block_within t m.table slot free.within) free.room
      (ap (block_of_slot t.shape) e ∙ ap (λ (x : Shape). to.0 / x.pages_per_block) (m.blocks ∙ m.shape) ∙ in_spare)

  -- the copy was programmed
  pub copy_done : Programs s s' to.0 bytes spare (Ok tt) → CopyLaw n.config.protocol →
      IsNoted p (copied n from.0 to.0) →
      Matches s' (copied n from.0 to.0) t unsure.Nothing
  copy_done e law noted =
      let now = left_done e.done.image in
      let long : from.0 < length n.notes = omega (arith, from_within, m.noted.slots) in
      let long' : to.0 < length n.notes = omega (arith, to_within, m.noted.slots) in
      let now_noted : (slot : ℕ) → slot < slots_of s'.shape → IsNotedAt s'.image (copied n from.0 to.0) slot =
      λ slot within. elim (cases_Bool (slot == to.0)) [
        | inl here ↦ subst (λ k. note_at (copied n from.0 to.0).notes k ≡ note_of p (slot_at s'.image k))
            (sym (eqb-true slot to.0 here))
            (get_or-set_same n.notes to.0 (note_at n.notes from.0) Blank long'
            ∙ noted_as_read s n t m from.0 (omega (arith, from_within, ap slots_of m.shape))
            ∙ ap (note_of p) reads ∙ ap (note_of p) (sym now.there))
        | inr other ↦ get_or-set_other n.notes to.0 slot (note_at n.notes from.0) Blank (eqb-false slot to.0 other)
            ∙ noted_as_read s n t m slot (omega (arith, within, ap slots_of same))
            ∙ ap (note_of p) (sym (now.others slot (eqb-false slot to.0 other)))
      ] in
      record {
        shape = same ∙ m.shape;
        flash = now.flash;
        sound = now.sound;
        noted = noted;
        table = m.table;
        blocks = m.blocks ∙ sym same;
        spare = m.spare;
        sure = λ slot within sure. now_noted slot within;
        counts = sure_counts s' (copied n from.0 to.0) (same ∙ m.shape) now.flash now.sound noted.slots now_noted;
        place = tt;
        spared = copy_spared n m.noted law from.0 to.0 rec source long long' was noted t.spare m.spared;
        victim = tt;
        free = λ slot free. get_or-set_other n.notes to.0 slot (note_at n.notes from.0) Blank (free_other slot free)
            ∙ m.free slot free;
        shut = copy_shut n t m.shut (let b = m.noted.bounds.shape.pages_least in omega arith) to.0
            (note_at n.notes from.0) in_spare;
      }

  -- the program of the copy was broken
  pub copy_torn : (b : Broken) → Programs s s' to.0 bytes spare (Err b) → from.0 ≢ to.0 →
      Matches s' n t (unsure.Copy from to)
  copy_torn b e apart =
      let now = left_torn e.torn.left.0 e.torn.left.1 in
      record {
        shape = same ∙ m.shape;
        flash = now.flash;
        sound = now.sound;
        noted = m.noted;
        counts = m.counts;
        table = m.table;
        blocks = m.blocks ∙ sym same;
        spare = m.spare;
        sure = λ slot within sure.
            noted_as_read s n t m slot (omega (arith, within, ap slots_of same))
            ∙ ap (note_of p) (sym (now.others slot (eqb-false slot to.0 sure)));
        place = (
          to_within,
          in_spare,
          was,
          from_within,
          (rec, source),
          elim now.there [
            | inl none ↦ inl none
            | inr (inl bad) ↦ inr (inl bad)
            | inr (inr whole) ↦ inr (inr (whole ∙ sym (now.others from.0 apart ∙ reads)))
          ],
        );
        spared = m.spared;
        victim = tt;
        free = m.free;
        shut = m.shut;
      }
