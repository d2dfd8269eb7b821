-- Erasing a block outside which each wanted record has a slot: what matches then, and where the erase was broken.
use Rattle.collector.proofs.Common.{◌≡◌, ◌≢◌, ℕ, ◌/◌, ◌<◌, ◌≤◌, true, false, not, eq-eqb, ◌%◌, List, Ok, Err, refl, sym, ap, ◌∙◌, subst, inl, inr, arith, cases_Bool, shape_of, slots_of, blocks_of, Protocol, Shape, Broken, Outcome, FlashState, IsFlash, IsImage, Contents, blank, damaged, slot_at, erase, image_left, LossLaw, is_outside, WrittenLossLaw, Note, Blank, Damaged, IsSoundImage, note_at, note_of, with_block_noted, IndexState, IsNoted, erased, with_spare, in_it, inside_block, BlocksState, IsBlocksState, IsFree, Matches, CanSpare, IsNotedAt, IsErasing, IsFilledTo, Block, KeepsArray, swapped, table_with_spare}
use Rattle.std.proofs.lemmas.Bool.{not-false}
use Rattle.flash_model.specs.declared.outcome.Outcome.TheVariants as outcome
use Rattle.flash_model.specs.Operations.{with_block}
use Rattle.flash_model.proofs.ImageLemmas.{IsImage-with_block, slot_at-with_block_in, slot_at-with_block_out}
use Rattle.judged_records.specs.ImageChanges.{KeepsLost}
use Rattle.judged_records.proofs.OfLaws.ImageLaws.{image_loss_law}
use Rattle.judged_records.proofs.OfNotes.Blocks.{outside_it}
use Rattle.collector.proofs.OfNotes.NotesLeft.{note_at-in}
use Rattle.collector.specs.declared.unsure.Unsure.TheVariants as unsure
use Rattle.collector.proofs.OfErase.Emptying.{Empties}
use Rattle.collector.proofs.OfNotes.Calm.{noted_as_read, image_can_lose}
use Rattle.collector.proofs.OfNotes.Keeping.{keeps_array_same}
use Rattle.collector.proofs.OfNotes.Losing.{blocked, spared_still}
use Rattle.collector.proofs.OfNotes.SpelledNotes.{calm_spelled}
use Rattle.collector.proofs.OfErase.Swap.{free_away, free_before, tail_blank}
use Rattle.collector.proofs.OfSettle.SettledBlocks.{out_of, noted_out, block_shut, victim_shut}
use Rattle.collector.proofs.OfNotes.SureCounts.{sure_counts}

module _ (s : FlashState) (n : IndexState) (t : BlocksState) (m : Matches s n t unsure.Nothing)
    (loss : LossLaw n.config.protocol) (written_loss : WrittenLossLaw n.config.protocol)
    (block : ℕ) (below : block < blocks_of (shape_of n.config)) (spared : CanSpare n block) where
  abbrev p : Protocol
  p = n.config.protocol

  abbrev per : ℕ
  per = s.shape.pages_per_block

  same_per : per ≡ n.config.pages_per_block
  same_per = ap (λ (x : Shape). x.pages_per_block) m.shape

  some : 0 < per
  some = (let b = m.flash.bounds.pages_least in omega arith)

  below' : block < blocks_of s.shape
  below' = omega (arith, below, ap blocks_of m.shape)

  -- the image without the block's records, whatever the block holds now
  lost_image : KeepsLost p n.config.logical s.shape s.image (with_block s.shape s.image block blank)
      × KeepsLost p n.config.logical s.shape s.image (with_block s.shape s.image block damaged)
  lost_image = image_loss_law p written_loss n.config.logical s.shape s.image block m.sound m.flash below'
      (image_can_lose s n t m block spared)

  -- a slot of the block, and one outside it, with these contents in the block and this note
  module _ (contents : Contents) (note : Note) (fits : note ≡ note_of p contents) where
    abbrev image' : List Contents
    image' = with_block s.shape s.image block contents

    abbrev notes' : List Note
    notes' = with_block_noted (shape_of n.config) n.notes block note

    new_in : (slot : ℕ) → is_outside s.shape block slot ≡ false → slot_at image' slot ≡ contents
    new_in slot e =
        let here = inside_block per block slot some (in_it s.shape block slot e) in
        slot_at-with_block_in s.shape s.image m.flash block below' contents slot here.0 here.1

    new_out : (slot : ℕ) → is_outside s.shape block slot ≡ true → slot_at image' slot ≡ slot_at s.image slot
    new_out slot e = slot_at-with_block_out s.shape s.image m.flash block below' contents slot
        (outside_it s.shape block slot e)

    some_noted : 0 < n.config.pages_per_block
    some_noted = omega (arith, some, same_per)

    noted_in : (slot : ℕ) → is_outside s.shape block slot ≡ false → note_at notes' slot ≡ note
    noted_in slot e =
        let here = inside_block n.config.pages_per_block block slot some_noted
        (in_it (shape_of n.config) block slot (ap (λ sh. is_outside sh block slot) (sym m.shape) ∙ e)) in
        note_at-in (shape_of n.config) some_noted n.notes m.noted.slots block below note slot here.0 here.1

    mirrors : (slot : ℕ) → slot < slots_of s.shape → note_at notes' slot ≡ note_of p (slot_at image' slot)
    mirrors slot within = elim (cases_Bool (is_outside s.shape block slot)) [
      | inl out ↦ noted_out s n t unsure.Nothing m block below note slot out ∙ noted_as_read s n t m slot within
          ∙ ap (note_of p) (sym (new_out slot out))
      | inr ins ↦ noted_in slot ins ∙ fits ∙ ap (note_of p) (sym (new_in slot ins))
    ]

  -- a slot that was free is noted blank still
  free_still : (slot : ℕ) → IsFree t slot → note_at (with_block_noted (shape_of n.config) n.notes block Blank) slot
      ≡ Blank
  free_still slot free = elim (cases_Bool (is_outside s.shape block slot)) [
    | inl out ↦ noted_out s n t unsure.Nothing m block below Blank slot out ∙ m.free slot free
    | inr ins ↦ noted_in blank Blank refl slot ins
  ]

  -- the array stays, and the text of each name that is still there
  pub array_stays : (contents : Contents) → KeepsLost p n.config.logical s.shape s.image
      (with_block s.shape s.image block contents) →
      KeepsArray p n.config.logical s.image (with_block s.shape s.image block contents)
  array_stays contents k = record {
    array = k.array;
    versions = k.records.same_current;
    held = k.records.held;
    texts = λ name h. sym (k.texts name h);
  }

module _ (s s' : FlashState) (n : IndexState) (t : BlocksState) (m : Matches s n t unsure.Nothing)
    (loss : LossLaw n.config.protocol) (written_loss : WrittenLossLaw n.config.protocol)
    (block : ℕ) (below : block < blocks_of (shape_of n.config)) (spared : CanSpare n block)
    (same : s'.shape ≡ s.shape) where
  abbrev kept_image : KeepsLost n.config.protocol n.config.logical s.shape s.image
      (with_block s.shape s.image block blank)
      × KeepsLost n.config.protocol n.config.logical s.shape s.image (with_block s.shape s.image block damaged)
  kept_image = lost_image s n t m loss written_loss block below spared

  -- an image of the flash's shape
  sound_as : (image : List Contents) → s'.image ≡ image →
      IsSoundImage n.config.protocol n.config.logical s.shape image →
      IsSoundImage n.config.protocol n.config.logical s'.shape s'.image
  sound_as image is sound =
      subst (λ i. IsSoundImage n.config.protocol n.config.logical s'.shape i) (sym is)
      (subst (λ sh. IsSoundImage n.config.protocol n.config.logical sh image) (sym same) sound)

  flash_as : (image : List Contents) → s'.image ≡ image → IsImage s.shape image → IsFlash s'
  flash_as image is whole = subst (λ i. IsImage s'.shape i) (sym is) (subst (λ sh. IsImage sh image) (sym same) whole)

  -- the flash with the block all blank
  module _ (erased_image : s'.image ≡ with_block s.shape s.image block blank) where
    pub sound_erased : IsSoundImage n.config.protocol n.config.logical s'.shape s'.image
    sound_erased = sound_as (with_block s.shape s.image block blank) erased_image (kept_image.0).sound

    pub flash_erased : IsFlash s'
    flash_erased =
        flash_as (with_block s.shape s.image block blank) erased_image
        (IsImage-with_block s.shape s.image m.flash block (omega (arith, below, ap blocks_of m.shape)) blank tt)

    pub mirrors_erased : (slot : ℕ) → slot < slots_of s'.shape → IsNotedAt s'.image (blocked n block Blank) slot
    mirrors_erased slot within =
        subst (λ i. note_at (blocked n block Blank).notes slot ≡ note_of n.config.protocol (slot_at i slot))
        (sym erased_image)
        (mirrors s n t m loss written_loss block below spared blank Blank refl slot
        (omega (arith, within, ap slots_of same)))

    pub array_erased : KeepsArray n.config.protocol n.config.logical s.image s'.image
    array_erased =
        subst (λ i. KeepsArray n.config.protocol n.config.logical s.image i) (sym erased_image)
        (array_stays s n t m loss written_loss block below spared blank kept_image.0)

  -- what a broken erase leaves of the image
  pub record LeftTorn : Type 0 where
    pub sound : IsSoundImage n.config.protocol n.config.logical s'.shape s'.image
    pub flash : IsFlash s'
    pub array : KeepsArray n.config.protocol n.config.logical s.image s'.image
    pub outside : (slot : ℕ) → is_outside s.shape block slot ≡ true → slot_at s'.image slot ≡ slot_at s.image slot
    pub erasing : IsErasing s'.image n block

  -- the slots of a block by number
  in_block : (slot : ℕ) → slot / n.config.pages_per_block ≡ block → is_outside s.shape block slot ≡ false
  in_block slot e =
      let same_number : slot / s.shape.pages_per_block ≡ slot / n.config.pages_per_block =
      ap (λ (x : Shape). slot / x.pages_per_block) m.shape in
      ap not (eq-eqb (slot / s.shape.pages_per_block) block (same_number ∙ e))

  pub left_torn : (how : Outcome) → s'.image ≡ image_left s.shape s.image (erase block) how → LeftTorn
  left_torn outcome.None is = record {
    sound = sound_as s.image is m.sound;
    flash = flash_as s.image is m.flash;
    array = keeps_array_same n.config.protocol n.config.logical s.image s'.image is;
    outside = λ slot e. ap (λ i. slot_at i slot) is;
    erasing = inl (λ slot within e. noted_as_read s n t m slot (omega (arith, within, ap slots_of m.shape)) ∙ ap
        (λ i. note_of n.config.protocol (slot_at i slot)) (sym is));
  }
  left_torn outcome.All is = record {
    sound = sound_erased is;
    flash = flash_erased is;
    array = array_erased is;
    outside = λ slot e. ap (λ i. slot_at i slot) is ∙ new_out s n t m loss written_loss block below spared blank
        Blank refl slot e;
    erasing = inr (inr (λ slot within e. ap (λ i. slot_at i slot) is
        ∙ new_in s n t m loss written_loss block below spared blank Blank refl slot
        (in_block slot e)));
  }
  left_torn outcome.Bad is = record {
    sound = sound_as (with_block s.shape s.image block damaged) is (kept_image.1).sound;
    flash = flash_as (with_block s.shape s.image block damaged) is
        (IsImage-with_block s.shape s.image m.flash block (omega (arith, below, ap blocks_of m.shape)) damaged tt);
    array = subst (λ i. KeepsArray n.config.protocol n.config.logical s.image i) (sym is)
        (array_stays s n t m loss written_loss block below spared damaged kept_image.1);
    outside = λ slot e. ap (λ i. slot_at i slot) is ∙ new_out s n t m loss written_loss block below spared damaged
        Damaged refl slot e;
    erasing = inr (inl (λ slot within e. ap (λ i. slot_at i slot) is
        ∙ new_in s n t m loss written_loss block below spared damaged Damaged refl slot
        (in_block slot e)));
  }

module _ (s s' : FlashState) (n : IndexState) (t : BlocksState) (m : Matches s n t unsure.Nothing)
    (loss : LossLaw n.config.protocol) (written_loss : WrittenLossLaw n.config.protocol) where
  pub spare_below : t.spare < blocks_of (shape_of n.config)
  spare_below = omega (arith, m.table.spare_within, ap blocks_of m.blocks, ap blocks_of m.shape)

  -- the spare was erased
  pub spare_erased : Empties s s' t.spare (Ok tt) → IsNoted n.config.protocol (erased n t.spare) →
      Matches s' (erased n t.spare) t unsure.Nothing
  spare_erased e noted = record {
    shape = e.shape ∙ m.shape;
    flash = flash_erased s s' n t m loss written_loss t.spare spare_below m.spared e.shape e.done;
    sound = sound_erased s s' n t m loss written_loss t.spare spare_below m.spared e.shape e.done;
    noted = noted;
    counts = sure_counts s' (erased n t.spare) (e.shape ∙ m.shape)
        (flash_erased s s' n t m loss written_loss t.spare spare_below m.spared e.shape e.done)
        (sound_erased s s' n t m loss written_loss t.spare spare_below m.spared e.shape e.done) noted.slots
        (λ slot within. mirrors_erased s s' n t m loss written_loss t.spare spare_below m.spared e.shape
        e.done slot within);
    table = m.table;
    blocks = m.blocks ∙ sym e.shape;
    spare = m.spare;
    sure = λ slot within sure. mirrors_erased s s' n t m loss written_loss t.spare spare_below m.spared e.shape
        e.done slot within;
    place = tt;
    spared = spared_still n m.noted loss t.spare spare_below m.spared Blank refl;
    victim = tt;
    free = free_still s n t m loss written_loss t.spare spare_below m.spared;
    shut = block_shut s n t unsure.Nothing m Blank;
  }

  -- the erase of the spare was broken
  pub spare_torn : (b : Broken) → Empties s s' t.spare (Err b) → Matches s' n t unsure.SpareErase
  spare_torn b e =
      let torn = left_torn s s' n t m loss written_loss t.spare spare_below m.spared e.shape e.torn.0 e.torn.1 in
      record {
        shape = e.shape ∙ m.shape;
        flash = torn.flash;
        sound = torn.sound;
        noted = m.noted;
        counts = m.counts;
        table = m.table;
        blocks = m.blocks ∙ sym e.shape;
        spare = m.spare;
        sure = λ slot within sure.
            noted_as_read s n t m slot (omega (arith, within, ap slots_of e.shape))
            ∙ ap (note_of n.config.protocol)
            (sym (torn.outside slot (not-false (is_outside s.shape t.spare slot)
            (ap (λ sh. not (is_outside sh t.spare slot)) (sym e.shape) ∙ sure))));
        place = (torn.erasing, λ slot within here. calm_spelled s n t m slot within);
        spared = m.spared;
        victim = tt;
        free = m.free;
        shut = m.shut;
      }

  -- the erase of a collected block was broken
  pub victim_torn : (block : Block) → block.0 < blocks_of (shape_of n.config) → block.0 ≢ t.spare → CanSpare n block.0 →
      IsFilledTo n t.spare →
      (b : Broken) → Empties s s' block.0 (Err b) → Matches s' n t (unsure.VictimErase block)
  victim_torn block below other spared filled b e =
      let torn = left_torn s s' n t m loss written_loss block.0 below spared e.shape e.torn.0 e.torn.1 in
      record {
        shape = e.shape ∙ m.shape;
        flash = torn.flash;
        sound = torn.sound;
        noted = m.noted;
        counts = m.counts;
        table = m.table;
        blocks = m.blocks ∙ sym e.shape;
        spare = m.spare;
        sure = λ slot within sure.
            noted_as_read s n t m slot (omega (arith, within, ap slots_of e.shape))
            ∙ ap (note_of n.config.protocol)
            (sym (torn.outside slot (not-false (is_outside s.shape block.0 slot)
            (ap (λ sh. not (is_outside sh block.0 slot)) (sym e.shape) ∙ sure))));
        place = (below, other, torn.erasing, filled, λ slot within here. calm_spelled s n t m slot within);
        spared = m.spared;
        victim = spared;
        free = m.free;
        shut = m.shut;
      }

  -- the collected block was erased: it is the spare, and the old one has its copies
  pub victim_erased : (block : ℕ) → block < blocks_of (shape_of n.config) → block ≢ t.spare → CanSpare n block →
      (filled : IsFilledTo n t.spare) →
      Empties s s' block (Ok tt) → IsNoted n.config.protocol (with_spare (erased n block) block) →
      IsBlocksState (table_with_spare t block) → IsBlocksState (swapped t block filled.0) →
      Matches s' (with_spare (erased n block) block) (swapped t block filled.0) unsure.Nothing
  victim_erased block below other spared filled e noted mid table =
      let below_table : block < blocks_of t.shape = omega (arith, below, ap blocks_of m.blocks, ap blocks_of m.shape) in
      let same_per : t.shape.pages_per_block ≡ n.config.pages_per_block =
      ap (λ (x : Shape). x.pages_per_block) (m.blocks ∙ m.shape) in
      let some : 0 < n.config.pages_per_block = (let b = m.noted.bounds.shape.pages_least in omega arith) in
      record {
        shape = e.shape ∙ m.shape;
        flash = flash_erased s s' n t m loss written_loss block below spared e.shape e.done;
        sound = sound_erased s s' n t m loss written_loss block below spared e.shape e.done;
        noted = noted;
        counts = sure_counts s' (with_spare (erased n block) block) (e.shape ∙ m.shape)
            (flash_erased s s' n t m loss written_loss block below spared e.shape e.done)
            (sound_erased s s' n t m loss written_loss block below spared e.shape e.done) noted.slots
            (λ slot within. mirrors_erased s s' n t m loss written_loss block below spared e.shape e.done slot within);
        table = table;
        blocks = m.blocks ∙ sym e.shape;
        spare = refl;
        sure = λ slot within sure. mirrors_erased s s' n t m loss written_loss block below spared e.shape
            e.done slot within;
        place = tt;
        spared = spared_still n m.noted loss block below spared Blank refl;
        victim = tt;
        free = λ slot free.
            let away = free_away t m.table block below_table other mid filled.0 slot free in
            let out : is_outside s.shape block slot ≡ true =
            out_of s.shape block slot (λ e. away (ap (λ (x : Shape). slot / x.pages_per_block) m.blocks ∙ e)) in
            noted_out s n t unsure.Nothing m block below Blank slot out
            ∙ (elim (free_before t m.table block below_table other mid filled.0 slot free) [
              | inl behind ↦ tail_blank n t.spare filled slot
                  (ap (λ k. slot / k) (sym same_per) ∙ behind.0) some
                  (subst (λ k. filled.0 ≤ slot % k) same_per behind.1)
              | inr before ↦ m.free slot before
            ]);
        shut = victim_shut s n t unsure.Nothing m block below Blank other mid filled;
      }
