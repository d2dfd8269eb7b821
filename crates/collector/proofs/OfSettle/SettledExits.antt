-- What matches once the place was read that was not known.
use Rattle.collector.proofs.Common.{◌≡◌, ◌≢◌, ◌⊎◌, ℕ, ◌+◌, ◌%◌, ◌<◌, ◌≤◌, true, false, eqb-true, List, length, set, Some, sym, ap, ◌∙◌, subst, inl, inr, arith, ◌==◌, cases_Bool, eqb-false, get_or-set_same, get_or-set_other, shape_of, slots_of, FlashState, IsImage, slot_at, Note, Blank, IsSoundImage, note_at, note_of, IndexState, IsNoted, damaged_at, pinned_names, BlocksState, IsBlocksState, IsFree, HasRoom, block_of_slot, used_of, with_slot, BlockUse, Unsure, is_unsure, Matches, IsNotedAt, CanSpare}
use Rattle.judged_records.proofs.OfNotes.FoundIn.{found_in_damaged}
use Rattle.record_list.specs.Written.{IsDispensable}
use Rattle.die_alloc.proofs.Changes.{use_of-with_slot_same, use_of-with_slot_other}
use Rattle.collector.specs.declared.unsure.Unsure.TheVariants as unsure
use Rattle.collector.specs.Matches.{IsPlace, AreShut}
use Rattle.collector.proofs.OfNotes.SureCounts.{sure_counts}

-- a call that leaves image and shape leaves what matches
pub matches_still : (s s' : FlashState) (n : IndexState) (t : BlocksState) (u : Unsure) → s'.shape ≡ s.shape →
    s'.image ≡ s.image → Matches s n t u → Matches s' n t u
matches_still s s' n t u shape image m = record {
  shape = shape ∙ m.shape;
  flash = subst (λ i. IsImage s'.shape i) (sym image) (subst (λ sh. IsImage sh s.image) (sym shape) m.flash);
  sound = subst (λ i. IsSoundImage n.config.protocol n.config.logical s'.shape i) (sym image)
      (subst (λ sh. IsSoundImage n.config.protocol n.config.logical sh s.image) (sym shape) m.sound);
  noted = m.noted;
  counts = m.counts;
  table = m.table;
  blocks = m.blocks ∙ sym shape;
  spare = m.spare;
  sure = λ slot within sure.
      subst (λ i. IsNotedAt i n slot) (sym image)
      (m.sure slot (omega (arith, within, ap slots_of shape)) (ap (λ sh. is_unsure sh t.spare u slot) (sym shape)
      ∙ sure));
  place = subst (λ i. IsPlace i n t u) (sym image) m.place;
  spared = m.spared;
  victim = m.victim;
  free = m.free;
  shut = m.shut;
}

-- Where each slot is noted as it reads, nothing is unsure.
pub matches_surely : (s : FlashState) (n : IndexState) (t : BlocksState) (u : Unsure) → Matches s n t u →
    ((slot : ℕ) → slot < slots_of s.shape → is_unsure s.shape t.spare u slot ≡ true → IsNotedAt s.image n slot) →
    Matches s n t unsure.Nothing
matches_surely s n t u m place = record {
  shape = m.shape;
  flash = m.flash;
  sound = m.sound;
  noted = m.noted;
  counts = m.counts;
  table = m.table;
  blocks = m.blocks;
  spare = m.spare;
  sure = λ slot within nothing. elim (cases_Bool (is_unsure s.shape t.spare u slot)) [
    | inl un ↦ place slot within un
    | inr sure ↦ m.sure slot within sure
  ];
  place = tt;
  spared = m.spared;
  victim = tt;
  free = m.free;
  shut = m.shut;
}

pub damaged_spared : (n : IndexState) (at block : ℕ) → at < length n.notes → note_at n.notes at ≡ Blank →
    CanSpare n block → CanSpare (damaged_at n at) block
damaged_spared n at block within was spared =
    subst (λ l. IsDispensable n.config.protocol l n.config.logical (pinned_names n.pins) (shape_of n.config) block)
    (sym (found_in_damaged n.notes at within was)) spared

-- the one slot that was unsure is noted as it reads
module _ (s : FlashState) (n : IndexState) (t t' : BlocksState) (u : Unsure) (m : Matches s n t u) (at : ℕ)
    (within : at < slots_of s.shape)
    (only : (slot : ℕ) → is_unsure s.shape t.spare u slot ≡ true → slot ≡ at)
    (note : Note) (ms : List ℕ) (noted : IsNoted n.config.protocol
    (record n { notes = set n.notes at note; mentions = ms }))
    (reads : note ≡ note_of n.config.protocol (slot_at s.image at)) where
  long : at < length n.notes
  long = omega (arith, within, m.noted.slots, ap slots_of m.shape)

  sure_now : (slot : ℕ) → slot < slots_of s.shape →
      IsNotedAt s.image (record n { notes = set n.notes at note; mentions = ms }) slot
  sure_now slot low = elim (cases_Bool (slot == at)) [
    | inl here ↦ subst (λ k. note_at (set n.notes at note) k ≡ note_of n.config.protocol (slot_at s.image k))
        (sym (eqb-true slot at here))
        (get_or-set_same n.notes at note Blank long ∙ reads)
    | inr other ↦ get_or-set_other n.notes at slot note Blank (eqb-false slot at other)
        ∙ sure_other slot low (cases_Bool (is_unsure s.shape t.spare u slot)) other
  ]
    where
      sure_other : (slot : ℕ) → slot < slots_of s.shape → (is_unsure s.shape t.spare u slot ≡ true)
          ⊎ (is_unsure s.shape t.spare u slot ≡ false) →
          (slot == at) ≡ false → IsNotedAt s.image n slot
      sure_other slot low (inl un) other = absurd (eqb-false slot at other (only slot un))
      sure_other slot low (inr sure) other = m.sure slot low sure

  pub settled_slot : IsBlocksState t' → t'.shape ≡ t.shape → t'.spare ≡ t.spare →
      ((slot : ℕ) → IsFree t' slot → IsFree t slot × (slot ≢ at)) →
      CanSpare (record n { notes = set n.notes at note; mentions = ms }) t.spare →
      AreShut (record n { notes = set n.notes at note; mentions = ms }) t' →
      Matches s (record n { notes = set n.notes at note; mentions = ms }) t' unsure.Nothing
  settled_slot table shape spare free spared shut = record {
    shape = m.shape;
    flash = m.flash;
    sound = m.sound;
    noted = noted;
    counts = sure_counts s (record n { notes = set n.notes at note; mentions = ms }) m.shape m.flash m.sound noted.slots
        (λ slot low. sure_now slot low);
    table = table;
    blocks = shape ∙ m.blocks;
    spare = m.spare ∙ ap Some (sym spare);
    sure = λ slot low nothing. sure_now slot low;
    place = tt;
    spared = subst (CanSpare (record n { notes = set n.notes at note; mentions = ms })) (sym spare) spared;
    victim = tt;
    free = λ slot f. get_or-set_other n.notes at slot note Blank (free slot f).1 ∙ m.free slot (free slot f).0;
    shut = shut;
  }

-- a slot that is used is free no more, and those that are free were free
pub free_with_slot : (t : BlocksState) → IsBlocksState t → (at : ℕ) → IsFree t at → (slot : ℕ) →
    IsFree (with_slot t at) slot → IsFree t slot × (slot ≢ at)
free_with_slot t h at free slot f = elim (cases_Bool (block_of_slot t.shape slot == block_of_slot t.shape at)) [
  | inr other ↦
      (let apart = eqb-false (block_of_slot t.shape slot) (block_of_slot t.shape at) other in
      let same = use_of-with_slot_other t at (block_of_slot t.shape slot) apart in (
        record {
          within = f.within;
          room = elim f.room [
            | inl clean ↦ inl (sym (ap (λ (x : BlockUse). x.state) same) ∙ clean)
            | inr part ↦ inr (sym (ap (λ (x : BlockUse). x.state) same) ∙ part)
          ];
          unused = subst (λ k. k ≤ slot % t.shape.pages_per_block) (ap (λ (x : BlockUse). x.used) same) f.unused;
        },
        λ e. apart (ap (block_of_slot t.shape) e),
      ))
  | inl here ↦
      (let block : block_of_slot t.shape slot ≡ block_of_slot t.shape at = eqb-true (block_of_slot t.shape slot)
      (block_of_slot t.shape at) here in
      let same = use_of-with_slot_same t h at free.within in
      let used : used_of (with_slot t at) (block_of_slot t.shape slot) ≡ at % t.shape.pages_per_block + 1 =
      ap (used_of (with_slot t at)) block
      ∙ ap (λ (x : BlockUse). x.used) same in
      let behind : at % t.shape.pages_per_block + 1 ≤ slot % t.shape.pages_per_block = omega (arith, f.unused, used) in (
        record {
          within = f.within;
          room = subst (HasRoom t) (sym block) free.room;
          unused = (let low : used_of t (block_of_slot t.shape at) ≤ at % t.shape.pages_per_block = free.unused in
              subst (λ b. used_of t b ≤ slot % t.shape.pages_per_block) (sym block) (omega (arith, low, behind)));
        },
        λ e. (let eq : slot % t.shape.pages_per_block
            ≡ at % t.shape.pages_per_block = ap (λ k. k % t.shape.pages_per_block) e in absurd
            (omega (arith, eq, behind))),
      ))
]
