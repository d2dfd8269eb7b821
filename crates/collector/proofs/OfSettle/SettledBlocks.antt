-- What matches once a block was read whose erase was broken: it is old, or each of its slots is blank, or damaged.
use Rattle.collector.proofs.Common.{◌≡◌, ◌≢◌, ℕ, ◌/◌, ◌%◌, ◌<◌, ◌≤◌, true, not, eqb-true, List, None, refl, sym, ap, ◌∙◌, subst, inl, inr, arith, ◌==◌, cases_Bool, shape_of, slots_of, blocks_of, Block, Shape, FlashState, Contents, slot_at, LossLaw, is_outside, Note, note_at, note_of, rec_of, with_block_noted, IndexState, IsNoted, with_spare, in_it, inside_block, BlocksState, IsBlocksState, block_of_slot, table_with_spare, has_room_not_spare, Unsure, swapped, Matches, IsNotedAt, AllOfBlock, IsFilledTo}
use Rattle.std.proofs.lemmas.Bool.{not_from_true}
use Rattle.judged_records.proofs.OfNotes.Blocks.{outside_it}
use Rattle.collector.proofs.OfNotes.NotesLeft.{note_at-in, note_at-out}
use Rattle.die_alloc.proofs.Changes.{block_within}
use Rattle.collector.specs.declared.unsure.Unsure.TheVariants as unsure
use Rattle.collector.proofs.OfNotes.Losing.{blocked, spared_still}
use Rattle.collector.proofs.OfErase.Swap.{free_away, free_before, tail_blank}
use Rattle.collector.proofs.OfNotes.ShutBlocks.{spare_shut, swapped_shut}
use Rattle.collector.proofs.OfNotes.SureCounts.{sure_counts}
use Rattle.collector.specs.Matches.{AreShut}

-- a slot of another block is outside the block
pub out_of : (shape : Shape) (block slot : ℕ) → slot / shape.pages_per_block ≢ block →
    is_outside shape block slot ≡ true
out_of shape block slot apart = elim (cases_Bool ((slot / shape.pages_per_block) == block)) [
  | inl e ↦ absurd (apart (eqb-true (slot / shape.pages_per_block) block e))
  | inr e ↦ ap not e
]

module _ (s : FlashState) (n : IndexState) (t : BlocksState) (u : Unsure) (m : Matches s n t u) (block : ℕ)
    (below : block < blocks_of (shape_of n.config))
    (note : Note) where
  some : 0 < n.config.pages_per_block
  some = (let b = m.noted.bounds.shape.pages_least in omega arith)

  as_noted : (slot : ℕ) → is_outside (shape_of n.config) block slot ≡ is_outside s.shape block slot
  as_noted slot = ap (λ sh. is_outside sh block slot) (sym m.shape)

  abbrev notes' : List Note
  notes' = with_block_noted (shape_of n.config) n.notes block note

  -- a slot outside the block is noted as before
  pub noted_out : (slot : ℕ) → is_outside s.shape block slot ≡ true → note_at notes' slot ≡ note_at n.notes slot
  noted_out slot e = note_at-out (shape_of n.config) some n.notes m.noted.slots block below note slot
      (outside_it (shape_of n.config) block slot (as_noted slot ∙ e))

  module _ (contents : Contents) (fits : note ≡ note_of n.config.protocol contents)
      (all : AllOfBlock n block (λ slot. slot_at s.image slot ≡ contents))
      (other : (slot : ℕ) → slot < slots_of s.shape → is_outside s.shape block slot ≡ true →
      IsNotedAt s.image n slot) where
    sure_blocked : (slot : ℕ) → slot < slots_of s.shape → IsNotedAt s.image (blocked n block note) slot
    sure_blocked slot within = elim (cases_Bool (is_outside s.shape block slot)) [
      | inl out ↦ noted_out slot out ∙ other slot within out
      | inr ins ↦
          (let here = in_it (shape_of n.config) block slot (as_noted slot ∙ ins) in
          let place = inside_block n.config.pages_per_block block slot some here in
          note_at-in (shape_of n.config) some n.notes m.noted.slots block below note slot place.0 place.1 ∙ fits
          ∙ ap (note_of n.config.protocol) (sym (all slot (omega (arith, within, ap slots_of m.shape)) here)))
    ]

-- the notes of the spare are others
pub block_shut : (s : FlashState) (n : IndexState) (t : BlocksState) (u : Unsure) (m : Matches s n t u) (note : Note) →
    AreShut (blocked n t.spare note) t
block_shut s n t u m note =
    let below : t.spare < blocks_of (shape_of n.config) = omega (
      arith,
      m.table.spare_within,
      ap blocks_of m.blocks,
      ap blocks_of m.shape,
    ) in
    let positive : 0 < n.config.pages_per_block = (let b = m.noted.bounds.shape.pages_least in omega arith) in
    spare_shut n t m.shut positive (with_block_noted (shape_of n.config) n.notes t.spare note)
    (λ slot off. noted_out s n t u m t.spare below note slot (out_of s.shape t.spare slot
    (λ e. off (ap (λ (x : Shape). slot / x.pages_per_block) (sym m.shape) ∙ e))))

-- another block becomes the spare, whose notes are others
pub victim_shut : (s : FlashState) (n : IndexState) (t : BlocksState) (u : Unsure) (m : Matches s n t u) (block : ℕ) →
    block < blocks_of (shape_of n.config) → (note : Note) → block ≢ t.spare →
    IsBlocksState (table_with_spare t block) → (filled : IsFilledTo n t.spare) →
    AreShut (with_spare (blocked n block note) block) (swapped t block filled.0)
victim_shut s n t u m block below note other mid filled =
    let positive : 0 < n.config.pages_per_block = (let b = m.noted.bounds.shape.pages_least in omega arith) in
    swapped_shut n t m.shut positive m.table (m.blocks ∙ m.shape) block below other mid filled m.noted.closed
    (with_block_noted (shape_of n.config) n.notes block note)
    (λ slot off. noted_out s n t u m block below note slot (out_of s.shape block slot
    (λ e. off (ap (λ (x : Shape). slot / x.pages_per_block) (sym m.shape) ∙ e))))

-- the spare
pub settled_spare : (s : FlashState) (n : IndexState) (t : BlocksState) (m : Matches s n t unsure.SpareErase)
    (loss : LossLaw n.config.protocol)
    (contents : Contents) (note : Note) → note ≡ note_of n.config.protocol contents → rec_of note ≡ None →
    AllOfBlock n t.spare (λ slot. slot_at s.image slot ≡ contents) →
    IsNoted n.config.protocol (blocked n t.spare note) →
    Matches s (blocked n t.spare note) t unsure.Nothing
settled_spare s n t m loss contents note fits none all noted =
    let below : t.spare < blocks_of (shape_of n.config) = omega (
      arith,
      m.table.spare_within,
      ap blocks_of m.blocks,
      ap blocks_of m.shape,
    ) in
    let other : (slot : ℕ) → slot < slots_of s.shape → is_outside s.shape t.spare slot ≡ true →
    IsNotedAt s.image n slot =
    λ slot within out. m.sure slot within (not_from_true (is_outside s.shape t.spare slot) out) in
    record {
      shape = m.shape;
      flash = m.flash;
      sound = m.sound;
      noted = noted;
      counts = sure_counts s (blocked n t.spare note) m.shape m.flash m.sound noted.slots (λ slot within.
          sure_blocked s n t unsure.SpareErase m t.spare below note contents fits all other slot within);
      table = m.table;
      blocks = m.blocks;
      spare = m.spare;
      sure = λ slot within nothing. sure_blocked s n t unsure.SpareErase m t.spare below note contents fits all
          other slot within;
      place = tt;
      spared = spared_still n m.noted loss t.spare below m.spared note none;
      victim = tt;
      free = λ slot free.
          let apart = has_room_not_spare t m.table (block_of_slot t.shape slot)
          (block_within t m.table slot free.within) free.room in
          let out = out_of s.shape t.spare slot
          (λ e. apart (ap (λ (x : Shape). slot / x.pages_per_block) m.blocks ∙ e)) in
          noted_out s n t unsure.SpareErase m t.spare below note slot out ∙ m.free slot free;
      shut = block_shut s n t unsure.SpareErase m note;
    }

-- a collected block, which is the spare then
pub settled_victim : (s : FlashState) (n : IndexState) (t : BlocksState) (block : Block)
    (m : Matches s n t (unsure.VictimErase block))
    (loss : LossLaw n.config.protocol)
    (contents : Contents) (note : Note) → note ≡ note_of n.config.protocol contents → rec_of note ≡ None →
    AllOfBlock n block.0 (λ slot. slot_at s.image slot ≡ contents) → (filled : IsFilledTo n t.spare) →
    block.0 < blocks_of (shape_of n.config) →
    block.0 ≢ t.spare →
    IsNoted n.config.protocol (with_spare (blocked n block.0 note) block.0) →
    IsBlocksState (table_with_spare t block.0) →
    IsBlocksState (swapped t block.0 filled.0) →
    Matches s (with_spare (blocked n block.0 note) block.0) (swapped t block.0 filled.0) unsure.Nothing
settled_victim s n t block m loss contents note fits none all filled below apart noted mid table =
    let below_table : block.0 < blocks_of t.shape = omega (arith, below, ap blocks_of m.blocks, ap blocks_of m.shape) in
    let same_per : t.shape.pages_per_block ≡ n.config.pages_per_block =
    ap (λ (x : Shape). x.pages_per_block) (m.blocks ∙ m.shape) in
    let some : 0 < n.config.pages_per_block = (let b = m.noted.bounds.shape.pages_least in omega arith) in
    let other : (slot : ℕ) → slot < slots_of s.shape → is_outside s.shape block.0 slot ≡ true →
    IsNotedAt s.image n slot =
    λ slot within out. m.sure slot within (not_from_true (is_outside s.shape block.0 slot) out) in
    record {
      shape = m.shape;
      flash = m.flash;
      sound = m.sound;
      noted = noted;
      counts = sure_counts s (with_spare (blocked n block.0 note) block.0) m.shape m.flash m.sound noted.slots
          (λ slot within.
          sure_blocked s n t (unsure.VictimErase block) m block.0 below note contents fits all other slot within);
      table = table;
      blocks = m.blocks;
      spare = refl;
      sure = λ slot within nothing. sure_blocked s n t (unsure.VictimErase block) m block.0 below note contents fits all
          other slot within;
      place = tt;
      spared = spared_still n m.noted loss block.0 below m.victim note none;
      victim = tt;
      free = λ slot free.
          let away = free_away t m.table block.0 below_table apart mid filled.0 slot free in
          let out = out_of s.shape block.0 slot
          (λ e. away (ap (λ (x : Shape). slot / x.pages_per_block) m.blocks ∙ e)) in
          noted_out s n t (unsure.VictimErase block) m block.0 below note slot out
          ∙ (elim (free_before t m.table block.0 below_table apart mid filled.0 slot free) [
            | inl behind ↦ tail_blank n t.spare filled slot (ap (λ k. slot / k) (sym same_per) ∙ behind.0) some
                (subst (λ k. filled.0 ≤ slot % k) same_per behind.1)
            | inr before ↦ m.free slot before
          ]);
      shut = victim_shut s n t (unsure.VictimErase block) m block.0 below note apart mid filled;
    }
