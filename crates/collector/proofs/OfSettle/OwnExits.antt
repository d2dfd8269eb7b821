-- A record of an open transaction that was programmed in a free slot, or whose program was broken, or which was found
-- there: what matches then.
use Rattle.collector.proofs.Common.{◌≡◌, ℕ, ◌/◌, ◌<◌, true, List, length, refl, sym, ap, ◌∙◌, arith, shape_of, slots_of, Protocol, Shape, Rec, FlashState, Contents, damaged, complete, slot_at, CanBeSpelled, PartialWriteLaw, CompletingWriteLaw, is_outside, Blank, Damaged, Holds, note_at, note_of, IndexState, IsNoted, programmed, damaged_at, BlocksState, IsBlocksState, IsFree, block_of_slot, with_slot, has_room_not_spare, Unsure, option_map_or, is_unsure, Matches, CanTakeOwn}
use Rattle.page_record.specs.Spelling.{spelling}
use Rattle.page_record.proofs.Spellings.{record_of-spelling}
use Rattle.die_alloc.proofs.Changes.{block_within}
use Rattle.collector.specs.declared.unsure.Unsure.TheVariants as unsure
use Rattle.collector.proofs.OfSettle.SettledExits.{settled_slot, free_with_slot, damaged_spared}
use Rattle.collector.proofs.OfNotes.ShutBlocks.{used_shut}
use Rattle.collector.proofs.OfSettle.Programming.{programmed_spared}
use Rattle.collector.proofs.OfSettle.SettledBlocks.{out_of}

-- a free slot lies outside the spare
pub free_out : (s : FlashState) (n : IndexState) (t : BlocksState) (u : Unsure) → Matches s n t u → (slot : ℕ) →
    IsFree t slot →
    is_outside (shape_of n.config) t.spare slot ≡ true
free_out s n t u m slot free =
    let apart = has_room_not_spare t m.table (block_of_slot t.shape slot)
    (block_within t m.table slot free.within) free.room in
    out_of (shape_of n.config) t.spare slot
    (λ e. apart (ap (λ (x : Shape). slot / x.pages_per_block) (m.blocks ∙ m.shape) ∙ e))

-- a slot of a record is noted as it reads
holds_reads : (p : Protocol) (rec : Rec) (contents : Contents) → CanBeSpelled p rec → (bytes : List ℕ) →
    contents ≡ complete bytes (spelling p rec) →
    Holds rec ≡ note_of p contents
holds_reads p rec contents spelled bytes is =
    sym (ap (note_of p) is ∙ ap (λ o. option_map_or Holds o Damaged) (record_of-spelling p rec spelled))

module _ (s : FlashState) (n : IndexState) (t : BlocksState) (u : Unsure) (m : Matches s n t u) (at : ℕ)
    (free : IsFree t at) (was : note_at n.notes at ≡ Blank)
    (only : (slot : ℕ) → is_unsure s.shape t.spare u slot ≡ true → slot ≡ at)
    (table : IsBlocksState (with_slot t at)) where
  within : at < slots_of s.shape
  within = omega (arith, free.within, ap slots_of m.blocks)

  long : at < length n.notes
  long = omega (arith, within, m.noted.slots, ap slots_of m.shape)

  positive : 0 < n.config.pages_per_block
  positive = (let b = m.noted.bounds.shape.pages_least in omega arith)

  -- the record is there
  pub own_there : (partial : PartialWriteLaw n.config.protocol) (completing : CompletingWriteLaw n.config.protocol)
      (rec : Rec) → CanTakeOwn n t rec →
      CanBeSpelled n.config.protocol rec → (bytes : List ℕ) →
      slot_at s.image at ≡ complete bytes (spelling n.config.protocol rec) →
      IsNoted n.config.protocol (programmed n at rec) → Matches s (programmed n at rec) (with_slot t at) unsure.Nothing
  own_there partial completing rec take spelled bytes reads noted =
      settled_slot s n t (with_slot t at) u m at within only (Holds rec) (programmed n at rec).mentions noted
      (holds_reads n.config.protocol rec (slot_at s.image at) spelled bytes reads) table refl refl
      (free_with_slot t m.table at free)
      (programmed_spared n m.noted partial completing at rec (omega (arith, within, m.noted.slots, ap slots_of m.shape))
      was t take (free_out s n t u m at free)
      noted m.spared)
      (used_shut n t m.shut positive m.table (m.blocks ∙ m.shape) at free (Holds rec) refl (programmed n at rec).mentions
      long)

  -- the slot is damaged
  pub own_damaged : slot_at s.image at ≡ damaged → IsNoted n.config.protocol (damaged_at n at) →
      Matches s (damaged_at n at) (with_slot t at) unsure.Nothing
  own_damaged reads noted =
      settled_slot s n t (with_slot t at) u m at within only Damaged n.mentions noted
      (sym (ap (note_of n.config.protocol) reads)) table refl refl
      (free_with_slot t m.table at free)
      (damaged_spared n at t.spare (omega (arith, within, m.noted.slots, ap slots_of m.shape)) was m.spared)
      (used_shut n t m.shut positive m.table (m.blocks ∙ m.shape) at free Damaged refl n.mentions long)
