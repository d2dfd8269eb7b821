-- What the settlement says of an image: it is what a look at the unsure place finds.
use Rattle.collector.proofs.Common.{◌≡◌, ◌≢◌, ℕ, ◌/◌, ◌<◌, ◌≤◌, ◌*◌, List, length, Bool, true, false, eqb-true, if◌then◌else◌, None, refl, sym, ap, ◌∙◌, subst, inl, inr, arith, ◌==◌, ne_eqb, not-true, shape_of, slots_of, blocks_of, Config, Block, Protocol, Shape, Slot, Rec, FlashState, Contents, blank, damaged, complete, slot_at, PartialWriteLaw, CompletingWriteLaw, CopyLaw, LossLaw, cur, is_outside, Note, Blank, Damaged, Holds, records_in, array_in, found_in, note_at, note_of, rec_of, IndexState, IsNoted, current_of, programmed, copied, erased, with_spare, in_it, block_noted, BlocksState, IsFree, block_of_slot, has_room_not_spare, Unsure, is_blank_block, swapped, array_known, is_unsure, Matches, CanTakeOwn, IsErasing, IsNotedAt, AllOfBlock, Preserves, settlement, holds_record}
use Rattle.std.proofs.Common.{IsSome}
use Rattle.list_lemmas.proofs.Counts.{filled_count}
use Rattle.judged_records.specs.Images.{current_in}
use Rattle.judged_records.specs.IndexState.{lost}
use Rattle.judged_records.proofs.OfChanges.NotedChanges.{damaged_noted, copied_noted, programmed_noted}
use Rattle.die_alloc.proofs.Changes.{block_within}
use Rattle.collector.specs.declared.unsure.Settled.{Settled}
use Rattle.collector.specs.declared.unsure.Settled.TheVariants.{Present}
use Rattle.collector.specs.declared.unsure.Unsure.TheVariants as unsure
use Rattle.collector.specs.Matches.{CanTake, SpellsRecord, IsFilledBy}
use Rattle.collector.specs.Settling.{Settlement, own_settled, copy_settled, unchanged, count_records, block_reads_as_noted}
use Rattle.collector.proofs.OfNotes.Calm.{same_records}
use Rattle.collector.proofs.OfCopies.CopyNotes.{copy_preserves, copy_spared}
use Rattle.collector.proofs.OfErase.ErasedBlocks.{noted_all, blank_all, damaged_all}
use Rattle.collector.proofs.OfImages.KnownArrays.{array_is_known}
use Rattle.collector.proofs.OfNotes.Keeping.{preserves_same}
use Rattle.collector.proofs.OfNotes.Losing.{preserves, blocked, can_be_lost}
use Rattle.collector.proofs.OfSettle.DamagedNotes.{damaged_preserves}
use Rattle.collector.proofs.OfSettle.OwnExits.{own_there, own_damaged}
use Rattle.collector.proofs.OfSettle.SettledBlocks.{settled_spare, settled_victim}
use Rattle.collector.proofs.OfNotes.ShutBlocks.{copy_shut}
use Rattle.collector.proofs.OfSettle.SettledExits.{matches_surely, settled_slot, damaged_spared}
use Rattle.die_alloc.proofs.Swaps.{spare_table}
use Rattle.collector.proofs.OfSettle.TableChanges.{slot_table, table_swapped}
use Rattle.collector.proofs.OfErase.VictimCalls.{spare_noted, with_spare_preserves}

-- what is known then matches, and nothing but the record of an open transaction changes what is preserved
pub record Stands (s : FlashState) (n : IndexState) (found : Settlement) : Type 0 where
  pub matches : Matches s found.noted found.table unsure.Nothing
  pub config : found.noted.config ≡ n.config
  pub preserves : found.answer ≢ Present → Preserves n found.noted

-- it is as it was
as_before : (s : FlashState) (n : IndexState) (t : BlocksState) → Matches s n t unsure.Nothing →
    Stands s n (unchanged n t)
as_before s n t m = record { matches = m; config = refl; preserves = λ no_record. preserves_same n }

-- the one slot that is unsure is blank still
still_blank : (s : FlashState) (n : IndexState) (t : BlocksState) (u : Unsure) → Matches s n t u → (at : ℕ) →
    ((slot : ℕ) → is_unsure s.shape t.spare u slot ≡ true → slot ≡ at) → note_at n.notes at ≡ Blank →
    slot_at s.image at ≡ blank → Matches s n t unsure.Nothing
still_blank s n t u m at only was is =
    matches_surely s n t u m (λ slot within un. subst (IsNotedAt s.image n) (sym (only slot un)) (was
    ∙ ap (note_of n.config.protocol) (sym is)))

-- the slot of an open transaction's record
module _ (s : FlashState) (n : IndexState) (t : BlocksState) (at : Slot) (rec : Rec)
    (partial : PartialWriteLaw n.config.protocol)
    (completing : CompletingWriteLaw n.config.protocol)
    (m : Matches s n t (unsure.Own at rec)) (take : CanTakeOwn n t rec) where
  own_within : at.0 < slots_of (shape_of n.config)
  own_within = (let w = (m.place.0).within in omega (arith, w, ap slots_of m.blocks, ap slots_of m.shape))

  own_only : (slot : ℕ) → (slot == at.0) ≡ true → slot ≡ at.0
  own_only slot e = eqb-true slot at.0 e

  holds : (bytes spare : List ℕ) → slot_at s.image at.0 ≡ complete bytes spare →
      SpellsRecord n rec (slot_at s.image at.0)
  holds bytes spare is = elim m.place.3 [
    | inl none ↦ (let k : complete bytes spare ≡ blank = sym is ∙ none in cc)
    | inr (inl bad) ↦ (let k : complete bytes spare ≡ damaged = sym is ∙ bad in cc)
    | inr (inr spells) ↦ spells
  ]

  own_stands : (contents : Contents) → slot_at s.image at.0 ≡ contents →
      Stands s n (own_settled n t at.0 (λ k. programmed k at.0 rec) contents)
  own_stands blank is = record {
    matches = still_blank s n t (unsure.Own at rec) m at.0 own_only m.place.1 is;
    config = refl;
    preserves = λ no_record. preserves_same n;
  }
  own_stands damaged is = record {
    matches = own_damaged s n t (unsure.Own at rec) m at.0 m.place.0 m.place.1 own_only
        (slot_table t m.table at.0 m.place.0) is
        (damaged_noted n.config.protocol n m.noted at.0 own_within m.place.1);
    config = refl;
    preserves = λ no_record. damaged_preserves n at.0 (omega (arith, own_within, m.noted.slots)) m.place.1;
  }
  own_stands (complete bytes spare) is = record {
    matches = own_there s n t (unsure.Own at rec) m at.0 m.place.0 m.place.1 own_only
        (slot_table t m.table at.0 m.place.0) partial completing rec take
        m.place.2
        (holds bytes spare is).0 (holds bytes spare is).1
        (programmed_noted n.config.protocol n m.noted partial completing at.0 rec own_within m.place.1 take.next);
    config = refl;
    preserves = λ no_record. absurd (no_record refl);
  }

-- the slot of a copy
module _ (s : FlashState) (n : IndexState) (t : BlocksState) (from to : Slot) (law : CopyLaw n.config.protocol)
    (m : Matches s n t (unsure.Copy from to))
    (answer : Settled) where
  copy_within : to.0 < slots_of s.shape
  copy_within = omega (arith, m.place.0, ap slots_of m.shape)

  positive : 0 < n.config.pages_per_block
  positive = (let b = m.noted.bounds.shape.pages_least in omega arith)

  copy_only : (slot : ℕ) → (slot == to.0) ≡ true → slot ≡ to.0
  copy_only slot e = eqb-true slot to.0 e

  was : note_at n.notes to.0 ≡ Blank
  was = m.place.2

  long : to.0 < length n.notes
  long = omega (arith, m.place.0, m.noted.slots)

  long_from : from.0 < length n.notes
  long_from = omega (arith, m.place.3, m.noted.slots)

  -- a free slot lies outside the spare
  free_other : (slot : ℕ) → IsFree t slot → IsFree t slot × (slot ≢ to.0)
  free_other slot free = (
    free,
    λ e.
        has_room_not_spare t m.table (block_of_slot t.shape slot) (block_within t m.table slot free.within) free.room
        (ap (block_of_slot t.shape) e ∙ ap (λ (x : Shape). to.0 / x.pages_per_block) (m.blocks ∙ m.shape) ∙ m.place.1),
  )

  apart : from.0 ≢ to.0
  apart e = (let k : Holds (m.place.4).0 ≡ Blank = sym (m.place.4).1 ∙ ap (note_at n.notes) e ∙ was in cc)

  same_there : (bytes spare : List ℕ) → slot_at s.image to.0 ≡ complete bytes spare →
      slot_at s.image to.0 ≡ slot_at s.image from.0
  same_there bytes spare is = elim m.place.5 [
    | inl none ↦ (let k : complete bytes spare ≡ blank = sym is ∙ none in cc)
    | inr (inl bad) ↦ (let k : complete bytes spare ≡ damaged = sym is ∙ bad in cc)
    | inr (inr same) ↦ same
  ]

  copied' : IsNoted n.config.protocol (copied n from.0 to.0)
  copied' = copied_noted n.config.protocol n m.noted law from.0 to.0
      (subst (λ note. IsSome (rec_of note)) (sym (m.place.4).1) refl) m.place.0 was

  copy_stands : (contents : Contents) → slot_at s.image to.0 ≡ contents →
      Stands s n (record { noted = copy_settled n from.0 to.0 contents; table = t; answer = answer })
  copy_stands blank is = record {
    matches = still_blank s n t (unsure.Copy from to) m to.0 copy_only was is;
    config = refl;
    preserves = λ no_record. preserves_same n;
  }
  copy_stands damaged is = record {
    matches = settled_slot s n t t (unsure.Copy from to) m to.0 copy_within copy_only Damaged n.mentions
        (damaged_noted n.config.protocol n m.noted to.0 m.place.0 was)
        (sym (ap (note_of n.config.protocol) is)) m.table refl refl free_other
        (damaged_spared n to.0 t.spare long was m.spared)
        (copy_shut n t m.shut positive to.0 Damaged m.place.1);
    config = refl;
    preserves = λ no_record. damaged_preserves n to.0 long was;
  }
  copy_stands (complete bytes spare) is = record {
    matches = settled_slot s n t t (unsure.Copy from to) m to.0 copy_within copy_only (note_at n.notes from.0)
        n.mentions copied'
        (m.sure from.0 (omega (arith, m.place.3, ap slots_of m.shape)) (ne_eqb from.0 to.0 apart)
        ∙ ap (note_of n.config.protocol) (sym (same_there bytes spare is)))
        m.table refl refl free_other
        (copy_spared n m.noted law from.0 to.0 (m.place.4).0 (m.place.4).1 long_from long was copied' t.spare m.spared)
        (copy_shut n t m.shut positive to.0 (note_at n.notes from.0) m.place.1);
    config = refl;
    preserves = λ no_record. copy_preserves n m.noted law from.0 to.0 (m.place.4).0 (m.place.4).1 long_from
        long was copied';
  }

-- a block reads as it is noted
still_noted : (s : FlashState) (n : IndexState) (t : BlocksState) (u : Unsure) (m : Matches s n t u) (block : ℕ) →
    block < blocks_of (shape_of n.config) →
    IsErasing s.image n block →
    ((slot : ℕ) → is_unsure s.shape t.spare u slot ≡ true → is_outside s.shape block slot ≡ false) →
    block_reads_as_noted n s.image block ≡ true →
    Matches s n t unsure.Nothing
still_noted s n t u m block below erasing only reads =
    matches_surely s n t u m (λ slot within un.
    noted_all s n t u m block below erasing reads slot (omega (arith, within, ap slots_of m.shape))
    (in_it (shape_of n.config) block slot (ap (λ sh. is_outside sh block slot) (sym m.shape) ∙ only slot un)))

-- the spare
module _ (s : FlashState) (n : IndexState) (t : BlocksState) (law : LossLaw n.config.protocol)
    (m : Matches s n t unsure.SpareErase) (answer : Settled) where
  spare_below : t.spare < blocks_of (shape_of n.config)
  spare_below = omega (arith, m.table.spare_within, ap blocks_of m.blocks, ap blocks_of m.shape)

  without_spare : (note : Note) → rec_of note ≡ None → IsNoted n.config.protocol (blocked n t.spare note)
  without_spare note none = block_noted n.config.protocol n m.noted law t.spare note none spare_below
      (can_be_lost n t.spare m.spared)

  spare_stands : (old all : Bool) → block_reads_as_noted n s.image t.spare ≡ old →
      is_blank_block n s.image t.spare ≡ all →
      Stands s n (if old then unchanged n t else record {
        noted = if all then erased n t.spare else lost n t.spare;
        table = t;
        answer = answer;
      })
  spare_stands true all old_is all_is =
      as_before s n t (still_noted s n t unsure.SpareErase m t.spare spare_below m.place.0
      (λ slot un. not-true (is_outside s.shape t.spare slot) un) old_is)
  spare_stands false true old_is all_is = record {
    matches = settled_spare s n t m law blank Blank refl refl
        (blank_all s n t unsure.SpareErase m t.spare spare_below m.place.0 old_is all_is)
        (without_spare Blank refl);
    config = refl;
    preserves = λ no_record. preserves n m.noted law t.spare spare_below m.spared Blank refl;
  }
  spare_stands false false old_is all_is = record {
    matches = settled_spare s n t m law damaged Damaged refl refl
        (damaged_all s n t unsure.SpareErase m t.spare spare_below m.place.0 old_is all_is)
        (without_spare Damaged refl);
    config = refl;
    preserves = λ no_record. preserves n m.noted law t.spare spare_below m.spared Damaged refl;
  }

-- the records of a block whose first slots hold them
filled_held : (n : IndexState) (block filled : ℕ) → IsFilledBy n block filled → count_records n block ≡ filled
filled_held n block filled h =
    filled_count (λ slot. holds_record (note_at n.notes slot)) (block * n.config.pages_per_block)
    n.config.pages_per_block filled
    (let lt = h.within in omega arith)
    (λ k lt. ap holds_record (h.records k lt).1) (λ k low lt. ap holds_record (h.tail k low lt))

-- a block that is blank or lost has the same configuration
pub changed_config : (n : IndexState) (block : ℕ) (b : Bool) →
    (if b then erased n block else lost n block).config ≡ n.config
changed_config n block true = refl
changed_config n block false = refl

-- a collected block
module _ (s : FlashState) (n : IndexState) (t : BlocksState) (block : Block)
    (m : Matches s n t (unsure.VictimErase block)) where
  victim_below : block.0 < blocks_of (shape_of n.config)
  victim_below = m.place.0

  held : count_records n t.spare ≡ m.place.3.0
  held = filled_held n t.spare m.place.3.0 m.place.3.1

  -- the old spare has no more records than slots
  pub few : count_records n t.spare ≤ n.config.pages_per_block
  few = (let low = m.place.3.1.within in omega (arith, held, low))

  module _ (law : LossLaw n.config.protocol) (answer : Settled) where
    changed : (contents : Contents) (note : Note) → note ≡ note_of n.config.protocol contents → rec_of note ≡ None →
        AllOfBlock n block.0 (λ slot. slot_at s.image slot ≡ contents) →
        Stands s n (record {
          noted = with_spare (blocked n block.0 note) block.0;
          table = swapped t block.0 (count_records n t.spare);
          answer = answer;
        })
    changed contents note fits none all =
        let within : block.0 < blocks_of t.shape = omega (
          arith,
          victim_below,
          ap blocks_of m.blocks,
          ap blocks_of m.shape,
        ) in
        let per = ap (λ (x : Shape). x.pages_per_block) (m.blocks ∙ m.shape) in
        let good = table_swapped t m.table block.0 within m.place.1 (m.place.3).0 (let low = m.place.3.1.within in
        omega (arith, low, per)) in
        record {
          matches = subst (λ k. Matches s (with_spare (blocked n block.0 note) block.0) (swapped t block.0 k)
              unsure.Nothing) (sym held)
              (settled_victim s n t block m law contents note fits none all m.place.3 victim_below m.place.1
              (spare_noted n.config.protocol (blocked n block.0 note) block.0 victim_below
              (block_noted n.config.protocol n m.noted law block.0 note none victim_below
              (can_be_lost n block.0 m.victim)))
              (spare_table t m.table block.0 within m.place.1) good);
          config = refl;
          preserves = λ no_record. with_spare_preserves n (blocked n block.0 note) block.0
              (preserves n m.noted law block.0 victim_below m.victim note none);
        }

    victim_stands : (old all : Bool) → block_reads_as_noted n s.image block.0 ≡ old →
        is_blank_block n s.image block.0 ≡ all →
        Stands s n (if old then unchanged n t else record {
          noted = with_spare (if all then erased n block.0 else lost n block.0) block.0;
          table = swapped t block.0 (count_records n t.spare);
          answer = answer;
        })
    victim_stands true all old_is all_is =
        as_before s n t
        (still_noted s n t (unsure.VictimErase block) m block.0 victim_below m.place.2
        (λ slot un. not-true (is_outside s.shape block.0 slot) un) old_is)
    victim_stands false true old_is all_is = changed blank Blank refl refl
        (blank_all s n t (unsure.VictimErase block) m block.0 victim_below m.place.2 old_is all_is)
    victim_stands false false old_is all_is = changed damaged Damaged refl refl
        (damaged_all s n t (unsure.VictimErase block) m block.0 victim_below m.place.2 old_is all_is)

-- each place
pub settled_stands : (p : Protocol) → PartialWriteLaw p → CompletingWriteLaw p → CopyLaw p → LossLaw p →
    (s : FlashState) (n : IndexState) (t : BlocksState) (u : Unsure) →
    Matches s n t u → CanTake n t u → n.config.protocol ≡ p → Stands s n (settlement n t s.image u)
settled_stands p partial completing copy loss s n t unsure.Nothing m take rule = as_before s n t m
settled_stands p partial completing copy loss s n t (unsure.Own at rec) m take rule =
    own_stands s n t at rec (subst PartialWriteLaw (sym rule) partial) (subst CompletingWriteLaw (sym rule) completing)
    m take (slot_at s.image at.0) refl
settled_stands p partial completing copy loss s n t (unsure.Copy from to) m take rule =
    copy_stands s n t from to (subst CopyLaw (sym rule) copy) m
    _ (slot_at s.image to.0) refl
settled_stands p partial completing copy loss s n t unsure.SpareErase m take rule =
    spare_stands s n t (subst LossLaw (sym rule) loss) m _ (block_reads_as_noted n s.image t.spare)
    (is_blank_block n s.image t.spare) refl refl
settled_stands p partial completing copy loss s n t (unsure.VictimErase block) m take rule =
    victim_stands s n t block m (subst LossLaw (sym rule) loss) _ (block_reads_as_noted n s.image block.0)
    (is_blank_block n s.image block.0) refl refl

-- the records are those of the image
pub settled_records : (p : Protocol) (s : FlashState) (n : IndexState) (found : Settlement) → Stands s n found →
    n.config.protocol ≡ p →
    records_in p s.image ≡ found_in found.noted.notes
settled_records p s n found h rule =
    ap (λ q. records_in q s.image) (sym rule ∙ sym (ap (λ (c : Config). c.protocol) h.config))
    ∙ sym (same_records s found.noted found.table h.matches)

-- so are the current versions
pub settled_current : (p : Protocol) (s : FlashState) (n : IndexState) (found : Settlement) → Stands s n found →
    n.config.protocol ≡ p → (page : ℕ) →
    current_in p n.config.logical s.image page ≡ current_of found.noted page
unfolding current_in current_of
settled_current p s n found h rule page =
    ap (λ l. cur p l n.config.logical page) (settled_records p s n found h rule)
    ∙ ap (λ q. cur q (found_in found.noted.notes) n.config.logical page) (sym rule)
    ∙ ap (λ (c : Config). cur c.protocol (found_in found.noted.notes) c.logical page) (sym h.config)

-- and the array
pub settled_array : (p : Protocol) (s : FlashState) (n : IndexState) (found : Settlement) → Stands s n found →
    n.config.protocol ≡ p →
    array_in p n.config.logical s.image ≡ array_known found.noted s.image
settled_array p s n found h rule =
    ap (λ (c : Config). array_in p c.logical s.image) (sym h.config)
    ∙ array_is_known p found.noted s.image (ap (λ (c : Config). c.protocol) h.config ∙ rule)
    (λ page within. ap (λ (c : Config). current_in p c.logical s.image page) h.config
    ∙ settled_current p s n found h rule page)

-- where the current versions stay, it is the array that was known
pub settled_kept : (p : Protocol) (s : FlashState) (n : IndexState) (found : Settlement) → Stands s n found →
    n.config.protocol ≡ p → Preserves n found.noted →
    array_in p n.config.logical s.image ≡ array_known n s.image
settled_kept p s n found h rule kept =
    array_is_known p n s.image rule (λ page within. settled_current p s n found h rule page ∙ kept.current page within)
