-- Which records are held in a later image: where room is made, and where the record of an open transaction is written.
use Rattle.tx_engine.proofs.Common.{◌≡◌, ◌≢◌, ℕ, ◌<◌, refl, ap, ◌∙◌, arith, shape_of, slots_of, Config, Slot, Rec, FlashState, Contents, blank, damaged, complete, slot_at, records_in, Blank, note_at, found_in, IndexState, IsNoted, IsNextRecord, programmed, BlocksState, Unsure, Matches, CanTake, CanTakeOwn, Preserves, settlement, ImageIsSound, NotingKeeps}
use Rattle.collector.specs.declared.unsure.Unsure.TheVariants as unsure
use Rattle.collector.specs.declared.unsure.Settled.TheVariants as settled
use Rattle.collector.specs.Settling.{own_settled}
use Rattle.collector.proofs.OfNotes.Keeping.{preserves_same, preserves_then}
use Rattle.tx_engine.specs.Held.{AddsNoHeldIn}
use Rattle.tx_engine.proofs.OfDevice.HeldRecords.{held_between, held_kept, held_noted}
use Rattle.tx_engine.proofs.OfDevice.Kept.{IsNoOwn}
use Rattle.tx_engine.proofs.OfLaws.DevicesStand.{no_record, spare_other}

-- what is no program of a record of an open transaction can be taken, and is found to be none
no_own_taken : (n : IndexState) (t : BlocksState) (u : Unsure) → IsNoOwn u → CanTake n t u
no_own_taken n t unsure.Nothing none = tt
no_own_taken n t (unsure.Own at rec) none = absurd (none at rec refl)
no_own_taken n t (unsure.Copy from to) none = tt
no_own_taken n t unsure.SpareErase none = tt
no_own_taken n t (unsure.VictimErase block) none = tt

no_own_found : (s : FlashState) (n : IndexState) (t : BlocksState) (u : Unsure) → IsNoOwn u →
    (settlement n t s.image u).answer ≢ settled.Present
no_own_found s n t unsure.Nothing none = λ e. cc
no_own_found s n t (unsure.Own at rec) none = absurd (none at rec refl)
no_own_found s n t (unsure.Copy from to) none = λ e. cc
no_own_found s n t unsure.SpareErase none = spare_other _ n t _ refl
no_own_found s n t (unsure.VictimErase block) none = spare_other _ n t _ refl

-- The first image is the one of the tables.
module _ (s s' : FlashState) (n : IndexState) (t : BlocksState) (images : ImageIsSound n.config.protocol)
    (m : Matches s n t unsure.Nothing) where
  abbrev Holds : Type 0
  Holds = AddsNoHeldIn n.config.protocol n.config.logical s.image s'.image

  was : records_in n.config.protocol s.image ≡ found_in n.notes
  was = images.records s n t unsure.Nothing m tt refl

  -- the tables of the second keep those of the first
  held_found : (n' : IndexState) (t' : BlocksState) (u' : Unsure) → Matches s' n' t' u' → CanTake n' t' u' →
      Preserves n n' → (settlement n' t' s'.image u').answer ≢ settled.Present → Holds
  held_found n' t' u' m' take keep other =
      let rule = ap (λ (c : Config). c.protocol) keep.config in
      let found = settlement n' t' s'.image u' in
      held_between n.config.protocol n.config.logical s.image s'.image (found_in n.notes) (found_in found.noted.notes)
      was (images.records s' n' t' u' m' take rule)
      (held_kept n found.noted
      (preserves_then n n' found.noted keep (images.preserves s' n' t' u' m' take rule other).0))

  pub held_left : (n' : IndexState) (t' : BlocksState) (u' : Unsure) → Matches s' n' t' u' → IsNoOwn u' →
      Preserves n n' → Holds
  held_left n' t' u' m' none keep = held_found n' t' u' m' (no_own_taken n' t' u' none) keep
      (no_own_found s' n' t' u' none)

  -- a record was programmed that is asked for
  module _ (notes : NotingKeeps n.config.protocol) (at : ℕ) (rec : Rec) (noted : IsNoted n.config.protocol n)
      (next : IsNextRecord n rec) (within : at < slots_of (shape_of n.config)) (free : note_at n.notes at ≡ Blank) where
    held_there : records_in n.config.protocol s'.image ≡ found_in (programmed n at rec).notes → Holds
    held_there is =
        held_between n.config.protocol n.config.logical s.image s'.image (found_in n.notes)
        (found_in (programmed n at rec).notes) was is (held_noted n.config.protocol notes n at rec noted next within free)

    pub held_written : (t' : BlocksState) → Matches s' (programmed n at rec) t' unsure.Nothing → Holds
    held_written t' m' = held_there (images.records s' (programmed n at rec) t' unsure.Nothing m' tt refl)

  -- or its program was broken
  module _ (notes : NotingKeeps n.config.protocol) (t' : BlocksState) (at : Slot) (rec : Rec)
      (take : CanTakeOwn n t' rec) (m' : Matches s' n t' (unsure.Own at rec)) where
    by_slot : (c : Contents) → slot_at s'.image at.0 ≡ c → Holds
    by_slot blank is = held_found n t' (unsure.Own at rec) m' take (preserves_same n)
        (no_record n t' s'.image at rec blank is refl)
    by_slot damaged is = held_found n t' (unsure.Own at rec) m' take (preserves_same n)
        (no_record n t' s'.image at rec damaged is refl)
    by_slot (complete bytes spare) is =
        held_there notes at.0 rec m'.noted take.next
        (omega (arith, m'.place.0.within, ap slots_of m'.blocks, ap slots_of m'.shape)) m'.place.1
        (images.records s' n t' (unsure.Own at rec) m' take refl
        ∙ ap (λ (c : Contents). found_in (own_settled n t' at.0 (λ q. programmed q at.0 rec) c).noted.notes) is)

    pub held_torn : Holds
    held_torn = by_slot (slot_at s'.image at.0) refl
