-- A free slot was asked for: only the die at which the next search begins moves.
use Rattle.collector.proofs.Common.{◌≡◌, true, false, Some, Ok, Err, sym, ap, ◌∙◌, subst, arith, Protocol, Slot, Broken, FlashState, IndexState, BlocksState, IsBlocksState, IsFull, Unsure, Keeps, CollectsVictim, Matches, StoreParts, store_parts}
use Rattle.die_alloc.specs.BlocksState.{IsFirstFree}
use Rattle.die_alloc.specs.NextSlot.{next_slot, after_next_slot}
use Rattle.collector.specs.declared.unsure.Unsure.TheVariants as unsure
use Rattle.collector.specs.Calls.{AllocatesSlot}
use Rattle.collector.specs.StoreParts.{IsSure}
use Rattle.collector.proofs.OfRoom.GoingCounts.{clear_stays}
use Rattle.collector.proofs.OfNotes.KeepsLemmas.{keeps_same}

moved : (s : FlashState) (n : IndexState) (t : BlocksState) → IsBlocksState (after_next_slot t) →
    Matches s n t unsure.Nothing →
    Matches s n (after_next_slot t) unsure.Nothing
moved s n t good m = record {
  shape = m.shape;
  flash = m.flash;
  sound = m.sound;
  noted = m.noted;
  counts = m.counts;
  table = good;
  blocks = m.blocks;
  spare = m.spare;
  sure = m.sure;
  place = m.place;
  spared = m.spared;
  victim = m.victim;
  free = λ slot free. m.free slot (record { within = free.within; room = free.room; unused = free.unused });
  shut = record { spare = m.shut.spare; others = m.shut.others };
}

pub matches_moved : (s : FlashState) (n : IndexState) (t t' : BlocksState) (u : Unsure) → u ≡ unsure.Nothing →
    Matches s n t u → t' ≡ after_next_slot t →
    IsBlocksState t' → Matches s n t' u
matches_moved s n t t' u nothing m is good =
    subst (Matches s n t') (sym nothing)
    (subst (λ (k : BlocksState). Matches s n k unsure.Nothing) (sym is)
    (moved s n t (subst IsBlocksState is good) (subst (Matches s n t) nothing m)))

keeps_moved : (p : Protocol) (a b : StoreParts) (t : BlocksState) → t ≡ after_next_slot b.table → IsBlocksState t →
    Keeps p a b false →
    Keeps p a (store_parts b.flash b.noted t b.unsure) false
keeps_moved p a b t is good h = record {
  matches = matches_moved b.flash b.noted b.table t b.unsure h.sure h.matches is good;
  preserves = h.preserves;
  array = h.array;
  sure = h.sure;
  others = h.others;
  records = h.records;
  moves = h.moves;
  carries = h.carries;
  since = h.since;
}

module _ (p : Protocol) (a : StoreParts) (k : IsSure p a) where
  -- a block had room
  pub found_at_once : (t : BlocksState) → t ≡ after_next_slot a.table → IsBlocksState t → (IsFull a.table → ⊥) →
      (at : Slot) → IsFirstFree t at.0 →
      AllocatesSlot p a (store_parts a.flash a.noted t a.unsure) (Ok at)
  found_at_once t is good room at free = record {
    keeps = keeps_moved p a a t is good (keeps_same p a k);
    free = free;
    collects = λ full. absurd (room full);
    stays = tt;
    broken = tt;
    costs = record { programs = omega arith; erases = omega arith };
    still_clear = λ page below clear. clear;
  }

  -- a block had to be collected, and that broke off
  pub found_none : (b : StoreParts) (x y : Broken) → CollectsVictim p a b (Err x) → AllocatesSlot p a b (Err y)
  found_none b x y c = record {
    keeps = c.keeps;
    free = tt;
    collects = λ full. tt;
    stays = c.stays;
    broken = c.broken;
    costs = c.costs;
    still_clear = clear_stays a.noted b.noted k.matches.noted c.keeps.preserves c.keeps.records;
  }

  -- or it was done
  pub found_then : (b : StoreParts) → CollectsVictim p a b (Ok true) → (t : BlocksState) → t ≡ after_next_slot b.table →
      IsBlocksState t → (at : Slot) →
      next_slot b.table ≡ Some at →
      IsFirstFree t at.0 → AllocatesSlot p a (store_parts b.flash b.noted t b.unsure) (Ok at)
  found_then b c t is good at slot free = record {
    keeps = keeps_moved p a b t is good c.keeps;
    free = free;
    collects = λ full. record {
      victim = c.done.victim;
      is_victim = c.done.is_victim;
      noted = c.done.noted;
      slot = ap next_slot (sym c.done.table) ∙ slot;
      table = is ∙ ap after_next_slot c.done.table;
    };
    stays = tt;
    broken = tt;
    costs = c.costs;
    still_clear = clear_stays a.noted b.noted k.matches.noted c.keeps.preserves c.keeps.records;
  }
