-- Copying what is needed in a block, as a call.
use Rattle.collector.proofs.Common.{◌≡◌, ◌≢◌, ℕ, ◌+◌, ◌*◌, ◌<◌, ◌≤◌, true, Ok, Err, arith, shape_of, blocks_of, Protocol, Slot, Broken, FlashState, IndexState, needed_of, Unsure, CopiesNeeded, CopiesRecord, StoreParts, store_parts}
use Rattle.collector.proofs.OfCollect.BreakingOff.{copying_broke}
use Rattle.collector.proofs.OfCollect.BrokenCollections.{copying_costs, copying_costs_torn}
use Rattle.collector.proofs.OfCopies.CopyingBlocks.{CopiedSoFar, copied_all, fewer_slots}
use Rattle.collector.proofs.OfNotes.KeepsLemmas.{keeps_then}

module _ (p : Protocol) (a : StoreParts) (n : IndexState) (s : FlashState) (u : Unsure) (first start at used block : ℕ)
    (h : CopiedSoFar p a n s a.table u first start at used)
    (block_is : first ≡ block * a.noted.config.pages_per_block)
    (spare_is : start ≡ a.table.spare * a.noted.config.pages_per_block)
    (apart : block ≢ a.table.spare) where
  -- all was copied
  pub needed_copied : at ≡ first + a.noted.config.pages_per_block →
      CopiesNeeded p a (store_parts s n a.table u) block (Ok used)
  needed_copied end = record {
    keeps = h.keeps;
    copied = copied_all p a n s a.table u first start at used block h block_is spare_is end apart;
    broken = tt;
    costs = λ unneeded.
        copying_costs p a n s a.table u first start at used h
        (fewer_slots p a n s a.table u first start at used block h block_is spare_is end apart unneeded);
  }

  -- the next copy broke off
  pub needed_broke : first ≤ at → at < first + a.noted.config.pages_per_block →
      block < blocks_of (shape_of a.noted.config) → needed_of n at ≡ true →
      (from to : Slot) → from.0 ≡ at → to.0 ≡ start + used → (s' : FlashState) (n' : IndexState) (u' : Unsure)
      (x y : Broken) →
      CopiesRecord p (store_parts s n a.table u) (store_parts s' n' a.table u') from to (Err x) →
      CopiesNeeded p a (store_parts s' n' a.table u') block (Err y)
  needed_broke low high below needed from to from_is to_is s' n' u' x y c = record {
    keeps = keeps_then p a (store_parts s n a.table u) (store_parts s' n' a.table u') true h.keeps c.keeps;
    copied = tt;
    broken = copying_broke p a n s a.table u first start at used block h low block_is spare_is high apart below needed
        s' n' u' from to from_is to_is c.stays
        c.broken;
    costs = λ unneeded.
        copying_costs_torn p a n s a.table u first start at used h (let le = h.within in
        omega (arith, le, low, high)) s' c.counts;
  }
