-- Collecting a block, as a call: the spare is made blank, and then the block is collected.
use Rattle.collector.proofs.Common.{◌≡◌, ◌≢◌, ℕ, ◌*◌, ◌<◌, true, false, length, Ok, Err, Result, refl, sym, ap, ap₂, ◌∙◌, subst, arith, shape_of, blocks_of, Block, Protocol, Broken, erase, operation_started, LossLaw, IndexState, erased, with_spare, BlocksState, BreaksOff, Cleans, Collects, CopiesNeeded, ErasesVictim, collected, copied_from, swapped, needed_slots, HasUnneeded, counted_times, StoreParts}
use Rattle.collector.specs.Calls.{CollectsClean, stops_copying, comes_to_erase}
use Rattle.collector.specs.Going.{CostsBroken}
use Rattle.collector.specs.StoreParts.{IsSure}
use Rattle.collector.proofs.OfCollect.BreakingOff.{copies_broke, victim_broke}
use Rattle.collector.proofs.OfCollect.BrokenCollections.{broken_costs, broken_at_most, erase_broken, erase_costs}
use Rattle.collector.proofs.OfCollect.Collections.{collects}
use Rattle.collector.proofs.OfNotes.KeepsLemmas.{keeps_then, by_err}

-- what a broken erase of the spare costs
cleaning_costs : (p : Protocol) (a b : StoreParts) (x : Broken) → Cleans p a b (Err x) →
    CostsBroken a.noted.config.pages_per_block a.flash b.flash
cleaning_costs p a b x c = record { programs = omega (arith, c.programs); erases = c.erases }

-- the spare could not be made blank
pub collects_unclean : (p : Protocol) (a b : StoreParts) (block : ℕ) (x y : Broken) → Cleans p a b (Err x) →
    Collects p a b block (Err y)
collects_unclean p a b block x y c = record {
  keeps = c.keeps;
  done = tt;
  noted = tt;
  blocks = tt;
  reads = tt;
  broken = subst (BreaksOff a.noted a.flash b.flash a.table.spare block b.noted) (sym c.torn.0) (c.broken, c.torn.1);
  stays = c.blocks;
  costs = cleaning_costs p a b x c;
  at_most = broken_at_most a.noted.config.pages_per_block a.flash b.flash (cleaning_costs p a b x c);
}

-- what was copied, once the spare was blank: so the tables say it, and this many slots were read
module _ (p : Protocol) (a m h : StoreParts) (cleaned : Cleans p a m (Ok tt)) (block : Block) (used : ℕ)
    (c : CopiesNeeded p m h block.0 (Ok used)) where
  count : used ≡ length (needed_slots (erased a.noted a.table.spare) block.0)
  count = c.copied.count ∙ ap (λ (x : IndexState). length (needed_slots x block.0)) cleaned.noted

  pub noted_so : with_spare (erased h.noted block.0) block.0 ≡ collected a.noted a.table.spare block.0
  noted_so = ap (λ x. with_spare (erased x block.0) block.0) (c.copied.noted
      ∙ ap₂ (λ (t : BlocksState) (n : IndexState). copied_from n (t.spare * n.config.pages_per_block)
      (needed_slots n block.0)) cleaned.blocks cleaned.noted)

  pub table_so : h.table ≡ m.table → swapped h.table block.0 used
      ≡ swapped a.table block.0 (length (needed_slots (erased a.noted a.table.spare) block.0))
  table_so same = ap₂ (λ (t : BlocksState) u. swapped t block.0 u) (same ∙ cleaned.blocks) count

  pub reads_so : h.flash.reads ≡ counted_times (length (needed_slots (erased a.noted a.table.spare) block.0))
      a.flash.reads
  reads_so = c.copied.reads ∙ ap₂ counted_times count cleaned.reads

module _ (p : Protocol) (loss : LossLaw p) (a m : StoreParts) (k : IsSure p a) (cleaned : Cleans p a m (Ok tt))
    (block : Block)
    (exists : block.0 < blocks_of (shape_of a.noted.config))
    (apart : block.0 ≢ a.table.spare) (unneeded : HasUnneeded m.noted block.0) where
  costs_so_far : (b : StoreParts) (r : Result ℕ Broken) → CopiesNeeded p m b block.0 r →
      CostsBroken a.noted.config.pages_per_block a.flash b.flash
  costs_so_far b r c = broken_costs a.noted m.noted a.flash m.flash b.flash cleaned.keeps.preserves.config
      cleaned.programs cleaned.erases (c.costs unneeded)

  stopped : (b : StoreParts) (x y : Broken) → CopiesNeeded p m b block.0 (Err x) → b.table ≡ m.table →
      Collects p a b block.0 (Err y)
  stopped b x y c same = record {
    keeps = keeps_then p a m b true cleaned.keeps c.keeps;
    done = tt;
    noted = tt;
    blocks = tt;
    reads = tt;
    broken = copies_broke p loss a.flash a.noted a.table a.unsure k.rule k.matches m.flash m.noted m.table block.0
        cleaned.noted cleaned.blocks apart
        cleaned.keeps.carries.shape cleaned.done cleaned.reads cleaned.keeps.carries.lives b.flash b.noted
        b.unsure c.broken;
    stays = same ∙ cleaned.blocks;
    costs = costs_so_far b (Err x) c;
    at_most = broken_at_most a.noted.config.pages_per_block a.flash b.flash (costs_so_far b (Err x) c);
  }

  module _ (h b : StoreParts) (used : ℕ) (c : CopiesNeeded p m h block.0 (Ok used)) (same : h.table ≡ m.table) where
    shape2 : h.flash.shape ≡ a.flash.shape
    shape2 = c.keeps.carries.shape ∙ cleaned.keeps.carries.shape

    came : (r : Result (Unit {0}) Broken) → ErasesVictim p h b block used r → Collects p a b block.0 r
    came (Ok x) e = record {
      keeps = keeps_then p a h b false (keeps_then p a m h false cleaned.keeps c.keeps) e.keeps;
      done = collects p loss a.flash a.noted a.table a.unsure k.rule k.matches m.flash m.noted m.table block.0
          cleaned.noted cleaned.blocks apart
          cleaned.keeps.carries.shape cleaned.done h.flash h.noted used c.copied b.flash exists shape2 (Ok x) e.erases;
      noted = e.noted ∙ noted_so p a m h cleaned block used c;
      blocks = e.blocks ∙ table_so p a m h cleaned block used c same;
      reads = e.erases.reads ∙ reads_so p a m h cleaned block used c;
      broken = tt;
      stays = tt;
      costs = tt;
      at_most = erase_costs a.noted.config.pages_per_block a.flash h.flash b.flash block.0 (costs_so_far h (Ok used) c)
          (Ok x) e.erases;
    }
    came (Err x) e = record {
      keeps = keeps_then p a h b true (keeps_then p a m h false cleaned.keeps c.keeps) e.keeps;
      done = tt;
      noted = tt;
      blocks = tt;
      reads = tt;
      broken = victim_broke p loss a.flash a.noted a.table a.unsure k.rule k.matches m.flash m.noted m.table block.0
          cleaned.noted cleaned.blocks apart
          cleaned.keeps.carries.shape cleaned.done cleaned.reads h.flash b.flash h.noted used shape2 c.copied block refl
          b.noted b.unsure
          e.erases.torn
          (λ live. operation_started h.flash b.flash (erase block.0) (Err x)
          (c.keeps.carries.lives ∙ cleaned.keeps.carries.lives ∙ live) e.erases)
          e.erases.reads e.torn.0 e.torn.1;
      stays = e.torn.2 ∙ same ∙ cleaned.blocks;
      costs = erase_broken a.noted.config.pages_per_block a.flash h.flash b.flash block.0 (costs_so_far h (Ok used) c)
          (Err x) e.erases;
      at_most = erase_costs a.noted.config.pages_per_block a.flash h.flash b.flash block.0 (costs_so_far h (Ok used) c)
          (Err x) e.erases;
    }

  -- it was, and the block was collected
  pub collects_cleaned : (b : StoreParts) (r : Result (Unit {0}) Broken) → CollectsClean p m b block r →
      Collects p a b block.0 r
  collects_cleaned b r (stops_copying x is c same) = by_err r (Collects p a b block.0) is (λ y. stopped b x y c same)
  collects_cleaned b r (comes_to_erase between used c same e) = came between b used c same r e
