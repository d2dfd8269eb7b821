-- Replacing the spare, and a block whose needed records were copied, as calls: where they are done, and where they are
-- broken.
use Rattle.collector.proofs.Common.{ℕ, Ok, Err, refl, Block, Protocol, Broken, FlashState, Retires, LossLaw, WrittenLossLaw, erased, with_spare, IsBlocksState, table_with_spare, swapped, RetiresVictim, StoreParts, store_parts}
use Rattle.collector.specs.declared.unsure.Unsure.TheVariants as unsure
use Rattle.collector.specs.Calls.{CanErase}
use Rattle.collector.specs.Retiring.{RetiresSpare}
use Rattle.collector.specs.StoreParts.{IsSure}
use Rattle.collector.proofs.OfClean.Cleanings.{spare_emptied, spare_left}
use Rattle.collector.proofs.OfErase.Emptying.{retires_empties}
use Rattle.collector.proofs.OfErase.VictimCalls.{victim_emptied, victim_left}

module _ (p : Protocol) (loss : LossLaw p) (written_loss : WrittenLossLaw p) (a : StoreParts) (k : IsSure p a)
    (s' : FlashState) where
  -- the spare
  pub spare_done : (x : Unit {0}) → Retires a.flash s' a.table.spare (Ok x) →
      RetiresSpare p a (store_parts s' (erased a.noted a.table.spare) a.table a.unsure) (Ok tt)
  spare_done x e = record {
    keeps = record {
      tables = spare_emptied p loss written_loss a k s'
          (retires_empties a.flash s' a.table.spare (Ok tt) e);
      carries = e.carries;
    };
    retires = e;
    noted = refl;
    torn = tt;
    blocks = refl;
  }

  pub spare_broke : (x : Broken) → Retires a.flash s' a.table.spare (Err x) →
      RetiresSpare p a (store_parts s' a.noted a.table unsure.SpareErase) (Err x)
  spare_broke x e = record {
    keeps = record {
      tables = spare_left p loss written_loss a k s' x
          (retires_empties a.flash s' a.table.spare (Err x) e);
      carries = e.carries;
    };
    retires = e;
    noted = tt;
    torn = (refl, refl);
    blocks = refl;
  }

  -- another block
  module _ (b : Block) (used : ℕ) (can : CanErase a.noted a.table b.0 used) where
    pub replaced_done : (x : Unit {0}) → Retires a.flash s' b.0 (Ok x) → IsBlocksState (table_with_spare a.table b.0) →
        IsBlocksState (swapped a.table b.0 used) →
        RetiresVictim p a (store_parts s' (with_spare (erased a.noted b.0) b.0) (swapped a.table b.0 used) a.unsure)
        b used (Ok tt)
    replaced_done x e between good = record {
      keeps = record {
        tables = victim_emptied p loss written_loss a k b used can s' (retires_empties a.flash s' b.0 (Ok tt) e) between
            good;
        carries = e.carries;
      };
      retires = e;
      noted = refl;
      blocks = refl;
      torn = tt;
    }

    pub replaced_broke : (x : Broken) → Retires a.flash s' b.0 (Err x) →
        RetiresVictim p a (store_parts s' a.noted a.table (unsure.VictimErase b)) b used (Err x)
    replaced_broke x e = record {
      keeps = record {
        tables = victim_left p loss written_loss a k b used can s' x
            (retires_empties a.flash s' b.0 (Err x) e);
        carries = e.carries;
      };
      retires = e;
      noted = tt;
      blocks = tt;
      torn = (refl, refl, refl);
    }
