-- The erase of a collected block as a call: what it leaves where it is done, and where it is broken.
use Rattle.collector.proofs.Common.{ℕ, ◌<◌, true, false, Ok, Err, refl, sym, ap, ◌∙◌, subst, arith, shape_of, blocks_of, Block, Protocol, Broken, FlashState, Erases, erase, CanDo, LossLaw, WrittenLossLaw, Blank, IndexState, IsNoted, current_of, held_of, erased, with_spare, block_noted, IsBlocksState, table_with_spare, ErasesVictim, swapped, Matches, Preserves, KeepsArray, KeepsStore, StoreParts, store_parts}
use Rattle.std.proofs.lemmas.List.{length-set}
use Rattle.collector.specs.declared.unsure.Unsure.TheVariants as unsure
use Rattle.collector.specs.Calls.{CanErase}
use Rattle.collector.specs.StoreParts.{IsSure}
use Rattle.collector.proofs.OfCollect.Chains.{HasNoNewRecord-nothing}
use Rattle.collector.proofs.OfCollect.CollectedNotes.{erased_no_new}
use Rattle.collector.proofs.OfErase.EraseExits.{victim_erased, victim_torn, array_erased, left_torn}
use Rattle.collector.proofs.OfErase.Emptying.{Empties, erases_empties}
use Rattle.collector.proofs.OfNotes.Keeping.{preserves_same}
use Rattle.collector.proofs.OfNotes.KeepsLemmas.{keeps_erase}
use Rattle.collector.proofs.OfNotes.Losing.{preserves, can_be_lost}

-- a block that becomes the spare is noted so
pub spare_noted : (p : Protocol) (n : IndexState) (block : ℕ) → block < blocks_of (shape_of n.config) → IsNoted p n →
    IsNoted p (with_spare n block)
spare_noted p n block below k = record {
  check = k.check;
  bounds = k.bounds;
  rule = k.rule;
  slots = k.slots;
  pages = k.pages;
  mentions = k.mentions;
  spare = below;
  closed = length-set n.closed block false ∙ k.closed;
  scanned = k.scanned;
  sound = k.sound;
  mentioned = k.mentioned;
}

-- another spare changes nothing of what is preserved
pub with_spare_preserves : (n m : IndexState) (block : ℕ) → Preserves n m → Preserves n (with_spare m block)
unfolding current_of held_of
with_spare_preserves n m block h = record {
  config = h.config;
  pins = h.pins;
  mentions = h.mentions;
  current = h.current;
  fewer = h.fewer;
  pinned = h.pinned;
  present = h.present;
  held = h.held;
  in_progress = h.in_progress;
}

module _ (p : Protocol) (loss : LossLaw p) (written_loss : WrittenLossLaw p) (a : StoreParts) (k : IsSure p a)
    (b : Block) (used : ℕ)
    (can : CanErase a.noted a.table b.0 used)
    (s' : FlashState) where
  m : Matches a.flash a.noted a.table unsure.Nothing
  m = subst (Matches a.flash a.noted a.table) k.nothing k.matches

  law : LossLaw a.noted.config.protocol
  law = subst LossLaw (sym k.rule) loss

  written_law : WrittenLossLaw a.noted.config.protocol
  written_law = subst WrittenLossLaw (sym k.rule) written_loss

  at_rule : KeepsArray a.noted.config.protocol a.noted.config.logical a.flash.image s'.image →
      KeepsArray p a.noted.config.logical a.flash.image s'.image
  at_rule = subst (λ q. KeepsArray q a.noted.config.logical a.flash.image s'.image) k.rule

  can_do : CanDo a.flash.shape a.flash.image (erase b.0)
  can_do = omega (arith, can.exists, ap blocks_of m.shape)

  some : 0 < a.noted.config.pages_per_block
  some = (let x = m.noted.bounds.shape.pages_least in omega arith)

  abbrev now : IndexState
  now = with_spare (erased a.noted b.0) b.0

  -- what is kept where the block was made blank, and is the spare
  pub victim_emptied : Empties a.flash s' b.0 (Ok tt) → IsBlocksState (table_with_spare a.table b.0) →
      IsBlocksState (swapped a.table b.0 used) →
      KeepsStore p a (store_parts s' now (swapped a.table b.0 used) a.unsure) false
  victim_emptied done between good = record {
    matches = subst (Matches s' now (swapped a.table b.0 used)) (sym k.nothing)
        (victim_erased a.flash s' a.noted a.table m law written_law b.0 can.exists can.not_spare can.spared (
          used,
          can.filled,
        ) done
        (spare_noted a.noted.config.protocol (erased a.noted b.0) b.0 can.exists
        (block_noted a.noted.config.protocol a.noted m.noted law b.0 Blank refl can.exists
        (can_be_lost a.noted b.0 can.spared)))
        between good);
    preserves = with_spare_preserves a.noted (erased a.noted b.0) b.0
        (preserves a.noted m.noted law b.0 can.exists can.spared Blank refl);
    array = at_rule (array_erased a.flash s' a.noted a.table m law written_law b.0 can.exists can.spared
        done.shape done.done);
    sure = k.nothing;
    others = λ at rec own. (let q = sym k.nothing ∙ own in cc);
    records = erased_no_new a.noted some m.noted.slots b.0 can.exists;
  }

  -- and where that was broken
  pub victim_left : (x : Broken) → Empties a.flash s' b.0 (Err x) →
      KeepsStore p a (store_parts s' a.noted a.table (unsure.VictimErase b)) true
  victim_left x broken = record {
    matches = victim_torn a.flash s' a.noted a.table m law written_law b can.exists can.not_spare can.spared (
      used,
      can.filled,
    ) x broken;
    preserves = preserves_same a.noted;
    array = at_rule (left_torn a.flash s' a.noted a.table m law written_law b.0 can.exists can.spared broken.shape
        broken.torn.0 broken.torn.1).array;
    sure = tt;
    others = λ at rec own. (let q = own in cc);
    records = HasNoNewRecord-nothing a.noted;
  }

  pub victim_done : (x : Unit {0}) → Erases a.flash s' b.0 (Ok x) → IsBlocksState (table_with_spare a.table b.0) →
      IsBlocksState (swapped a.table b.0 used) →
      ErasesVictim p a (store_parts s' now (swapped a.table b.0 used) a.unsure) b used (Ok tt)
  victim_done x e between good = record {
    keeps = keeps_erase p a (store_parts s' now (swapped a.table b.0 used) a.unsure) k b.0 can_do can.spared (Ok x) e
        (victim_emptied (erases_empties a.flash s' b.0 (Ok tt) e) between good);
    erases = e;
    noted = refl;
    blocks = refl;
    torn = tt;
  }

  pub victim_breaks : (x : Broken) → Erases a.flash s' b.0 (Err x) →
      ErasesVictim p a (store_parts s' a.noted a.table (unsure.VictimErase b)) b used (Err x)
  victim_breaks x e = record {
    keeps = keeps_erase p a (store_parts s' a.noted a.table (unsure.VictimErase b)) k b.0 can_do can.spared (Err x) e
        (victim_left x (erases_empties a.flash s' b.0 (Err x) e));
    erases = e;
    noted = tt;
    blocks = tt;
    torn = (refl, refl, refl);
  }
