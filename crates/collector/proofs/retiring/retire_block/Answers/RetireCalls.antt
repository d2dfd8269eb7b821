-- Retiring a block, as a call: the spare is replaced at once; else the spare is made blank, what is needed is copied,
-- and the block is replaced.
use Rattle.collector.proofs.Common.{◌≡◌, ◌≢◌, ℕ, ◌*◌, true, false, List, [], ◌++◌, length, Ok, Err, Result, refl, sym, ap, ◌∙◌, subst, cond-true, cond-false, ne_eqb, Block, Protocol, Broken, FlashState, Does, Operation, moment_of, LossLaw, IndexState, Unsure, Cleans, CopiesNeeded, Keeps, cleaning, copies, needed_slots, noted_cleaned, counted_times, RetiresVictim, StoreParts}
use Rattle.std.proofs.Common.{◌==◌, arith}
use Rattle.std.proofs.lemmas.Bool.Decides.{nat_tests}
use Rattle.flash_model.proofs.CallLemmas.{Carries-nothing}
use Rattle.flash_model.proofs.RetireLemmas.{CarriesRetiring-then}
use Rattle.collector.specs.declared.unsure.Unsure.TheVariants as unsure
use Rattle.collector.specs.BreakingOff.{CopiesBreakOff}
use Rattle.collector.specs.Retiring.{RetiresSpare, RetiresBlock, RetiresNone, EndsRetiring, retiring_first}
use Rattle.collector.specs.StoreParts.{IsSure}
use Rattle.collector.proofs.OfCollect.BreakingOff.{copies_broke, victim_broke}
use Rattle.collector.proofs.OfCollect.CollectCalls.{noted_so, table_so, reads_so}
use Rattle.collector.proofs.OfCollect.Collections.{all_copied}
use Rattle.collector.proofs.OfErase.Emptying.{retires_torn, retiring_started}
use Rattle.collector.proofs.OfNotes.KeepsLemmas.{keeps_then, keeps_retiring, tables_of, tables_then}

-- nothing was replaced by a call that broke off before
none_retired : (p : Protocol) (a b : StoreParts) → Keeps p a b true → RetiresNone a.flash b.flash
none_retired p a b k = (k.moves, k.carries.extras)

-- where the copies broke off nothing was replaced
ends_copying : (n : IndexState) (s old new : FlashState) (before : List Operation) (spare block : ℕ) (n' : IndexState)
    (u : Unsure) →
    CopiesBreakOff n s new before spare block n' u →
    RetiresNone old new → EndsRetiring old new block u
ends_copying n s old new before spare block n' unsure.Nothing b none = none
ends_copying n s old new before spare block n' (unsure.Copy from to) b none = none
ends_copying n s old new before spare block n' (unsure.Own at rec) b none = none
ends_copying n s old new before spare block n' unsure.SpareErase b none = none
ends_copying n s old new before spare block n' (unsure.VictimErase at) b none = absurd b

-- the spare was replaced, or that broke
same_number : (n : ℕ) → (n == n) ≡ true
same_number n = grind (arith, nat_tests)

is_spare : (p : Protocol) (a b : StoreParts) (r : Result (Unit {0}) Broken) → RetiresSpare p a b r →
    RetiresBlock p a b a.table.spare r
is_spare p a b (Ok x) e = record {
  keeps = e.keeps;
  done = record {
    between = a.flash;
    does = subst (λ l. Does a.flash.shape (moment_of a.flash) l (moment_of a.flash))
        (sym (cond-true (a.table.spare == a.table.spare) [] _ (same_number a.table.spare))) refl;
    carries = Carries-nothing a.flash;
    replaced = e.retires.done;
    started = retiring_started a.flash b.flash a.table.spare (Ok x) e.retires.powered e.retires;
  };
  noted = (λ spare. (e.noted, e.blocks), λ other. absurd (other refl));
  reads = e.retires.reads
      ∙ ap (λ l. counted_times (length l) a.flash.reads)
      (sym (cond-true (a.table.spare == a.table.spare) [] _ (same_number a.table.spare)));
  broken = tt;
  stays = tt;
}
is_spare p a b (Err x) e = record {
  keeps = e.keeps;
  done = tt;
  noted = tt;
  reads = tt;
  broken = (
    λ spare. record {
      left = e.retires.torn;
      started = e.retires.started;
      reads = e.retires.reads;
      noted = e.torn.1;
      place = e.torn.0;
    },
    λ other. absurd (other refl),
  );
  stays = e.blocks;
}

pub spare_retired : (p : Protocol) (a b : StoreParts) (block : ℕ) (r : Result (Unit {0}) Broken) → block ≡ a.table.spare
    → RetiresSpare p a b r → RetiresBlock p a b block r
spare_retired p a b block r spare e = subst (λ n. RetiresBlock p a b n r) (sym spare) (is_spare p a b r e)

module _ (p : Protocol) (loss : LossLaw p) (a m : StoreParts) (k : IsSure p a) (cleaned : Cleans p a m (Ok tt))
    (block : Block)
    (apart : block.0 ≢ a.table.spare) where
  not_spare : (block.0 == a.table.spare) ≡ false
  not_spare = ne_eqb block.0 a.table.spare apart

  -- a copy broke off
  pub retires_stopped : (b : StoreParts) (x y : Broken) → CopiesNeeded p m b block.0 (Err x) → b.table ≡ m.table →
      RetiresBlock p a b block.0 (Err y)
  retires_stopped b x y c same =
      let both = keeps_then p a m b true cleaned.keeps c.keeps in
      record {
        keeps = keeps_retiring p a b true both;
        done = tt;
        noted = tt;
        reads = tt;
        broken = (
          λ spare. absurd (apart spare),
          λ other. (
            copies_broke p loss a.flash a.noted a.table a.unsure k.rule k.matches m.flash m.noted m.table block.0
                cleaned.noted cleaned.blocks apart
                cleaned.keeps.carries.shape cleaned.done cleaned.reads cleaned.keeps.carries.lives b.flash b.noted
                b.unsure c.broken,
            ends_copying m.noted m.flash a.flash b.flash [] m.table.spare block.0 b.noted b.unsure c.broken
                (none_retired p a b both),
          ),
        );
        stays = same ∙ cleaned.blocks;
      }

  module _ (h b : StoreParts) (used : ℕ) (c : CopiesNeeded p m h block.0 (Ok used)) (same : h.table ≡ m.table) where
    before : Keeps p a h false
    before = keeps_then p a m h false cleaned.keeps c.keeps

    its_first : retiring_first a.noted a.flash.image a.table.spare block.0
        ≡ cleaning a.noted a.flash.image a.table.spare
        ++ copies a.noted.config.page_bytes a.flash.image (a.table.spare * a.noted.config.pages_per_block)
        (needed_slots (noted_cleaned a.noted a.table.spare) block.0)
    its_first = cond-false (block.0 == a.table.spare) [] _ not_spare

    -- all was copied, and the block was replaced, or that broke
    pub victim_retired : (r : Result (Unit {0}) Broken) → RetiresVictim p h b block used r →
        RetiresBlock p a b block.0 r
    victim_retired (Ok x) e = record {
      keeps = record {
        tables = tables_then p a h b false (tables_of p a h false before) e.keeps.tables;
        carries = CarriesRetiring-then a.flash h.flash b.flash false before.carries e.keeps.carries;
      };
      done = record {
        between = h.flash;
        does = subst (λ l. Does a.flash.shape (moment_of a.flash) l (moment_of h.flash)) (sym its_first)
            (all_copied p loss a.flash a.noted a.table a.unsure k.rule k.matches m.flash m.noted m.table block.0
            cleaned.noted cleaned.blocks apart
            cleaned.keeps.carries.shape cleaned.done h.flash h.noted used c.copied);
        carries = before.carries;
        replaced = e.retires.done;
        started = retiring_started h.flash b.flash block.0 (Ok x) e.retires.powered e.retires;
      };
      noted = (
        λ spare. absurd (apart spare),
        λ other. (
          e.noted ∙ noted_so p a m h cleaned block used c,
          e.blocks
              ∙ table_so p a m h cleaned block used c same,
        ),
      );
      reads = e.retires.reads ∙ reads_so p a m h cleaned block used c
          ∙ ap (λ l. counted_times (length l) a.flash.reads) (sym (cond-false (block.0 == a.table.spare) [] _ not_spare));
      broken = tt;
      stays = tt;
    }
    victim_retired (Err x) e = record {
      keeps = record {
        tables = tables_then p a h b true (tables_of p a h false before) e.keeps.tables;
        carries = CarriesRetiring-then a.flash h.flash b.flash true before.carries e.keeps.carries;
      };
      done = tt;
      noted = tt;
      reads = tt;
      broken = (
        λ spare. absurd (apart spare),
        λ other. (
          victim_broke p loss a.flash a.noted a.table a.unsure k.rule k.matches m.flash m.noted m.table block.0
              cleaned.noted cleaned.blocks apart
              cleaned.keeps.carries.shape cleaned.done cleaned.reads h.flash b.flash h.noted used before.carries.shape
              c.copied block refl b.noted b.unsure
              (retires_torn h.flash b.flash block.0 x e.retires)
              (λ live. retiring_started h.flash b.flash block.0 (Err x) (before.carries.lives ∙ live) e.retires)
              e.retires.reads e.torn.0 e.torn.1,
          subst (EndsRetiring a.flash b.flash block.0) (sym e.torn.0)
              (record {
                between = h.flash;
                moves = before.moves;
                carries = before.carries;
                left = e.retires.torn;
                started = e.retires.started;
              }),
        ),
      );
      stays = e.torn.2 ∙ same ∙ cleaned.blocks;
    }
