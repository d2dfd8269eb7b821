-- Settling as a call: what it leaves once the place was read, and after a failed read.
use Rattle.collector.proofs.Common.{◌≡◌, true, List, ℕ, Ok, Err, Result, refl, sym, ap, subst, is_err, Protocol, Broken, FlashState, Reads, Moment, IndexState, BlocksState, Unsure, Looks, Matches, settlement, Finds, StoreParts, store_parts}
use Rattle.collector.specs.declared.unsure.Settled.{Settled}
use Rattle.collector.specs.declared.unsure.Unsure.TheVariants as unsure
use Rattle.collector.specs.Settling.{slots_read, CanSettle, Settles}
use Rattle.collector.proofs.OfSettle.BlockReadings.{looks_broken}
use Rattle.collector.proofs.OfSettle.SettledExits.{matches_still}
use Rattle.collector.proofs.OfSettle.SettledImages.{Stands}

-- the one slot could not be read
pub finds_unread : (a : StoreParts) (s : FlashState) (at : ℕ) (bytes spare : List ℕ) (x y : Broken) →
    slots_read a.noted a.unsure ≡ 1 →
    Reads a.flash s at bytes spare (Err x) →
    Finds a s a.noted a.table (Err y)
finds_unread a s at bytes spare x y one reads = record {
  found = tt;
  failed = (refl, refl);
  looks = subst (λ k. Looks a.flash s k true) (sym one) (looks_broken a.flash s at bytes spare (Err x) x reads refl);
}

module _ (p : Protocol) (a : StoreParts) (page : List ℕ) (can : CanSettle p a page) (s : FlashState) (n : IndexState)
    (t : BlocksState) where
  -- where slots were read, other tables match that are those
  matches_as : (k : IndexState) (m : BlocksState) (u : Unsure) (broken : _) →
      Looks a.flash s (slots_read a.noted a.unsure) broken → n ≡ k → t ≡ m →
      Matches a.flash k m u → Matches s n t u
  matches_as k m u broken looks noted table h =
      subst (λ x. Matches s x t u) (sym noted)
      (subst (λ x. Matches s k x u) (sym table)
      (matches_still a.flash s k m u looks.carries.shape (ap (λ (x : Moment). x.image) looks.moment) h))

  pub settles_failed : (x : Broken) (r : Result Settled Broken) → is_err r ≡ true → Finds a s n t (Err x) →
      Settles a (store_parts s n t a.unsure) r
  settles_failed x (Ok y) e h = absurd (let k = e in cc)
  settles_failed x (Err y) e h = record {
    matches = matches_as a.noted a.table a.unsure true h.looks h.failed.0 h.failed.1 can.kept.matches;
    found = tt;
    sure = tt;
    failed = (h.failed.0, h.failed.1, refl);
    moment = h.looks.moment;
    carries = h.looks.carries;
    reads = tt;
    first_failed = h.looks.some;
  }

  pub settles_done : (answer : Settled) → Stands a.flash a.noted (settlement a.noted a.table a.flash.image a.unsure) →
      Finds a s n t (Ok answer) →
      Settles a (store_parts s n t unsure.Nothing) (Ok answer)
  settles_done answer stands h = record {
    matches = matches_as _ _ unsure.Nothing _ h.looks h.found.noted h.found.table stands.matches;
    found = h.found;
    sure = refl;
    failed = tt;
    moment = h.looks.moment;
    carries = h.looks.carries;
    reads = h.looks.all;
    first_failed = tt;
  }
