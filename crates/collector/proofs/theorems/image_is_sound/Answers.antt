use Rattle.collector.proofs.Common.{◌≡◌, FlashState, IndexState, BlocksState, Unsure, Matches, settlement}
use Rattle.collector.specs.Matches.{CanTake}
use Rattle.collector.proofs.OfSettle.SettledImages.{Stands, settled_stands, settled_records, settled_current, settled_array, settled_kept}
use Rattle.collector.proofs.theorems.image_is_sound.Given as given
use Rattle.collector.proofs.theorems.image_is_sound.Goals as goal

stands : (g : given.Over) (s : FlashState) (n : IndexState) (t : BlocksState) (u : Unsure) → Matches s n t u →
    CanTake n t u →
    n.config.protocol ≡ g.R.CommitRule.protocol →
    Stands s n (settlement n t s.image u)
stands g s n t u m take rule =
    settled_stands g.R.CommitRule.protocol g.met.R.CommitRule.partial_write g.met.R.CommitRule.completing_write
    g.met.R.CommitRule.copy
    g.met.R.CommitRule.block_loss
    s n t u m take rule

pub returns : goal.returns
returns g c = record {
  matches = λ s n t u m take rule. (stands g s n t u m take rule).matches;
  records = λ s n t u m take rule. settled_records g.R.CommitRule.protocol s n _ (stands g s n t u m take rule) rule;
  current = λ s n t u page m take rule. settled_current g.R.CommitRule.protocol s n
      _ (stands g s n t u m take rule) rule page;
  array = λ s n t u m take rule. settled_array g.R.CommitRule.protocol s n _ (stands g s n t u m take rule) rule;
  preserves = λ s n t u m take rule other.
      let h = stands g s n t u m take rule in
      (h.preserves other, settled_kept g.R.CommitRule.protocol s n _ h rule (h.preserves other));
}
