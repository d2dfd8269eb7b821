use Rattle.collector.proofs.OfImages.KeptArrays.{known_stays, pinned_texts}
use Rattle.collector.proofs.OfRoom.NextNames.{next_stays}
use Rattle.collector.proofs.theorems.array_stays.Goals as goal

pub returns : goal.returns
returns g c = record {
  array = λ s s' n n' t t' u u' m m' rule kept keeps.
      known_stays g.R.CommitRule.protocol s s' n n' t t' u u' m m' rule kept keeps;
  texts = λ s s' n n' t t' u u' name m m' rule kept keeps pin there.
      pinned_texts g.R.CommitRule.protocol s s' n n' t t' u u' m m' rule kept keeps name pin there;
  next = next_stays;
}
