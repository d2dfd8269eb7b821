use Rattle.verdict_check.proofs.Common.{arith, refl, None}
use Rattle.verdict_check.proofs.PlaceLemmas.{nothing_at}
use Rattle.verdict_check.proofs.ChainLemmas.{none_last}
use Rattle.verdict_check.proofs.straddlers.note_links.Goals as goal

pub loop-page-init : goal.loop-page-init
loop-page-init c = (
  none_last c.args.records.now.list.now c.args.last.now (nothing_at c.args.last.now None c.requires.empty),
  (λ page into low e. absurd (omega arith)),
  refl,
  refl,
)
