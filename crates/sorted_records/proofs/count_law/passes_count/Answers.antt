use Rattle.sorted_records.proofs.Common.{refl, sym, ◌∙◌}
use Rattle.sorted_records.proofs.OfCount.CountLaw.{passes_nowhere, passes_at}
use Rattle.sorted_records.proofs.count_law.passes_count.Goals as goal

pub returns-in-None : goal.returns-in-None
returns-in-None c = (
  λ t. passes_nowhere c.args.chart.now c.args.rec.now (sym c.requires.target ∙ c.in-None.is),
  λ all. refl,
)

pub returns-in-Some : goal.returns-in-Some
returns-in-Some c =
    rw c.records.ensures.records
    (passes_at c.args.chart.now c.args.rec.now c.requires.namesakes c.in-Some.place (sym c.requires.target
    ∙ c.in-Some.is))
