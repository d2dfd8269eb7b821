-- One slot after the other.
use Rattle.version_index.proofs.Common.{ap, ◌∙◌, inl, inr, arith, get_or, cases_eq}
use Rattle.flash_model.specs.declared.flash.Seen.TheVariants as seen
use Rattle.version_index.specs.Filling.{first_use}
use Rattle.version_index.proofs.placing.has_damaged.Goals as goal

pub loop-at-init : goal.loop-at-init
loop-at-init c = λ none at low. absurd (omega arith)

pub loop-at-preserved : goal.loop-at-preserved
loop-at-preserved c = λ none at low. elim (cases_eq at c.loop-at.at) [
  | inl here ↦ ap (λ i. first_use (get_or c.args.seen.now i seen.Blank)) here ∙ c.is_damaged_or-some.ensures.undamaged none
  | inr off ↦ c.loop-at.invariant (c.is_damaged_or-some.ensures.others none) at (omega arith)
]

pub returns : goal.returns
returns c = λ none at low. c.loop-at.invariant none at (omega (arith, low, c.loop-at-test.false))
