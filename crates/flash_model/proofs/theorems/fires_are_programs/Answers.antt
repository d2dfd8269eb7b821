use Rattle.std.proofs.Common.{ap, subst}
use Rattle.flash_model.specs.Operations.{fire, CanDo, left_each}
use Rattle.flash_model.proofs.FireLemmas.{load_left_is, can_first, can_rest}
use Rattle.flash_model.proofs.MoveLemmas.{Does-fire}
use Rattle.flash_model.proofs.theorems.fires_are_programs.Goals as goal

pub returns-clause-done : goal.returns-clause-done
returns-clause-done c = Does-fire

pub returns-clause-first : goal.returns-clause-first
returns-clause-first c = can_first

pub returns-clause-rest : goal.returns-clause-rest
returns-clause-rest c = λ shape image load loads how can.
    subst (λ i. CanDo shape i (fire loads)) (load_left_is shape image load how)
    (can_rest shape image load loads how can)

pub returns-clause-left : goal.returns-clause-left
returns-clause-left c = λ shape image load loads how hows. ap (λ i. left_each i loads hows)
    (load_left_is shape image load how)
