use Rattle.flash_model.proofs.RetireLemmas.{CarriesRetiring-carries, CarriesRetiring-then, CarriesRetiring-before, IsSteady-retiring}
use Rattle.flash_model.proofs.theorems.retiring_composes.Goals as goal

pub returns-clause-more : goal.returns-clause-more
returns-clause-more c = CarriesRetiring-carries

pub returns-clause-behind : goal.returns-clause-behind
returns-clause-behind c = CarriesRetiring-then

pub returns-clause-before : goal.returns-clause-before
returns-clause-before c = CarriesRetiring-before

pub returns-clause-steady : goal.returns-clause-steady
returns-clause-steady c = IsSteady-retiring
