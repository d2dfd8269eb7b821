use Rattle.flash_model.proofs.MoveLemmas.{Does-started, lone_started, Moves-started}
use Rattle.flash_model.proofs.theorems.operations_are_counted.Goals as goal

pub returns-clause-done : goal.returns-clause-done
returns-clause-done c = Does-started

pub returns-clause-lone : goal.returns-clause-lone
returns-clause-lone c = lone_started

pub returns-clause-moves : goal.returns-clause-moves
returns-clause-moves c = Moves-started
