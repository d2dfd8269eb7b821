use Rattle.flash_model.proofs.CallLemmas.{Carries-then}
use Rattle.flash_model.proofs.MoveLemmas.{FlashMoves-then}
use Rattle.flash_model.proofs.theorems.calls_compose.Goals as goal

pub returns-clause-keeps : goal.returns-clause-keeps
returns-clause-keeps c = Carries-then

pub returns-clause-moves : goal.returns-clause-moves
returns-clause-moves c = λ old mid new broken carries. FlashMoves-then old mid new broken carries.shape
