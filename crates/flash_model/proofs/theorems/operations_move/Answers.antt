use Rattle.flash_model.proofs.MoveLemmas.{FlashMoves-operates, FlashMoves-fires}
use Rattle.flash_model.proofs.theorems.operations_move.Goals as goal

pub returns-clause-lone : goal.returns-clause-lone
returns-clause-lone c = FlashMoves-operates

pub returns-clause-fired : goal.returns-clause-fired
returns-clause-fired c = FlashMoves-fires
