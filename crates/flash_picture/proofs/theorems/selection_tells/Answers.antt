use Rattle.flash_picture.proofs.SelectionTells.{selection_tells}
use Rattle.flash_picture.proofs.theorems.selection_tells.Goals as goal

pub returns : goal.returns
returns c = selection_tells
