use Rattle.flash_picture.proofs.Tells.{cell_tells}
use Rattle.flash_picture.proofs.theorems.cells_tell.Goals as goal

pub returns : goal.returns
returns c = cell_tells
