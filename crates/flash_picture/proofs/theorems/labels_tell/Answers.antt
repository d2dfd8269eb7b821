use Rattle.flash_picture.proofs.Tells.{label_tells}
use Rattle.flash_picture.proofs.theorems.labels_tell.Goals as goal

pub returns : goal.returns
returns c = label_tells
