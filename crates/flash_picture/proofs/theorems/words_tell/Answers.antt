use Rattle.flash_picture.proofs.Tells.{words_tell}
use Rattle.flash_picture.proofs.theorems.words_tell.Goals as goal

pub returns : goal.returns
returns c = words_tell
