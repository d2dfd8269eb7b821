use Rattle.flash_picture.proofs.WalkTells.{walk_says, walk_tells}
use Rattle.flash_picture.proofs.theorems.walks_tell.Goals as goal

pub returns : goal.returns
returns c = record { tells = walk_tells; says = walk_says }
