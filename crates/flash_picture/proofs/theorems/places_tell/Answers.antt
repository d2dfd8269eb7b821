use Rattle.flash_picture.proofs.PlaceTells.{place_tells}
use Rattle.flash_picture.proofs.theorems.places_tell.Goals as goal

pub returns : goal.returns
returns c = place_tells
