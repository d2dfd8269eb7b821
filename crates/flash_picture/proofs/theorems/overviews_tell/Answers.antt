use Rattle.flash_picture.proofs.OverviewTells.{sign_tells, square_tells}
use Rattle.flash_picture.proofs.theorems.overviews_tell.Goals as goal

pub returns-clause-signs : goal.returns-clause-signs
returns-clause-signs c = sign_tells

pub returns-clause-squares : goal.returns-clause-squares
returns-clause-squares c = square_tells
