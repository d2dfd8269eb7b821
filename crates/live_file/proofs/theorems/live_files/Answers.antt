use Rattle.live_file.proofs.Pieces.{spelled_lives, spelling_long}
use Rattle.live_file.proofs.theorems.live_files.Goals as goal

pub returns-clause-spelled : goal.returns-clause-spelled
returns-clause-spelled c = λ config image extras can. spelled_lives config image extras can.fits can

pub returns-clause-long : goal.returns-clause-long
returns-clause-long c = λ config image extras can. spelling_long config image extras can.fits
