use Rattle.lost_writes.proofs.OnImages.{acknowledged_is_left, others_are_left_whole}
use Rattle.lost_writes.proofs.theorems.images_that_are_left.Goals as goal

pub returns-clause-acknowledged : goal.returns-clause-acknowledged
returns-clause-acknowledged c = acknowledged_is_left

pub returns-clause-others : goal.returns-clause-others
returns-clause-others c = others_are_left_whole
