use Rattle.desk_tasks.proofs.Common.{append_assoc}
use Rattle.desk_tasks.proofs.refusal.byte_line.Goals as goal

pub returns : goal.returns
returns c = simp append_assoc c.format.ensures.ok
