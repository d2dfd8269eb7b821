use Rattle.lost_writes.proofs.Doubts.{represents_array}
use Rattle.lost_writes.proofs.theorems.represented_arrays.Goals as goal

pub returns : goal.returns
returns c = represents_array
