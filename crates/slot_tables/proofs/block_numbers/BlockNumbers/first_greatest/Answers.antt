use Rattle.slot_tables.proofs.Common.{arith}
use Rattle.slot_tables.proofs.block_numbers.BlockNumbers.first_greatest.Goals as goal

pub overflow_cast-result : goal.overflow_cast-result
overflow_cast-result c = omega (arith, c.in-Some.ensures.first.within, c.self.invariant.few)
