use Rattle.flash_model.specs.Operations.{die_of}
use Rattle.flash_model.proofs.FireLemmas.{empty_registers, loads_in-more, AreFreeFrom-more, die_within}
use Rattle.flash_model.proofs.theorems.loads_come_in_order.Goals as goal

pub returns-clause-none : goal.returns-clause-none
returns-clause-none c = λ shape. empty_registers shape.dies

pub returns-clause-more : goal.returns-clause-more
returns-clause-more c = λ shape registers load. loads_in-more registers (die_of shape load.at) load

pub returns-clause-behind : goal.returns-clause-behind
returns-clause-behind c = λ shape registers load. AreFreeFrom-more registers (die_of shape load.at) load

pub returns-clause-within : goal.returns-clause-within
returns-clause-within c = die_within
