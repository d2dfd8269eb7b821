use Rattle.zero_count.proofs.ExampleLemmas.{example_counted, example_whole, example_first, example_torn, example_erased, example_set, example_trap, example_trapped}
use Rattle.zero_count.proofs.theorems.worked_examples.Goals as goal

pub returns-clause-counted : goal.returns-clause-counted
returns-clause-counted c = example_counted

pub returns-clause-whole : goal.returns-clause-whole
returns-clause-whole c = example_whole

pub returns-clause-first : goal.returns-clause-first
returns-clause-first c = example_first

pub returns-clause-torn : goal.returns-clause-torn
returns-clause-torn c = example_torn

pub returns-clause-erased : goal.returns-clause-erased
returns-clause-erased c = example_erased

pub returns-clause-set : goal.returns-clause-set
returns-clause-set c = example_set

pub returns-clause-trap : goal.returns-clause-trap
returns-clause-trap c = example_trap

pub returns-clause-trapped : goal.returns-clause-trapped
returns-clause-trapped c = example_trapped
