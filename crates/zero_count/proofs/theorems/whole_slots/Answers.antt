use Rattle.zero_count.proofs.WholeLemmas.{counted_whole, own_again, number_again, none_erased, number_erased}
use Rattle.zero_count.proofs.theorems.whole_slots.Goals as goal

pub returns-clause-whole : goal.returns-clause-whole
returns-clause-whole c = counted_whole

pub returns-clause-own : goal.returns-clause-own
returns-clause-own c = own_again

pub returns-clause-number : goal.returns-clause-number
returns-clause-number c = number_again

pub returns-clause-erased : goal.returns-clause-erased
returns-clause-erased c = λ n few. none_erased n

pub returns-clause-blank : goal.returns-clause-blank
returns-clause-blank c = number_erased
