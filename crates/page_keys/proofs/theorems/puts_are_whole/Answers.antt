use Rattle.page_keys.proofs.OfServe.KeyRunLemmas.{at_once, few_breaks}
use Rattle.page_keys.proofs.theorems.puts_are_whole.Goals as goal

pub returns-clause-at_once : goal.returns-clause-at_once
returns-clause-at_once c = at_once

pub returns-clause-few : goal.returns-clause-few
returns-clause-few c = few_breaks
