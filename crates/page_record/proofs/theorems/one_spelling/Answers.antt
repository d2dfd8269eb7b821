use Rattle.page_record.proofs.Spellings.{length-spelling, spelling-injective}
use Rattle.page_record.proofs.theorems.one_spelling.Goals as goal

pub returns-clause-length : goal.returns-clause-length
returns-clause-length c = length-spelling

pub returns-clause-one : goal.returns-clause-one
returns-clause-one c = spelling-injective
