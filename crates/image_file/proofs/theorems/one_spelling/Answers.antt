use Rattle.image_file.proofs.SpellingLemmas.{length-spelling, spelling-injective}
use Rattle.image_file.proofs.theorems.one_spelling.Goals as goal

pub returns-clause-length : goal.returns-clause-length
returns-clause-length c = length-spelling

pub returns-clause-one : goal.returns-clause-one
returns-clause-one c = spelling-injective
