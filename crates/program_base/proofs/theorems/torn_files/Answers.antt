use Rattle.program_base.proofs.Torn.{torn_broken}
use Rattle.program_base.proofs.theorems.torn_files.Goals as goal

pub returns : goal.returns
returns c = torn_broken
