use Rattle.page_record.proofs.Spellings.{first_broken-some}
use Rattle.page_record.proofs.theorems.first_rule.Goals as goal

pub returns : goal.returns
returns c = first_broken-some
