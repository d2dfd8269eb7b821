use Rattle.page_record.proofs.Spellings.{is_some-record_of, record_of-iff}
use Rattle.page_record.proofs.theorems.spelled_records.Goals as goal

pub returns-clause-spelled : goal.returns-clause-spelled
returns-clause-spelled c = record_of-iff

pub returns-clause-either : goal.returns-clause-either
returns-clause-either c = λ p bytes area. is_some-record_of p bytes area
