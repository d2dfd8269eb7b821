use Rattle.judged_records.proofs.OfLaws.DerivedLaws.{next_record_law, completes_law, round_law}
use Rattle.judged_records.proofs.theorems.next_record.Goals as goal

pub returns-clause-newest : goal.returns-clause-newest
returns-clause-newest c = next_record_law

pub returns-clause-completes : goal.returns-clause-completes
returns-clause-completes c = completes_law

pub returns-clause-round : goal.returns-clause-round
returns-clause-round c = round_law
