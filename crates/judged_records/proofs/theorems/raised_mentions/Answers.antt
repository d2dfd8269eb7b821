use Rattle.judged_records.proofs.OfChanges.Mentions.{raised_at}
use Rattle.judged_records.proofs.theorems.raised_mentions.Goals as goal

pub returns : goal.returns
returns c = raised_at
