mod NotingKeeps
use Rattle.collector.proofs.theorems.noting_keeps.Answers.NotingKeeps.{names_there, partial_noted, completing_noted}
use Rattle.collector.proofs.theorems.noting_keeps.Goals as goal

pub returns : goal.returns
returns g c = record {
  names = λ n at rec name noted exists was. names_there g.R.CommitRule.protocol n at rec noted exists was name;
  partial = λ n at rec next noted exists was.
      partial_noted g.R.CommitRule.protocol n at rec noted exists was next g.met.R.CommitRule.partial_write;
  completing = λ n at rec next noted exists was.
      completing_noted g.R.CommitRule.protocol n at rec noted exists was next g.met.R.CommitRule.completing_write;
}
