use Rattle.flash_model.proofs.ComingLaws.{cut_came, cut_waits}
use Rattle.flash_model.proofs.theorems.cuts_come_due.Goals as goal

pub returns : goal.returns
returns c = record {
  comes = cut_came;
  waits = cut_waits;
}
