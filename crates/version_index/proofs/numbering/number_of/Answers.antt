use Rattle.version_index.proofs.Common.{sym, subst, inr}
use Rattle.version_index.specs.Filling.{IsNumbered}
use Rattle.version_index.proofs.OfOpening.ScanNumbers.{added_numbered}
use Rattle.version_index.proofs.numbering.number_of.Goals as goal

pub returns-in-None-clause-number : goal.returns-in-None-clause-number
returns-in-None-clause-number c =
    inr (subst (λ t. IsNumbered c.args.tables.now t c.args.rec.now c.add.result) (sym c.add.ensures.added)
    (added_numbered c.args.tables.now c.shape.ensures.kept c.add.result c.args.rec.now c.add.ensures.within
    c.add.ensures.free c.in-None.ensures.none))
