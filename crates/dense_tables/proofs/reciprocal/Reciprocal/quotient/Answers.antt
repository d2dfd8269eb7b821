mod Division
use Rattle.dense_tables.proofs.Common.{refl}
use Rattle.dense_tables.proofs.reciprocal.Reciprocal.quotient.Answers.Division.{quotient_is}
use Rattle.dense_tables.proofs.reciprocal.Reciprocal.quotient.Goals as goal

pub returns : goal.returns
returns c =
    let its = c.self.invariant in
    rw (← c.self.view_is, its.reciprocal, c.from.ensures)
    (quotient_is 4294967296 c.self.inside.by c.args.of its.some c.requires refl)
