use Rattle.drive_gen.proofs.Common.{refl}
use Rattle.drive_gen.proofs.WorkParts.{none_left}
use Rattle.drive_gen.proofs.work.Work.add_next.Goals as goal

pub returns-then-self-3-clause-last : goal.returns-then-self-3-clause-last
returns-then-self-3-clause-last c = λ more.
    (none_left c.args.self.now c.if-self.false c.if-self-2.false c.if-self-3.true, refl)
