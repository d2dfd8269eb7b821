use Rattle.std.proofs.Common.{None, refl}
use Rattle.desk_io.proofs.Notes.{others_stay}
use Rattle.desk_io.proofs.findings.Findings.forget.Goals as goal

pub returns-clause-keeps : goal.returns-clause-keeps
returns-clause-keeps c =
    others_stay c.args.name.now c.args.name.now c.args.self.now.found c.remove.new.self None refl
    c.remove.ensures.updates
