use Rattle.std.proofs.Common.{Some}
use Rattle.desk_io.proofs.Notes.{others_stay}
use Rattle.desk_io.proofs.findings.Findings.note.Goals as goal

pub returns-clause-keeps : goal.returns-clause-keeps
returns-clause-keeps c =
    others_stay _ c.args.name.now c.args.self.now.found c.insert.new.self (Some (Some c.args.found))
    c.in_ok-key.ensures.ok
    c.in_ok-insert.ensures.updates
