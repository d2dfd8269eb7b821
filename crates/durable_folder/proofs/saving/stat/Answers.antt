use Rattle.durable_folder.proofs.Common.{rules, quiet, error_answer, is_absence}
use Rattle.durable_folder.proofs.Leading.{looks_found, looks_free, looks_failed}
use Rattle.durable_folder.proofs.saving.stat.Goals as goal

pub returns-in-Ok-clause-looks : goal.returns-in-Ok-clause-looks
returns-in-Ok-clause-looks g c =
    looks_found c.args.name.now c.in-Ok.found quiet (g.F.Folder.told c.args.folder.now)
    (g.F.Folder.told c.find.new.self) c.in-Ok.ensures

pub returns-in-Err-clause-looks : goal.returns-in-Err-clause-looks
returns-in-Err-clause-looks g c =
    looks_free c.args.name.now c.in-Err.error (error_answer is_absence c.in-Err.error)
    (g.F.Folder.told c.args.folder.now) (g.F.Folder.told c.find.new.self)
    (search rules) c.in-Err.ensures

pub returns-in-Err-2-clause-looks : goal.returns-in-Err-2-clause-looks
returns-in-Err-2-clause-looks g c =
    looks_failed c.args.name.now c.in-Err-2.error (error_answer is_absence c.in-Err-2.error)
    (g.F.Folder.told c.args.folder.now)
    (g.F.Folder.told c.find.new.self) c.in-Err-2.ensures
