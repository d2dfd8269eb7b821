use Rattle.durable_folder.proofs.Common.{AtNow, AllTaken}
use Rattle.durable_folder.proofs.Causing.{cause_later, now_back}
use Rattle.durable_folder.proofs.Leading.{not_looked, saved_target}
use Rattle.durable_folder.proofs.saving.save_target.Goals as goal

pub returns-in_err-found-clause-saves : goal.returns-in_err-found-clause-saves
returns-in_err-found-clause-saves g c name first known =
    not_looked name c.args.at.now c.args.bytes.now c.stat.result c.from_residual.result first
    (g.F.Folder.told c.args.folder.now)
    (g.F.Folder.told c.stat.new.folder) c.from_residual.ensures.0 known c.stat.ensures.looks

pub returns-clause-saves : goal.returns-clause-saves
returns-clause-saves g c name first known =
    saved_target name c.args.at.now c.args.bytes.now c.in_ok-found.found c.stat.result c.save_at.result first
    (g.F.Folder.told c.args.folder.now)
    (g.F.Folder.told c.stat.new.folder) (g.F.Folder.told c.save_at.new.folder) c.in_ok-found.was known
    c.stat.ensures.looks c.save_at.ensures.saves

pub returns-clause-cause : goal.returns-clause-cause
returns-clause-cause g c =
    let before = g.F.Folder.told c.args.folder.now in
    let found = g.F.Folder.told c.stat.new.folder in
    let taken = AllTaken c.args.at.now in
    cause_later (AtNow taken found) (AtNow taken before) c.save_at.result before found
    (g.F.Folder.told c.save_at.new.folder) c.stat.ensures.fault.0
    (now_back taken before found c.stat.ensures.looks) c.save_at.ensures.cause
