use Rattle.durable_folder.proofs.Common.{Some, Err, AtNow, AllTaken, quiet, WasFound}
use Rattle.durable_folder.proofs.Causing.{turn_later, turn_back, cause_later}
use Rattle.durable_folder.proofs.Tearing.{not_opened, over_done, over_failed, over_refused}
use Rattle.durable_folder.proofs.saving.save_over.Goals as goal

pub returns-in_err-file-clause-saves : goal.returns-in_err-file-clause-saves
returns-in_err-file-clause-saves g c =
    not_opened g.F.Folder.handle c.args.name.now (WasFound c.args.name.now (Some c.args.old)) c.args.bytes.now
    c.open.result c.from_residual.result _
    (g.F.Folder.told c.args.folder.now)
    (g.F.Folder.told c.open.new.self) c.from_residual.ensures.0 c.open.ensures.opens

pub returns-in-Ok-Done-clause-saves : goal.returns-in-Ok-Done-clause-saves
returns-in-Ok-Done-clause-saves g c =
    over_done g.F.Folder.handle c.args.name.now (WasFound c.args.name.now (Some c.args.old)) c.args.old c.args.bytes.now
    c.open.result _
    (g.F.Folder.told c.args.folder.now) (g.F.Folder.told c.open.new.self) (g.F.Folder.told c.replace_found.new.folder)
    c.open.ensures.opens
    (rw c.in-Ok-Done.field-0-is at c.in-Ok-Done.ensures.replaces)

pub returns-in-Ok-Refused-clause-saves : goal.returns-in-Ok-Refused-clause-saves
returns-in-Ok-Refused-clause-saves g c =
    over_refused g.F.Folder.handle c.args.name.now c.args.old c.args.bytes.now c.in_ok-file.file
    c.write_through.result quiet
    (g.F.Folder.told c.args.folder.now) (g.F.Folder.told c.open.new.self) (g.F.Folder.told c.replace_found.new.folder)
    (g.F.Folder.told c.write_through.new.folder) c.in_ok-file.ensures.opens
    (rw c.in-Ok-Refused.field-0-is at c.in-Ok-Refused.ensures.replaces)
    (c.write_through.ensures.writes c.in_ok-file.ensures.start)

pub returns-in-Err-clause-saves : goal.returns-in-Err-clause-saves
returns-in-Err-clause-saves g c =
    over_failed g.F.Folder.handle c.args.name.now (WasFound c.args.name.now (Some c.args.old)) c.args.old
    c.args.bytes.now c.open.result c.in-Err.error _
    (g.F.Folder.told c.args.folder.now) (g.F.Folder.told c.open.new.self) (g.F.Folder.told c.replace_found.new.folder)
    c.open.ensures.opens
    c.in-Err.ensures.replaces

pub returns-in-Err-clause-cause : goal.returns-in-Err-clause-cause
returns-in-Err-clause-cause g c =
    let before = g.F.Folder.told c.args.folder.now in
    let opened = g.F.Folder.told c.open.new.self in
    let last = g.F.Folder.told c.replace_found.new.folder in
    let taken = AllTaken c.args.name.now in
    cause_later {T = Unit {0}} (AtNow taken opened) (AtNow taken before) (Err c.in-Err.error) before opened last
    (turn_later _ quiet before opened c.in_ok-file.ensures.opens)
    (λ at. turn_back _ taken quiet before opened c.in_ok-file.ensures.opens (λ s t x. x.0) at) c.in-Err.ensures.cause
