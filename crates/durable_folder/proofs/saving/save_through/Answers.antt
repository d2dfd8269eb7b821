use Rattle.durable_folder.proofs.Common.{refl, rules, Err, AtNow, quiet, error_answer, never}
use Rattle.durable_folder.proofs.Causing.{turn_later, turn_back, cause_later}
use Rattle.durable_folder.proofs.Leading.{leads_nowhere, saved_nowhere, not_opened, opened, TakenThere}
use Rattle.durable_folder.proofs.saving.save_through.Goals as goal

pub returns-in-Ok-clause-saves : goal.returns-in-Ok-clause-saves
returns-in-Ok-clause-saves g c first known =
    c.save_opened.ensures.saves c.in-Ok.ensures.start first
    (opened g.F.Folder.handle c.args.name.now c.in-Ok.file quiet first
    (g.F.Folder.told c.args.folder.now) (g.F.Folder.told c.open.new.self) known c.in-Ok.ensures.opens)

pub returns-in-Err-clause-saves : goal.returns-in-Err-clause-saves
returns-in-Err-clause-saves g c first known =
    let opening = g.F.Folder.told c.open.new.self in
    saved_nowhere c.args.name.now c.args.bytes.now c.make_through.result first opening
    (g.F.Folder.told c.make_through.new.folder)
    (leads_nowhere g.F.Folder.handle c.args.name.now c.in-Err.error (error_answer never c.in-Err.error) first
    (g.F.Folder.told c.args.folder.now) opening
    (search rules) known c.in-Err.ensures.opens)
    c.make_through.ensures.makes

pub returns-in-Err-2-clause-saves : goal.returns-in-Err-2-clause-saves
returns-in-Err-2-clause-saves g c first known =
    not_opened g.F.Folder.handle c.args.name.now c.args.bytes.now c.open.result (Err c.in-Err-2.error) _ first
    (g.F.Folder.told c.args.folder.now)
    (g.F.Folder.told c.open.new.self) refl known c.open.ensures.opens

pub returns-in-Ok-clause-cause : goal.returns-in-Ok-clause-cause
returns-in-Ok-clause-cause g c =
    let before = g.F.Folder.told c.args.folder.now in
    let opening = g.F.Folder.told c.open.new.self in
    cause_later (AtNow (TakenThere c.args.name.now) opening) (AtNow (TakenThere c.args.name.now) before)
    c.save_opened.result before opening
    (g.F.Folder.told c.save_opened.new.folder) (turn_later _ quiet before opening c.in-Ok.ensures.opens)
    (λ taken. turn_back _ (TakenThere c.args.name.now) quiet before opening c.in-Ok.ensures.opens (λ s t x. x.0) taken)
    c.save_opened.ensures.cause
