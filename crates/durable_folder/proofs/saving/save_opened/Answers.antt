use Rattle.durable_folder.proofs.Common.{refl, Err, Global, path_buf_bytes, Opens, AtNow, AllTaken, quiet, Ok}
use Rattle.durable_folder.proofs.Causing.{turn_later, cause_later}
use Rattle.durable_folder.proofs.Leading.{resolved, resolved_only, not_resolved, saved_unresolved, TakenThere, there_taken}
use Rattle.durable_folder.proofs.saving.save_opened.Goals as goal

pub returns-in-Ok-clause-saves : goal.returns-in-Ok-clause-saves
returns-in-Ok-clause-saves g c start first known =
    (rw c.as_str.ensures at c.save_target.ensures.saves) c.args.name.now first
    (resolved path_buf_bytes (λ s. Opens g.F.Folder.handle c.args.name.now (Ok c.args.file) s s) c.args.name.now
    c.in-Ok.target quiet first
    (g.F.Folder.told c.args.folder.now) (g.F.Folder.told c.resolve.new.self) known c.in-Ok.ensures)

pub returns-in-Err-clause-saves : goal.returns-in-Err-clause-saves
returns-in-Err-clause-saves g c start first known =
    not_resolved (path_buf_bytes {A = Global}) (λ s. Opens g.F.Folder.handle c.args.name.now (Ok c.args.file) s s)
    c.args.name.now
    c.args.bytes.now c.resolve.result (Err c.in-Err.error) _ first (g.F.Folder.told c.args.folder.now)
    (g.F.Folder.told c.resolve.new.self) refl
    known c.resolve.ensures

pub returns-in-Err-2-clause-saves : goal.returns-in-Err-2-clause-saves
returns-in-Err-2-clause-saves g c start first known =
    saved_unresolved g.F.Folder.handle (path_buf_bytes {A = Global}) c.args.name.now c.args.bytes.now c.args.file
    c.in-Err.error
    c.write_through.result first (g.F.Folder.told c.args.folder.now) (g.F.Folder.told c.resolve.new.self)
    (g.F.Folder.told c.write_through.new.folder) known c.in-Err.ensures (c.write_through.ensures.writes start)

pub returns-in-Ok-clause-cause : goal.returns-in-Ok-clause-cause
returns-in-Ok-clause-cause g c =
    let before = g.F.Folder.told c.args.folder.now in
    let led = g.F.Folder.told c.resolve.new.self in
    let at = path_buf_bytes c.in-Ok.target in
    cause_later (AtNow (AllTaken at) led) (AtNow (TakenThere c.args.name.now) before) c.save_target.result before led
    (g.F.Folder.told c.save_target.new.folder) (turn_later _ quiet before led c.in-Ok.ensures)
    (there_taken c.args.name.now at before led (resolved_only path_buf_bytes c.args.name.now c.in-Ok.target quiet before
    led c.in-Ok.ensures))
    (rw c.as_str.ensures at c.save_target.ensures.cause)
