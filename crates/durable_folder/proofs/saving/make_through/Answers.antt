use Rattle.durable_folder.proofs.Common.{Ok, Err, Global, path_buf_bytes, quiet}
use Rattle.durable_folder.specs.Counting.{not_given}
use Rattle.durable_folder.specs.Histories.{Leading, end_at}
use Rattle.durable_folder.proofs.Bearing.{through_not_written, through_resolved, through_not_resolved, through_synced, late_err}
use Rattle.durable_folder.proofs.saving.make_through.Goals as goal

pub returns-in_err-write_new-clause-makes : goal.returns-in_err-write_new-clause-makes
returns-in_err-write_new-clause-makes g c =
    through_not_written c.args.name.now c.args.bytes.now c.write_new.result c.from_residual.result
    (g.F.Folder.told c.args.folder.now)
    (g.F.Folder.told c.write_new.new.folder) c.from_residual.ensures.0 c.write_new.ensures.writes

pub returns-in-Ok-clause-makes : goal.returns-in-Ok-clause-makes
returns-in-Ok-clause-makes g c =
    let before = g.F.Folder.told c.args.folder.now in
    let after = g.F.Folder.told c.resolve.new.self in
    through_synced path_buf_bytes c.args.name.now c.args.bytes.now c.in-Ok.target c.write_new.result
    c.sync_folder_of.result before after
    (g.F.Folder.told c.sync_folder_of.new.folder) c.in_ok-write_new.was
    (through_resolved path_buf_bytes c.args.name.now c.args.bytes.now c.write_new.result
    (Ok c.in-Ok.target) quiet before
    (g.F.Folder.told c.write_new.new.folder) after c.write_new.ensures.writes c.in-Ok.ensures)
    (rw c.as_str.ensures at c.sync_folder_of.ensures.syncs)

pub returns-in-Err-clause-makes : goal.returns-in-Err-clause-makes
returns-in-Err-clause-makes g c =
    let before = g.F.Folder.told c.args.folder.now in
    let after = g.F.Folder.told c.resolve.new.self in
    through_not_resolved (path_buf_bytes {A = Global}) c.args.name.now c.args.bytes.now c.write_new.result
    (Err c.in-Err.error) c.as_fault.result before after
    (late_err c.in-Err.error c.as_fault.result c.as_fault.ensures)
    (through_resolved (path_buf_bytes {A = Global}) c.args.name.now c.args.bytes.now c.write_new.result
    (Err c.in-Err.error)
    (not_given (Leading (end_at c.args.name.now (g.F.Folder.told c.write_new.new.folder)))) before
    (g.F.Folder.told c.write_new.new.folder) after c.write_new.ensures.writes c.in-Err.ensures)
