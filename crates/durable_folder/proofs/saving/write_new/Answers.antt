use Rattle.durable_folder.proofs.Common.{quiet}
use Rattle.durable_folder.proofs.Bearing.{new_not_opened, new_written}
use Rattle.durable_folder.proofs.saving.write_new.Goals as goal

pub returns-in_err-file-clause-writes : goal.returns-in_err-file-clause-writes
returns-in_err-file-clause-writes g c =
    new_not_opened g.F.Folder.handle c.args.name.now c.args.bytes.now c.open_or_create.result c.from_residual.result _
    (g.F.Folder.told c.args.folder.now) (g.F.Folder.told c.open_or_create.new.self) c.from_residual.ensures.0
    c.open_or_create.ensures.opens

pub returns-clause-writes : goal.returns-clause-writes
returns-clause-writes g c =
    new_written g.F.Folder.handle c.args.name.now c.args.bytes.now c.in_ok-file.file c.write_through.result quiet
    (g.F.Folder.told c.args.folder.now) (g.F.Folder.told c.open_or_create.new.self)
    (g.F.Folder.told c.write_through.new.folder)
    c.in_ok-file.ensures.opens (c.write_through.ensures.writes c.in_ok-file.ensures.start)
