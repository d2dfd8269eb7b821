use Rattle.durable_folder.proofs.Common.{quiet, error_answer, is_absence}
use Rattle.durable_folder.proofs.Reading.{not_opened, not_opened_why, not_read_why, opened_read}
use Rattle.durable_folder.proofs.loading.load.Goals as goal

pub returns-in-Ok-clause-loads : goal.returns-in-Ok-clause-loads
returns-in-Ok-clause-loads g c =
    opened_read g.F.Folder.handle c.args.name.now c.args.most c.in-Ok.file c.read_whole.result c.once_open.result quiet
    (g.F.Folder.told c.args.folder.now) (g.F.Folder.told c.open_to_read.new.self)
    (g.F.Folder.told c.read_whole.new.folder) c.in-Ok.ensures.opens
    (c.read_whole.ensures.reads c.in-Ok.ensures.start) c.once_open.ensures

pub returns-in-Ok-clause-cause : goal.returns-in-Ok-clause-cause
returns-in-Ok-clause-cause g c =
    not_read_why g.F.Folder.handle c.args.name.now c.in-Ok.file c.read_whole.result c.once_open.result quiet
    (g.F.Folder.told c.args.folder.now)
    (g.F.Folder.told c.open_to_read.new.self) (g.F.Folder.told c.read_whole.new.folder) c.in-Ok.ensures.opens
    c.read_whole.ensures.fault
    c.once_open.ensures

pub returns-in-Err-clause-loads : goal.returns-in-Err-clause-loads
returns-in-Err-clause-loads g c =
    not_opened g.F.Folder.handle c.args.name.now c.args.most c.in-Err.error (error_answer is_absence c.in-Err.error)
    (g.F.Folder.told c.args.folder.now)
    (g.F.Folder.told c.open_to_read.new.self) c.in-Err.ensures.opens

pub returns-in-Err-clause-cause : goal.returns-in-Err-clause-cause
returns-in-Err-clause-cause g c =
    not_opened_why g.F.Folder.handle c.args.name.now c.in-Err.error (g.F.Folder.told c.args.folder.now)
    (g.F.Folder.told c.open_to_read.new.self)
    c.in-Err.ensures.opens
