use Rattle.durable_folder.proofs.Common.{length}
use Rattle.durable_folder.proofs.Heads.{head_not_sought, head_not_written, head_done}
use Rattle.durable_folder.proofs.in_place.write_head.Goals as goal

pub returns-in_err-seek-clause-writes : goal.returns-in_err-seek-clause-writes
returns-in_err-seek-clause-writes g c bytes is_head is_front =
    head_not_sought (g.F.Folder.handle c.args.file.now) (g.F.Folder.handle c.seek.new.file) (length c.args.head.now)
    _ bytes c.seek.result
    c.from_residual.result
    (g.F.Folder.told c.args.folder.now) (g.F.Folder.told c.seek.new.self) is_head c.from_residual.ensures.0
    c.seek.ensures.seeks

pub returns-in_err-write-clause-writes : goal.returns-in_err-write-clause-writes
returns-in_err-write-clause-writes g c bytes is_head is_front =
    head_not_written (g.F.Folder.handle c.args.file.now) (g.F.Folder.handle c.seek.new.file) _ _ bytes c.args.head.now
    c.seek.result c.write.result
    c.from_residual-in_err-write.result
    (g.F.Folder.told c.args.folder.now) (g.F.Folder.told c.seek.new.self) (g.F.Folder.told c.write.new.self)
    is_head is_front
    c.seek.ensures.same c.in_ok-seek.was c.from_residual-in_err-write.ensures.0 c.seek.ensures.seeks
    c.write.ensures.writes

pub returns-clause-writes : goal.returns-clause-writes
returns-clause-writes g c bytes is_head is_front =
    head_done (g.F.Folder.handle c.args.file.now) (g.F.Folder.handle c.seek.new.file)
    (g.F.Folder.handle c.write.new.file) _ _ _ bytes
    c.args.head.now c.seek.result c.write.result
    c.sync.result (g.F.Folder.told c.args.folder.now) (g.F.Folder.told c.seek.new.self)
    (g.F.Folder.told c.write.new.self)
    (g.F.Folder.told c.sync.new.self) is_head is_front
    c.seek.ensures.same c.write.ensures.same c.in_ok-seek.was c.in_ok-write.was c.seek.ensures.seeks
    c.write.ensures.writes c.sync.ensures
