use Rattle.durable_folder.proofs.Heads.{clear_failed, clear_done}
use Rattle.durable_folder.proofs.in_place.clear_head.Goals as goal

pub returns-in_err-write-clause-clears : goal.returns-in_err-write-clause-clears
returns-in_err-write-clause-clears g c start =
    clear_failed (g.F.Folder.handle c.args.file.now) _ c.write.result c.from_residual.result
    (g.F.Folder.told c.args.folder.now)
    (g.F.Folder.told c.write.new.self)
    start c.from_residual.ensures.0 c.write.ensures.writes

pub returns-clause-clears : goal.returns-clause-clears
returns-clause-clears g c start =
    clear_done (g.F.Folder.handle c.args.file.now) (g.F.Folder.handle c.write.new.file) _ _ c.write.result c.sync.result
    (g.F.Folder.told c.args.folder.now)
    (g.F.Folder.told c.write.new.self) (g.F.Folder.told c.sync.new.self) start c.in_ok-write.was c.write.ensures.same
    c.write.ensures.writes
    c.sync.ensures
