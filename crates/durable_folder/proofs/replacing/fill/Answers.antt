use Rattle.durable_folder.proofs.Filling.{fill_refused, fill_done, fill_failed}
use Rattle.durable_folder.proofs.replacing.fill.Goals as goal

pub returns-then-not-give-clause-fills : goal.returns-then-not-give-clause-fills
returns-then-not-give-clause-fills g c =
    fill_refused (g.F.Folder.handle c.args.file.now) c.args.beside.now c.args.owner c.args.bytes.now c.give.result
    (g.F.Folder.told c.args.folder.now)
    (g.F.Folder.told c.give.new.folder) c.if-not-give.true c.give.ensures.gives

pub returns-in_err-write_whole-clause-fills : goal.returns-in_err-write_whole-clause-fills
returns-in_err-write_whole-clause-fills g c =
    fill_failed (g.F.Folder.handle c.args.file.now) c.args.beside.now c.args.owner c.args.bytes.now c.give.result
    c.write_whole.result c.from_residual.result
    (g.F.Folder.told c.args.folder.now)
    (g.F.Folder.told c.give.new.folder) (g.F.Folder.told c.write_whole.new.folder) c.from_residual.ensures.0
    c.give.ensures.gives c.write_whole.ensures.writes

pub returns-clause-fills : goal.returns-clause-fills
returns-clause-fills g c =
    fill_done (g.F.Folder.handle c.args.file.now) c.args.beside.now c.args.owner c.args.bytes.now c.give.result
    c.write_whole.result (g.F.Folder.told c.args.folder.now)
    (g.F.Folder.told c.give.new.folder) (g.F.Folder.told c.write_whole.new.folder) c.in_ok-write_whole.was
    c.give.ensures.gives c.write_whole.ensures.writes
