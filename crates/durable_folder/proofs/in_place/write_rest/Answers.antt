use Rattle.durable_folder.proofs.Common.{◌∙◌}
use Rattle.durable_folder.proofs.Heads.{rest_not_sought, rest_not_written, rest_and_length, rest_not_sized, rest_done}
use Rattle.durable_folder.proofs.in_place.write_rest.Goals as goal

pub returns-in_err-seek-clause-writes : goal.returns-in_err-seek-clause-writes
returns-in_err-seek-clause-writes g c bytes is_head is_rest =
    rest_not_sought (g.F.Folder.handle c.args.file.now) (g.F.Folder.handle c.seek.new.file) c.args.head _ bytes
    c.seek.result c.from_residual.result
    (g.F.Folder.told c.args.folder.now) (g.F.Folder.told c.seek.new.self) c.from_residual.ensures.0 c.seek.ensures.seeks

pub returns-in_err-write-clause-writes : goal.returns-in_err-write-clause-writes
returns-in_err-write-clause-writes g c bytes is_head is_rest =
    rest_not_written (g.F.Folder.handle c.args.file.now) (g.F.Folder.handle c.seek.new.file) c.args.head _ _ bytes
    c.args.rest.now c.seek.result
    c.write.result c.from_residual-in_err-write.result
    (g.F.Folder.told c.args.folder.now) (g.F.Folder.told c.seek.new.self) (g.F.Folder.told c.write.new.self)
    is_head is_rest
    c.seek.ensures.same c.in_ok-seek.was c.from_residual-in_err-write.ensures.0 c.seek.ensures.seeks
    c.write.ensures.writes

pub returns-in_err-set_length-clause-writes : goal.returns-in_err-set_length-clause-writes
returns-in_err-set_length-clause-writes g c bytes is_head is_rest =
    rest_not_sized (g.F.Folder.handle c.args.file.now) c.args.head bytes c.args.rest.now c.write.result
    c.set_length.result
    c.from_residual-in_err-set_length.result
    (g.F.Folder.told c.args.folder.now) (g.F.Folder.told c.set_length.new.self) is_head is_rest c.in_ok-write.was
    c.from_residual-in_err-set_length.ensures.0
    (rest_and_length (g.F.Folder.handle c.args.file.now) (g.F.Folder.handle c.seek.new.file)
    (g.F.Folder.handle c.write.new.file) c.args.head _ _ _
    bytes c.args.rest.now c.seek.result
    c.write.result c.set_length.result (g.F.Folder.told c.args.folder.now) (g.F.Folder.told c.seek.new.self)
    (g.F.Folder.told c.write.new.self)
    (g.F.Folder.told c.set_length.new.self)
    is_head is_rest c.seek.ensures.same c.write.ensures.same c.in_ok-seek.was c.in_ok-write.was c.seek.ensures.seeks
    c.write.ensures.writes
    c.set_length.ensures)

pub returns-clause-writes : goal.returns-clause-writes
returns-clause-writes g c bytes is_head is_rest =
    rest_done (g.F.Folder.handle c.args.file.now) (g.F.Folder.handle c.write.new.file) c.args.head _ bytes
    c.args.rest.now c.write.result
    c.set_length.result c.sync.result
    (g.F.Folder.told c.args.folder.now) (g.F.Folder.told c.set_length.new.self) (g.F.Folder.told c.sync.new.self)
    is_head is_rest c.in_ok-write.was
    c.in_ok-set_length.was
    (c.write.ensures.same ∙ c.seek.ensures.same)
    (rest_and_length (g.F.Folder.handle c.args.file.now) (g.F.Folder.handle c.seek.new.file)
    (g.F.Folder.handle c.write.new.file) c.args.head _ _ _
    bytes c.args.rest.now c.seek.result
    c.write.result c.set_length.result (g.F.Folder.told c.args.folder.now) (g.F.Folder.told c.seek.new.self)
    (g.F.Folder.told c.write.new.self)
    (g.F.Folder.told c.set_length.new.self)
    is_head is_rest c.seek.ensures.same c.write.ensures.same c.in_ok-seek.was c.in_ok-write.was c.seek.ensures.seeks
    c.write.ensures.writes
    c.set_length.ensures)
    c.sync.ensures
