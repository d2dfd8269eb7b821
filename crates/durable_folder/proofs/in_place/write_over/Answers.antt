use Rattle.durable_folder.proofs.Overwriting.{not_found, no_file_found, over_after}
use Rattle.durable_folder.proofs.in_place.write_over.Goals as goal

pub returns-in_err-find_open-clause-writes : goal.returns-in_err-find_open-clause-writes
returns-in_err-find_open-clause-writes g c start =
    not_found (g.F.Folder.handle c.args.file.now) _ c.args.bytes.now c.find_open.result c.from_residual.result
    (g.F.Folder.told c.args.folder.now)
    (g.F.Folder.told c.find_open.new.self) c.from_residual.ensures.0 c.find_open.ensures.finds

pub returns-then-branch-clause-writes : goal.returns-then-branch-clause-writes
returns-then-branch-clause-writes g c start =
    over_after (g.F.Folder.handle c.args.file.now) _ c.args.bytes.now c.find_open.result c.write_file.result
    (g.F.Folder.told c.args.folder.now)
    (g.F.Folder.told c.find_open.new.self) (g.F.Folder.told c.write_file.new.folder) c.find_open.ensures.finds
    (c.write_file.ensures.writes start)

pub returns-else-branch-clause-writes : goal.returns-else-branch-clause-writes
returns-else-branch-clause-writes g c start =
    let before = g.F.Folder.told c.args.folder.now in
    c.write_special.ensures.writes before (no_file_found (g.F.Folder.handle c.args.file.now) _ c.find_open.result
    c.in_ok-find_open.field-0 before
    (g.F.Folder.told c.find_open.new.self) c.in_ok-find_open.was c.if-branch.false c.find_open.ensures.finds)
