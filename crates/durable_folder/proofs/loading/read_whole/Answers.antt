use Rattle.durable_folder.proofs.Common.{refl, quiet}
use Rattle.durable_folder.proofs.Learning.{finds_rests}
use Rattle.durable_folder.proofs.Reading.{not_read, found_not_read, read}
use Rattle.durable_folder.proofs.loading.read_whole.Goals as goal

pub returns-in_err-found-clause-reads : goal.returns-in_err-found-clause-reads
returns-in_err-found-clause-reads g c start =
    not_read (g.F.Folder.handle c.args.file.now) c.args.most c.from_residual.result (g.F.Folder.told c.args.folder.now)
    (g.F.Folder.told c.find_open.new.self) c.from_residual.ensures.0
    (finds_rests (g.F.Folder.handle c.args.file.now) c.find_open.result _ (g.F.Folder.told c.args.folder.now)
    (g.F.Folder.told c.find_open.new.self)
    c.find_open.ensures.finds)

pub returns-in_err-bytes-clause-reads : goal.returns-in_err-bytes-clause-reads
returns-in_err-bytes-clause-reads g c start =
    let file = g.F.Folder.handle c.args.file.now in
    let before = g.F.Folder.told c.args.folder.now in
    let found = g.F.Folder.told c.find_open.new.self in
    let last = g.F.Folder.told c.read.new.self in
    not_read file c.args.most c.from_residual-in_err-bytes.result before last c.from_residual-in_err-bytes.ensures.0
    (found_not_read file c.args.most c.find_open.result c.read.result _ _ before found last c.find_open.ensures.finds
    c.read.ensures)

pub returns-clause-reads : goal.returns-clause-reads
returns-clause-reads g c start =
    read (g.F.Folder.handle c.args.file.now) c.args.most c.in_ok-found.found c.in_ok-bytes.bytes _ quiet quiet
    (g.F.Folder.told c.args.folder.now)
    (g.F.Folder.told c.find_open.new.self) (g.F.Folder.told c.read.new.self) start refl refl c.in_ok-found.ensures.finds
    c.in_ok-bytes.ensures
