use Rattle.durable_folder.proofs.Finishing.{folder_not_found, folder_found}
use Rattle.durable_folder.proofs.replacing.is_mounted.Goals as goal

pub returns-in_err-found-clause-mounted : goal.returns-in_err-found-clause-mounted
returns-in_err-found-clause-mounted g c =
    folder_not_found (g.F.Folder.place c.args.place.now) c.args.owner.now c.find_folder.result c.from_residual.result _
    (g.F.Folder.told c.args.folder.now)
    (g.F.Folder.told c.find_folder.new.self) c.from_residual.ensures.0 c.find_folder.ensures

pub returns-clause-mounted : goal.returns-clause-mounted
returns-clause-mounted g c =
    folder_found (g.F.Folder.place c.args.place.now) c.in-Some.old c.args.owner.now c.in_ok-found.found
    c.find_folder.result _
    (g.F.Folder.told c.args.folder.now)
    (g.F.Folder.told c.find_folder.new.self) c.in-Some.is c.in_ok-found.was c.find_folder.ensures
