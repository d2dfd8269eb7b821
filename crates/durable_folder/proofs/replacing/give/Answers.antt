use Rattle.durable_folder.proofs.Common.{◌∙◌, sym, false}
use Rattle.durable_folder.proofs.Filling.{not_given, given_last}
use Rattle.durable_folder.proofs.replacing.give.Goals as goal

pub returns-then-is_err-clause-gives : goal.returns-then-is_err-clause-gives
returns-then-is_err-clause-gives g c =
    not_given c.args.beside.now (g.F.Folder.handle c.args.file.now).file c.args.owner _ c.set_owner.result false
    (g.F.Folder.told c.args.folder.now)
    (g.F.Folder.told c.set_owner.new.self) c.in-Some.is (sym c.is_err.ensures.value ∙ c.if-is_err.true)
    c.set_owner.ensures

pub returns-clause-gives : goal.returns-clause-gives
returns-clause-gives g c =
    given_last c.args.beside.now (g.F.Folder.handle c.args.file.now).file _ _ c.set_owner.result
    c.set_permissions.result c.is_ok.result (g.F.Folder.told c.args.folder.now)
    (g.F.Folder.told c.set_owner.new.self)
    (g.F.Folder.told c.set_permissions.new.self) c.is_ok.ensures.value c.set_owner.ensures c.set_permissions.ensures
