use Rattle.durable_folder.proofs.Common.{inl, inr, Ok, ap, quiet}
use Rattle.durable_folder.proofs.Causing.{named_found, named_not_found}
use Rattle.durable_folder.proofs.Filling.{finds_still, both_still}
use Rattle.durable_folder.proofs.Renewals.{looked_same}
use Rattle.durable_folder.proofs.replacing.has_name.Goals as goal

pub returns-in_err-named-clause-rests : goal.returns-in_err-named-clause-rests
returns-in_err-named-clause-rests g c =
    finds_still c.args.beside.now c.find.result _ (g.F.Folder.told c.args.folder.now) (g.F.Folder.told c.find.new.self)
    c.find.ensures

pub returns-in_err-made-clause-rests : goal.returns-in_err-made-clause-rests
returns-in_err-made-clause-rests g c =
    both_still c.args.beside.now (g.F.Folder.handle c.args.file.now) c.find.result c.find_open.result
    _ _ (g.F.Folder.told c.args.folder.now)
    (g.F.Folder.told c.find.new.self)
    (g.F.Folder.told c.find_open.new.self) c.find.ensures c.find_open.ensures.finds

pub returns-clause-rests : goal.returns-clause-rests
returns-clause-rests g c =
    both_still c.args.beside.now (g.F.Folder.handle c.args.file.now) c.find.result c.find_open.result
    _ _ (g.F.Folder.told c.args.folder.now)
    (g.F.Folder.told c.find.new.self)
    (g.F.Folder.told c.find_open.new.self) c.find.ensures c.find_open.ensures.finds

pub returns-in_err-named-clause-named : goal.returns-in_err-named-clause-named
returns-in_err-named-clause-named g c named =
    inr (named_not_found c.args.beside.now (g.F.Folder.handle c.args.file.now).file c.in_err-named.field-0.0
    (g.F.Folder.told c.args.folder.now)
    (g.F.Folder.told c.find.new.self) named c.in_err-named.ensures)

pub returns-clause-named : goal.returns-clause-named
returns-clause-named g c named =
    elim (named_found (g.F.Folder.handle c.args.file.now) c.args.beside.now c.in_ok-named.named
    c.in_ok-made.made quiet quiet
    (g.F.Folder.told c.args.folder.now) (g.F.Folder.told c.find.new.self) (g.F.Folder.told c.find_open.new.self) named
    c.in_ok-named.ensures
    c.in_ok-made.ensures.finds) [
      | inl same ↦ inl (ap Ok (c.is_same.ensures.1 same))
      | inr failed ↦ inr failed
    ]

pub returns-clause-looks : goal.returns-clause-looks
returns-clause-looks g c =
    looked_same (g.F.Folder.handle c.args.file.now) c.args.beside.now c.in_ok-named.named c.in_ok-made.made
    c.is_same.result (g.F.Folder.told c.args.folder.now) (g.F.Folder.told c.find.new.self)
    (g.F.Folder.told c.find_open.new.self) c.in_ok-named.ensures c.in_ok-made.ensures.finds c.in_ok-made.ensures.sees
    (λ is_so. c.is_same.ensures.0 is_so)
