use Rattle.durable_folder.proofs.Common.{quiet}
use Rattle.durable_folder.proofs.Claiming.{compared, compares_failed, looked_up}
use Rattle.durable_folder.proofs.Learning.{finds_rests, opens_rests, rests_then}
use Rattle.durable_folder.proofs.Sighting.{both_seen, both_unseen}
use Rattle.durable_folder.proofs.locking.is_current.Goals as goal

pub returns-in_err-again-clause-compares : goal.returns-in_err-again-clause-compares
returns-in_err-again-clause-compares g c =
    compares_failed (g.F.Folder.handle c.args.file.now) c.args.loaded.now c.args.name.now c.from_residual.result
    (g.F.Folder.told c.args.folder.now)
    (g.F.Folder.told c.open.new.self) c.from_residual.ensures.0
    (opens_rests g.F.Folder.handle c.args.name.now c.open.result _ (g.F.Folder.told c.args.folder.now)
    (g.F.Folder.told c.open.new.self)
    c.open.ensures.opens)

pub returns-in_err-named-clause-compares : goal.returns-in_err-named-clause-compares
returns-in_err-named-clause-compares g c =
    let before = g.F.Folder.told c.args.folder.now in
    let opened = g.F.Folder.told c.open.new.self in
    let named = g.F.Folder.told c.find_open.new.self in
    compares_failed (g.F.Folder.handle c.args.file.now) c.args.loaded.now c.args.name.now
    c.from_residual-in_err-named.result before named
    c.from_residual-in_err-named.ensures.0
    (rests_then before opened named (opens_rests g.F.Folder.handle c.args.name.now c.open.result _ before opened
    c.open.ensures.opens)
    (finds_rests (g.F.Folder.handle c.in_ok-again.again) c.find_open.result _ opened named c.find_open.ensures.finds))

pub returns-in_err-found-clause-compares : goal.returns-in_err-found-clause-compares
returns-in_err-found-clause-compares g c =
    let before = g.F.Folder.told c.args.folder.now in
    let opened = g.F.Folder.told c.open.new.self in
    let named = g.F.Folder.told c.find_open.new.self in
    let found = g.F.Folder.told c.find_open-2.new.self in
    compares_failed (g.F.Folder.handle c.args.file.now) c.args.loaded.now c.args.name.now
    c.from_residual-in_err-found.result before found
    c.from_residual-in_err-found.ensures.0
    (rests_then before named found
    (rests_then before opened named (opens_rests g.F.Folder.handle c.args.name.now c.open.result _ before opened
    c.open.ensures.opens)
    (finds_rests (g.F.Folder.handle c.in_ok-again.again) c.find_open.result _ opened named c.find_open.ensures.finds))
    (finds_rests (g.F.Folder.handle c.args.file.now) c.find_open-2.result _ named found c.find_open-2.ensures.finds))

pub returns-clause-compares : goal.returns-clause-compares
returns-clause-compares g c =
    let before = g.F.Folder.told c.args.folder.now in
    let found = g.F.Folder.told c.find_open-2.new.self in
    compared g.F.Folder.handle c.args.name.now c.in_ok-again.again c.in_ok-named.named c.in_ok-found.found
    (g.F.Folder.handle c.args.file.now)
    c.args.loaded.now c.is_found_so.result before found c.is_found_so.ensures.0 c.is_found_so.ensures.1
    (looked_up g.F.Folder.handle c.args.name.now c.in_ok-again.again c.in_ok-named.named c.in_ok-found.found
    (g.F.Folder.handle c.args.file.now) quiet quiet quiet
    before (g.F.Folder.told c.open.new.self) (g.F.Folder.told c.find_open.new.self) found c.in_ok-again.ensures.opens
    c.in_ok-named.ensures.finds
    c.in_ok-found.ensures.finds)

pub returns-in_err-again-clause-order : goal.returns-in_err-again-clause-order
returns-in_err-again-clause-order g c =
    both_unseen (g.F.Folder.handle c.args.file.now) c.args.name.now c.from_residual.result
    (g.F.Folder.told c.args.folder.now)
    (g.F.Folder.told c.open.new.self) c.from_residual.ensures.0

pub returns-in_err-named-clause-order : goal.returns-in_err-named-clause-order
returns-in_err-named-clause-order g c =
    both_unseen (g.F.Folder.handle c.args.file.now) c.args.name.now c.from_residual-in_err-named.result
    (g.F.Folder.told c.args.folder.now)
    (g.F.Folder.told c.find_open.new.self) c.from_residual-in_err-named.ensures.0

pub returns-in_err-found-clause-order : goal.returns-in_err-found-clause-order
returns-in_err-found-clause-order g c =
    both_unseen (g.F.Folder.handle c.args.file.now) c.args.name.now c.from_residual-in_err-found.result
    (g.F.Folder.told c.args.folder.now)
    (g.F.Folder.told c.find_open-2.new.self) c.from_residual-in_err-found.ensures.0

pub returns-clause-order : goal.returns-clause-order
returns-clause-order g c =
    both_seen g.F.Folder.handle c.args.name.now c.in_ok-again.again c.in_ok-named.named c.in_ok-found.found
    (g.F.Folder.handle c.args.file.now)
    c.is_found_so.result quiet quiet quiet (g.F.Folder.told c.args.folder.now) (g.F.Folder.told c.open.new.self)
    (g.F.Folder.told c.find_open.new.self)
    (g.F.Folder.told c.find_open-2.new.self) c.in_ok-again.ensures.opens c.in_ok-again.ensures.sees
    c.in_ok-named.ensures.finds
    c.in_ok-named.ensures.sees c.in_ok-found.ensures.finds c.in_ok-found.ensures.sees
