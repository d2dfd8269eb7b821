use Rattle.durable_folder.proofs.Common.{rules, refl, Err, quiet, error_answer, never}
use Rattle.durable_folder.proofs.Causing.{turn_later}
use Rattle.durable_folder.proofs.Claiming.{cause_held, claim_failed, claimed, holds_rests, none_known, nothing_claimed}
use Rattle.durable_folder.proofs.Learning.{opens_rests, rests_then}
use Rattle.durable_folder.proofs.Sighting.{claimed_seen, claimed_unseen, nothing_seen}
use Rattle.durable_folder.proofs.locking.claim_there.Goals as goal

pub returns-in_err-hold-in-Ok-clause-claims : goal.returns-in_err-hold-in-Ok-clause-claims
returns-in_err-hold-in-Ok-clause-claims g c =
    let before = g.F.Folder.told c.args.folder.now in
    let opened = g.F.Folder.told c.open.new.self in
    let last = g.F.Folder.told c.hold.new.folder in
    claim_failed g.F.Folder.handle c.args.loaded.now c.args.name.now c.from_residual.result before last
    c.from_residual.ensures.0
    (rests_then before opened last (opens_rests g.F.Folder.handle c.args.name.now c.open.result _ before opened
    c.open.ensures.opens)
    (holds_rests (g.F.Folder.handle c.in-Ok.file) (g.F.Folder.handle c.hold.new.file) c.args.loaded.now c.args.name.now
    c.hold.result opened last
    c.hold.ensures.holds))

pub returns-in_err-hold-in-Ok-clause-cause : goal.returns-in_err-hold-in-Ok-clause-cause
returns-in_err-hold-in-Ok-clause-cause g c =
    let before = g.F.Folder.told c.args.folder.now in
    let opened = g.F.Folder.told c.open.new.self in
    cause_held g.F.Folder.handle c.args.loaded.now c.args.name.now c.in-Ok.file c.hold.result c.from_residual.result
    c.in_err-hold-in-Ok.field-0.0 quiet
    before opened (g.F.Folder.told c.hold.new.folder) c.in_err-hold-in-Ok.was c.from_residual.ensures.1
    (turn_later _ quiet before opened c.in-Ok.ensures.opens) c.in-Ok.ensures.opens c.hold.ensures.cause

pub returns-in_ok-hold-in-Ok-clause-claims : goal.returns-in_ok-hold-in-Ok-clause-claims
returns-in_ok-hold-in-Ok-clause-claims g c =
    claimed g.F.Folder.handle c.args.loaded.now c.args.name.now c.in-Ok.file c.hold.new.file quiet
    (g.F.Folder.told c.args.folder.now)
    (g.F.Folder.told c.open.new.self) (g.F.Folder.told c.hold.new.folder) c.in-Ok.ensures.opens
    c.in_ok-hold-in-Ok.ensures.holds

pub returns-in-Err-clause-claims : goal.returns-in-Err-clause-claims
returns-in-Err-clause-claims g c =
    let before = g.F.Folder.told c.args.folder.now in
    let opened = g.F.Folder.told c.open.new.self in
    nothing_claimed g.F.Folder.handle c.args.loaded.now c.args.name.now c.nothing_there.result before opened
    (none_known g.F.Folder.handle c.args.name.now c.in-Err.error (error_answer never c.in-Err.error) before opened
    (search rules) c.in-Err.ensures.opens) c.nothing_there.ensures

pub returns-in-Err-2-clause-claims : goal.returns-in-Err-2-clause-claims
returns-in-Err-2-clause-claims g c =
    opens_rests g.F.Folder.handle c.args.name.now c.open.result _ (g.F.Folder.told c.args.folder.now)
    (g.F.Folder.told c.open.new.self)
    c.open.ensures.opens

pub returns-in_err-hold-in-Ok-clause-order : goal.returns-in_err-hold-in-Ok-clause-order
returns-in_err-hold-in-Ok-clause-order g c =
    claimed_unseen g.F.Folder.handle c.args.name.now c.from_residual.result (g.F.Folder.told c.args.folder.now)
    (g.F.Folder.told c.hold.new.folder)
    c.from_residual.ensures.0

pub returns-in_ok-hold-in-Ok-clause-order : goal.returns-in_ok-hold-in-Ok-clause-order
returns-in_ok-hold-in-Ok-clause-order g c =
    claimed_seen g.F.Folder.handle c.args.name.now c.in-Ok.file c.hold.new.file quiet
    (g.F.Folder.told c.args.folder.now)
    (g.F.Folder.told c.open.new.self) (g.F.Folder.told c.hold.new.folder) c.in-Ok.ensures.opens
    c.in_ok-hold-in-Ok.ensures.order

pub returns-in-Err-clause-order : goal.returns-in-Err-clause-order
returns-in-Err-clause-order g c =
    nothing_seen c.args.loaded.now c.args.name.now c.nothing_there.result (g.F.Folder.told c.args.folder.now)
    (g.F.Folder.told c.open.new.self)
    c.nothing_there.ensures

pub returns-in-Err-2-clause-order : goal.returns-in-Err-2-clause-order
returns-in-Err-2-clause-order g c =
    claimed_unseen g.F.Folder.handle c.args.name.now (Err c.in-Err-2.error) (g.F.Folder.told c.args.folder.now)
    (g.F.Folder.told c.open.new.self) refl
