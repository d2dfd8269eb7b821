use Rattle.durable_folder.proofs.Common.{Some, Ok, Err, refl, sym, ◌∙◌}
use Rattle.durable_folder.proofs.Causing.{fills_named, later_then, then_failed}
use Rattle.durable_folder.proofs.Claiming.{asks_rests}
use Rattle.durable_folder.proofs.Renewals.{fills_after, fills_failed, looked_locking, not_so, so_last, then_last}
use Rattle.durable_folder.proofs.renewing.fill_locked.Goals as goal

pub returns-in_err-filled-clause-same : goal.returns-in_err-filled-clause-same
returns-in_err-filled-clause-same g c = so_last _ (g.F.Folder.told c.fill.new.folder) c.fill.ensures.same

pub returns-in_err-has_name-clause-same : goal.returns-in_err-has_name-clause-same
returns-in_err-has_name-clause-same g c = so_last _ (g.F.Folder.told c.has_name.new.folder) c.fill.ensures.same

pub returns-then-not-branch-clause-same : goal.returns-then-not-branch-clause-same
returns-then-not-branch-clause-same g c = so_last _ (g.F.Folder.told c.has_name.new.folder) c.fill.ensures.same

pub returns-in_err-lock-clause-same : goal.returns-in_err-lock-clause-same
returns-in_err-lock-clause-same g c =
    then_last _ _ (g.F.Folder.told c.lock.new.folder) (λ same. same ∙ c.fill.ensures.same) c.lock.ensures.same

pub returns-clause-same : goal.returns-clause-same
returns-clause-same g c =
    then_last _ _ (g.F.Folder.told c.lock.new.folder) (λ same. same ∙ c.fill.ensures.same) c.lock.ensures.same

pub returns-in_err-filled-clause-fills : goal.returns-in_err-filled-clause-fills
returns-in_err-filled-clause-fills g c =
    fills_failed (g.F.Folder.handle c.args.file.now) c.args.beside.now (Some c.args.owner) c.args.bytes.now
    c.fill.result c.from_residual.result (g.F.Folder.told c.args.folder.now) (g.F.Folder.told c.fill.new.folder)
    c.from_residual.ensures.0 c.fill.ensures.fills

pub returns-in_err-has_name-clause-fills : goal.returns-in_err-has_name-clause-fills
returns-in_err-has_name-clause-fills g c =
    let file = g.F.Folder.handle c.args.file.now in
    let before = g.F.Folder.told c.args.folder.now in
    let filled = g.F.Folder.told c.fill.new.folder in
    let looked = g.F.Folder.told c.has_name.new.folder in
    fills_failed file c.args.beside.now (Some c.args.owner) c.args.bytes.now c.fill.result
    c.from_residual-in_err-has_name.result before looked c.from_residual-in_err-has_name.ensures.0
    (fills_after file c.args.beside.now (Some c.args.owner) c.args.bytes.now c.fill.result before filled looked
    c.fill.ensures.fills c.has_name.ensures.rests)

pub returns-then-not-branch-clause-fills : goal.returns-then-not-branch-clause-fills
returns-then-not-branch-clause-fills g c =
    let file = g.F.Folder.handle c.args.file.now in
    let before = g.F.Folder.told c.args.folder.now in
    let filled = g.F.Folder.told c.fill.new.folder in
    let looked = g.F.Folder.told c.has_name.new.folder in
    fills_failed file c.args.beside.now (Some c.args.owner) c.args.bytes.now c.fill.result (Err c.from.result) before looked
    refl
    (fills_after file c.args.beside.now (Some c.args.owner) c.args.bytes.now c.fill.result before filled looked
    c.fill.ensures.fills c.has_name.ensures.rests)

pub returns-in_err-lock-clause-fills : goal.returns-in_err-lock-clause-fills
returns-in_err-lock-clause-fills g c =
    let file = g.F.Folder.handle c.args.file.now in
    let before = g.F.Folder.told c.args.folder.now in
    let filled = g.F.Folder.told c.fill.new.folder in
    let looked = g.F.Folder.told c.has_name.new.folder in
    let locked = g.F.Folder.told c.lock.new.folder in
    fills_failed file c.args.beside.now (Some c.args.owner) c.args.bytes.now c.fill.result
    c.from_residual-in_err-lock.result before locked c.from_residual-in_err-lock.ensures.0
    (fills_after file c.args.beside.now (Some c.args.owner) c.args.bytes.now c.fill.result before looked locked
    (fills_after file c.args.beside.now (Some c.args.owner) c.args.bytes.now c.fill.result before filled looked
    c.fill.ensures.fills c.has_name.ensures.rests)
    (asks_rests (g.F.Folder.handle c.fill.new.file) (g.F.Folder.handle c.lock.new.file) c.lock.result looked locked
    c.lock.ensures.asks))

pub returns-clause-fills : goal.returns-clause-fills
returns-clause-fills g c =
    let file = g.F.Folder.handle c.args.file.now in
    let before = g.F.Folder.told c.args.folder.now in
    let filled = g.F.Folder.told c.fill.new.folder in
    let looked = g.F.Folder.told c.has_name.new.folder in
    let locked = g.F.Folder.told c.lock.new.folder in
    fills_after file c.args.beside.now (Some c.args.owner) c.args.bytes.now (Ok c.in_ok-filled.filled) before looked
    locked
    (fills_after file c.args.beside.now (Some c.args.owner) c.args.bytes.now (Ok c.in_ok-filled.filled) before filled
    looked c.in_ok-filled.ensures.fills c.has_name.ensures.rests)
    (asks_rests (g.F.Folder.handle c.fill.new.file) (g.F.Folder.handle c.lock.new.file) c.lock.result looked locked
    c.lock.ensures.asks)

pub returns-clause-locks : goal.returns-clause-locks
returns-clause-locks g c =
    looked_locking (g.F.Folder.handle c.args.held.now) (g.F.Folder.handle c.fill.new.file)
    (g.F.Folder.handle c.lock.new.file) c.args.name.now c.in_ok-has_name.field-0 (g.F.Folder.told c.fill.new.folder)
    (g.F.Folder.told c.has_name.new.folder) (g.F.Folder.told c.lock.new.folder) c.in_ok-has_name.ensures.looks
    c.in_ok-lock.ensures.asks c.in_ok-lock.ensures.order

pub returns-in_err-has_name-clause-later : goal.returns-in_err-has_name-clause-later
returns-in_err-has_name-clause-later g c =
    later_then (g.F.Folder.told c.args.folder.now) (g.F.Folder.told c.fill.new.folder)
    (g.F.Folder.told c.has_name.new.folder) c.fill.ensures.fault.0 c.has_name.ensures.later

pub returns-then-not-branch-clause-later : goal.returns-then-not-branch-clause-later
returns-then-not-branch-clause-later g c =
    later_then (g.F.Folder.told c.args.folder.now) (g.F.Folder.told c.fill.new.folder)
    (g.F.Folder.told c.has_name.new.folder) c.fill.ensures.fault.0 c.has_name.ensures.later

pub returns-in_err-lock-clause-later : goal.returns-in_err-lock-clause-later
returns-in_err-lock-clause-later g c =
    later_then (g.F.Folder.told c.args.folder.now) (g.F.Folder.told c.has_name.new.folder)
    (g.F.Folder.told c.lock.new.folder)
    (later_then (g.F.Folder.told c.args.folder.now) (g.F.Folder.told c.fill.new.folder)
    (g.F.Folder.told c.has_name.new.folder) c.fill.ensures.fault.0 c.has_name.ensures.later) c.lock.ensures.fault.0

pub returns-clause-later : goal.returns-clause-later
returns-clause-later g c =
    later_then (g.F.Folder.told c.args.folder.now) (g.F.Folder.told c.has_name.new.folder)
    (g.F.Folder.told c.lock.new.folder)
    (later_then (g.F.Folder.told c.args.folder.now) (g.F.Folder.told c.fill.new.folder)
    (g.F.Folder.told c.has_name.new.folder) c.fill.ensures.fault.0 c.has_name.ensures.later) c.lock.ensures.fault.0

pub returns-in_err-has_name-clause-fault : goal.returns-in_err-has_name-clause-fault
returns-in_err-has_name-clause-fault g c named err =
    let before = g.F.Folder.told c.args.folder.now in
    let filled = g.F.Folder.told c.fill.new.folder in
    let looked = g.F.Folder.told c.has_name.new.folder in
    then_failed before filled looked c.fill.ensures.fault.0 (not_so c.has_name.result filled looked
    (λ is_so. let both = sym c.in_err-has_name.was ∙ is_so in absurd (cc))
    (c.has_name.ensures.named (fills_named (g.F.Folder.handle c.args.file.now) c.args.beside.now c.args.name.now
    (Some c.args.owner) c.args.bytes.now c.fill.result (g.F.Folder.handle c.args.held.now).file before filled
    c.fill.ensures.fills named)))

pub returns-then-not-branch-clause-fault : goal.returns-then-not-branch-clause-fault
returns-then-not-branch-clause-fault g c named err =
    let before = g.F.Folder.told c.args.folder.now in
    let filled = g.F.Folder.told c.fill.new.folder in
    let looked = g.F.Folder.told c.has_name.new.folder in
    then_failed before filled looked c.fill.ensures.fault.0 (not_so c.has_name.result filled looked
    (λ is_so. let both = sym c.in_ok-has_name.was ∙ is_so in absurd (cc))
    (c.has_name.ensures.named (fills_named (g.F.Folder.handle c.args.file.now) c.args.beside.now c.args.name.now
    (Some c.args.owner) c.args.bytes.now c.fill.result (g.F.Folder.handle c.args.held.now).file before filled
    c.fill.ensures.fills named)))

pub returns-in_err-lock-clause-fault : goal.returns-in_err-lock-clause-fault
returns-in_err-lock-clause-fault g c named err =
    then_failed (g.F.Folder.told c.args.folder.now) (g.F.Folder.told c.has_name.new.folder)
    (g.F.Folder.told c.lock.new.folder)
    (later_then (g.F.Folder.told c.args.folder.now) (g.F.Folder.told c.fill.new.folder)
    (g.F.Folder.told c.has_name.new.folder) c.fill.ensures.fault.0 c.has_name.ensures.later)
    (c.lock.ensures.fault.1 (rw c.in_err-lock.was refl))
