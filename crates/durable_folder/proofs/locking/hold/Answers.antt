use Rattle.durable_folder.proofs.Common.{inr, true, false, Ok, Err, refl, quiet}
use Rattle.durable_folder.specs.Locking.{Compares}
use Rattle.durable_folder.proofs.Causing.{turn_later, later_then}
use Rattle.durable_folder.proofs.Claiming.{asks_rests, compares_rests, holds_failed, special_held, special_cause, plain_held, plain_stale}
use Rattle.durable_folder.proofs.Learning.{finds_rests, rests_then}
use Rattle.durable_folder.proofs.Sighting.{held_seen, held_unseen, special_seen}
use Rattle.durable_folder.proofs.locking.hold.Goals as goal

pub returns-then-branch-clause-order : goal.returns-then-branch-clause-order
returns-then-branch-clause-order g c =
    let file = g.F.Folder.handle c.args.file.now in
    let after = g.F.Folder.handle c.lock.new.file in
    let before = g.F.Folder.told c.args.folder.now in
    let found = g.F.Folder.told c.find_open.new.self in
    let locked = g.F.Folder.told c.lock.new.folder in
    let last = g.F.Folder.told c.is_current.new.folder in
    held_seen file after c.args.name.now c.in_ok-is_current.field-0 before found locked last
    (finds_rests file c.find_open.result _ before found c.find_open.ensures.finds) c.in_ok-lock.ensures.asks
    c.in_ok-lock.ensures.order
    (compares_rests after c.args.loaded.now c.args.name.now c.is_current.result locked last
    c.is_current.ensures.compares) c.in_ok-is_current.ensures.order

pub returns-in_err-find_open-clause-holds : goal.returns-in_err-find_open-clause-holds
returns-in_err-find_open-clause-holds g c =
    let file = g.F.Folder.handle c.args.file.now in
    let before = g.F.Folder.told c.args.folder.now in
    let found = g.F.Folder.told c.find_open.new.self in
    holds_failed file file c.args.loaded.now c.args.name.now c.from_residual.result before found
    c.from_residual.ensures.0
    (finds_rests file c.find_open.result _ before found c.find_open.ensures.finds)

pub returns-then-not-branch-clause-holds : goal.returns-then-not-branch-clause-holds
returns-then-not-branch-clause-holds g c =
    special_held (g.F.Folder.handle c.args.file.now) c.in_ok-find_open.field-0 c.args.loaded.now c.args.name.now
    c.no_plain.result quiet
    (g.F.Folder.told c.args.folder.now) (g.F.Folder.told c.find_open.new.self) c.if-not-branch.true c.no_plain.ensures
    c.in_ok-find_open.ensures.finds

pub returns-then-not-branch-clause-cause : goal.returns-then-not-branch-clause-cause
returns-then-not-branch-clause-cause g c =
    special_cause (g.F.Folder.handle c.args.file.now) c.in_ok-find_open.field-0 c.args.loaded.now c.args.name.now
    c.no_plain.result quiet
    (g.F.Folder.told c.args.folder.now) (g.F.Folder.told c.find_open.new.self) c.if-not-branch.true c.no_plain.ensures
    c.in_ok-find_open.ensures.finds

pub returns-in_err-lock-clause-holds : goal.returns-in_err-lock-clause-holds
returns-in_err-lock-clause-holds g c =
    let file = g.F.Folder.handle c.args.file.now in
    let after = g.F.Folder.handle c.lock.new.file in
    let before = g.F.Folder.told c.args.folder.now in
    let found = g.F.Folder.told c.find_open.new.self in
    let locked = g.F.Folder.told c.lock.new.folder in
    holds_failed file after c.args.loaded.now c.args.name.now c.from_residual-in_err-lock.result before locked
    c.from_residual-in_err-lock.ensures.0
    (rests_then before found locked (finds_rests file c.find_open.result _ before found c.find_open.ensures.finds)
    (asks_rests file after c.lock.result found locked c.lock.ensures.asks))

pub returns-in_err-is_current-clause-holds : goal.returns-in_err-is_current-clause-holds
returns-in_err-is_current-clause-holds g c =
    let file = g.F.Folder.handle c.args.file.now in
    let after = g.F.Folder.handle c.lock.new.file in
    let before = g.F.Folder.told c.args.folder.now in
    let found = g.F.Folder.told c.find_open.new.self in
    let locked = g.F.Folder.told c.lock.new.folder in
    let last = g.F.Folder.told c.is_current.new.folder in
    holds_failed file after c.args.loaded.now c.args.name.now c.from_residual-in_err-is_current.result before last
    c.from_residual-in_err-is_current.ensures.0
    (rests_then before locked last
    (rests_then before found locked (finds_rests file c.find_open.result _ before found c.find_open.ensures.finds)
    (asks_rests file after c.lock.result found locked c.lock.ensures.asks))
    (compares_rests after c.args.loaded.now c.args.name.now c.is_current.result locked last
    c.is_current.ensures.compares))

pub returns-then-branch-clause-holds : goal.returns-then-branch-clause-holds
returns-then-branch-clause-holds g c =
    let file = g.F.Folder.handle c.args.file.now in
    let after = g.F.Folder.handle c.lock.new.file in
    let before = g.F.Folder.told c.args.folder.now in
    let found = g.F.Folder.told c.find_open.new.self in
    let locked = g.F.Folder.told c.lock.new.folder in
    let last = g.F.Folder.told c.is_current.new.folder in
    let yes : Compares after c.args.loaded.now c.args.name.now (Ok true) locked last =
    rw c.if-branch.true at c.in_ok-is_current.ensures.compares in
    plain_held file after c.in_ok-find_open.field-0 c.args.loaded.now c.args.name.now quiet before found locked last
    c.if-not-branch.false
    c.in_ok-find_open.ensures.finds c.in_ok-lock.ensures.asks yes

pub returns-else-branch-clause-holds : goal.returns-else-branch-clause-holds
returns-else-branch-clause-holds g c =
    let file = g.F.Folder.handle c.args.file.now in
    let after = g.F.Folder.handle c.lock.new.file in
    let before = g.F.Folder.told c.args.folder.now in
    let found = g.F.Folder.told c.find_open.new.self in
    let locked = g.F.Folder.told c.lock.new.folder in
    let last = g.F.Folder.told c.is_current.new.folder in
    rests_then before locked last
    (rests_then before found locked (finds_rests file c.find_open.result _ before found c.find_open.ensures.finds)
    (asks_rests file after c.lock.result found locked c.lock.ensures.asks))
    (compares_rests after c.args.loaded.now c.args.name.now c.is_current.result locked last
    c.is_current.ensures.compares)

pub returns-else-branch-clause-cause : goal.returns-else-branch-clause-cause
returns-else-branch-clause-cause g c =
    let file = g.F.Folder.handle c.args.file.now in
    let after = g.F.Folder.handle c.lock.new.file in
    let before = g.F.Folder.told c.args.folder.now in
    let found = g.F.Folder.told c.find_open.new.self in
    let locked = g.F.Folder.told c.lock.new.folder in
    let last = g.F.Folder.told c.is_current.new.folder in
    let no : Compares after c.args.loaded.now c.args.name.now (Ok false) locked last =
    rw c.if-branch.false at c.in_ok-is_current.ensures.compares in (
      later_then before locked last
          (later_then before found locked (turn_later _ quiet before found c.in_ok-find_open.ensures.finds)
          c.lock.ensures.fault.0)
          c.is_current.ensures.fault.0,
      inr (
        c.from.ensures,
        plain_stale file after c.in_ok-find_open.field-0 c.args.loaded.now c.args.name.now quiet before found locked
            last c.if-not-branch.false
            c.in_ok-find_open.ensures.finds c.in_ok-lock.ensures.asks no,
      ),
    )

pub returns-in_err-find_open-clause-order : goal.returns-in_err-find_open-clause-order
returns-in_err-find_open-clause-order g c =
    held_unseen (g.F.Folder.handle c.args.file.now) c.args.name.now c.from_residual.result
    (g.F.Folder.told c.args.folder.now)
    (g.F.Folder.told c.find_open.new.self) c.from_residual.ensures.0

pub returns-then-not-branch-clause-order : goal.returns-then-not-branch-clause-order
returns-then-not-branch-clause-order g c =
    special_seen (g.F.Folder.handle c.args.file.now) c.in_ok-find_open.field-0 c.args.name.now c.no_plain.result quiet
    (g.F.Folder.told c.args.folder.now) (g.F.Folder.told c.find_open.new.self) c.if-not-branch.true
    c.in_ok-find_open.ensures.finds

pub returns-in_err-lock-clause-order : goal.returns-in_err-lock-clause-order
returns-in_err-lock-clause-order g c =
    held_unseen (g.F.Folder.handle c.args.file.now) c.args.name.now c.from_residual-in_err-lock.result
    (g.F.Folder.told c.args.folder.now)
    (g.F.Folder.told c.lock.new.folder) c.from_residual-in_err-lock.ensures.0

pub returns-in_err-is_current-clause-order : goal.returns-in_err-is_current-clause-order
returns-in_err-is_current-clause-order g c =
    held_unseen (g.F.Folder.handle c.args.file.now) c.args.name.now c.from_residual-in_err-is_current.result
    (g.F.Folder.told c.args.folder.now)
    (g.F.Folder.told c.is_current.new.folder) c.from_residual-in_err-is_current.ensures.0

pub returns-else-branch-clause-order : goal.returns-else-branch-clause-order
returns-else-branch-clause-order g c =
    held_unseen (g.F.Folder.handle c.args.file.now) c.args.name.now (Err c.from.result)
    (g.F.Folder.told c.args.folder.now)
    (g.F.Folder.told c.is_current.new.folder) refl
