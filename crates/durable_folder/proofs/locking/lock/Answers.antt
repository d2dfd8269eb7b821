use Rattle.durable_folder.proofs.Common.{◌∙◌, sym, refl, Err}
use Rattle.durable_folder.proofs.Claiming.{lock_taken, lock_refused, lock_same}
use Rattle.durable_folder.proofs.Sighting.{lock_seen, lock_unseen}
use Rattle.durable_folder.proofs.locking.lock.Goals as goal

pub returns-then-is_elsewhere-clause-asks : goal.returns-then-is_elsewhere-clause-asks
returns-then-is_elsewhere-clause-asks g c =
    lock_refused (g.F.Folder.handle c.args.file.now) (g.F.Folder.handle c.try_lock.new.file) c.try_lock.result
    _ (g.F.Folder.told c.args.folder.now)
    (g.F.Folder.told c.try_lock.new.self) c.try_lock.ensures.locks

pub returns-clause-asks : goal.returns-clause-asks
returns-clause-asks g c =
    lock_taken (g.F.Folder.handle c.args.file.now) (g.F.Folder.handle c.try_lock.new.file) c.try_lock.result
    _ (g.F.Folder.told c.args.folder.now)
    (g.F.Folder.told c.try_lock.new.self) (sym c.is_elsewhere.ensures ∙ c.if-is_elsewhere.false)
    c.try_lock.ensures.locks

pub returns-then-is_elsewhere-clause-order : goal.returns-then-is_elsewhere-clause-order
returns-then-is_elsewhere-clause-order g c =
    lock_unseen (g.F.Folder.handle c.args.file.now) (Err c.from.result) (g.F.Folder.told c.args.folder.now)
    (g.F.Folder.told c.try_lock.new.self) refl

pub returns-clause-order : goal.returns-clause-order
returns-clause-order g c =
    lock_seen (g.F.Folder.handle c.args.file.now) c.try_lock.result (g.F.Folder.told c.args.folder.now)
    (g.F.Folder.told c.try_lock.new.self)
    (sym c.is_elsewhere.ensures ∙ c.if-is_elsewhere.false) c.try_lock.ensures.sees

pub returns-then-is_elsewhere-clause-same : goal.returns-then-is_elsewhere-clause-same
returns-then-is_elsewhere-clause-same g c =
    lock_same (g.F.Folder.handle c.args.file.now) (g.F.Folder.handle c.try_lock.new.file) c.try_lock.result
    _ (g.F.Folder.told c.args.folder.now)
    (g.F.Folder.told c.try_lock.new.self) c.try_lock.ensures.locks

pub returns-clause-same : goal.returns-clause-same
returns-clause-same g c =
    lock_same (g.F.Folder.handle c.args.file.now) (g.F.Folder.handle c.try_lock.new.file) c.try_lock.result
    _ (g.F.Folder.told c.args.folder.now)
    (g.F.Folder.told c.try_lock.new.self) c.try_lock.ensures.locks
