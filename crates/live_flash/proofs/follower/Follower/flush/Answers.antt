use Rattle.live_flash.proofs.Common.{[], ◌≡◌, ◌≤◌, sym, subst, arith, Result, Ok, OnOk, IfSome, slots_of, StoreError, Follows}
use Rattle.std.specs.Vec.{vec_capacity}
use Rattle.live_flash.specs.Waiting.{HasRoom}
use Rattle.live_flash.proofs.Waiting.{none_waits}
use Rattle.live_flash.proofs.OfTold.{none_in, loses_now, flush_follows, flush_loses}
use Rattle.live_flash.proofs.follower.Follower.flush.Goals as goal

-- what comes after an Ok
on_done : (P : Type 0) (r : Result (Unit {0}) StoreError) → r ≡ Ok tt → OnOk r P → P
on_done P r ok here = subst (λ x. OnOk x P) ok here

pub returns-then-is_empty-clause-loses : goal.returns-then-is_empty-clause-loses
returns-then-is_empty-clause-loses g c =
    let m = c.args.memory.now in
    let waiting = c.args.self.now.waiting.items in
    loses_now m.shape m.image [] waiting waiting (g.S.Store.told c.args.self.now.store) c.shape.ensures.whole
    (none_in waiting) (λ k e. e) c.requires.opened c.requires.follows

pub returns-in_err-sync-clause-loses : goal.returns-in_err-sync-clause-loses
returns-in_err-sync-clause-loses g c =
    let m = c.args.memory.now in
    flush_loses m.shape m.image c.args.self.now.waiting.items c.sync.result
    (g.S.Store.told c.write_waiting.new.self.store)
    (g.S.Store.told c.sync.new.self) c.shape.ensures.whole c.sync.ensures.syncs c.in_ok-write_waiting.ensures.opened
    c.in_ok-write_waiting.ensures.follows

pub returns-clause-follows : goal.returns-clause-follows
returns-clause-follows g c =
    let m = c.args.memory.now in
    let new = g.S.Store.told c.sync.new.self in
    on_done (IfSome new (Follows m.shape m.image [] [])) c.sync.result c.in_ok-sync.was
    (flush_follows m.shape m.image c.args.self.now.waiting.items c.sync.result
    (g.S.Store.told c.write_waiting.new.self.store)
    new c.sync.ensures.syncs c.in_ok-write_waiting.ensures.opened c.in_ok-write_waiting.ensures.follows)

pub returns-clause-loses : goal.returns-clause-loses
returns-clause-loses g c =
    let m = c.args.memory.now in
    flush_loses m.shape m.image c.args.self.now.waiting.items c.sync.result
    (g.S.Store.told c.write_waiting.new.self.store)
    (g.S.Store.told c.sync.new.self) c.shape.ensures.whole c.sync.ensures.syncs c.in_ok-write_waiting.ensures.opened
    c.in_ok-write_waiting.ensures.follows

pub returns-clause-places : goal.returns-clause-places
returns-clause-places g c =
    let m = c.args.memory.now in
    let new = c.clear.new.self in
    let many : slots_of m.shape ≤ vec_capacity new =
    omega (arith, c.requires.places.places, c.write_waiting.ensures.capacity, c.clear.ensures.capacity) in
    subst (HasRoom m.shape (vec_capacity new)) (sym c.clear.ensures.items) (none_waits m.shape (vec_capacity new) many)
