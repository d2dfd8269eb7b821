use Rattle.live_flash.proofs.Common.{take, drop, IfSome, sym, subst, LosesOnly}
use Rattle.live_flash.specs.Waiting.{AreOnce}
use Rattle.live_flash.proofs.OfTold.{loses_now}
use Rattle.live_flash.proofs.Written.{front_of, back_of}
use Rattle.live_flash.proofs.follower.Follower.write_runs.Goals as goal

pub write_run-requires-clause-once : goal.write_run-requires-clause-once
write_run-requires-clause-once g c = subst (λ w. AreOnce w.items) (sym c.loop-next.invariant.same) c.requires.once

pub returns-clause-loses : goal.returns-clause-loses
returns-clause-loses g c =
    let m = c.args.memory.now in
    let now = c.loop-next.self.waiting.items in
    let n = c.loop-next.next in
    subst (λ w. IfSome (g.S.Store.told c.loop-next.self.store) (LosesOnly m.shape m.image w.items))
    c.loop-next.invariant.same
    (loses_now m.shape m.image (take n now) (drop n now) now (g.S.Store.told c.loop-next.self.store)
    c.shape-shape.ensures.whole (front_of now n) (back_of now n) c.loop-next.invariant.opened
    c.loop-next.invariant.follows)
