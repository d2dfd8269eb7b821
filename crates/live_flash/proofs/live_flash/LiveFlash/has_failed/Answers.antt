use Rattle.live_flash.proofs.Common.{[]}
use Rattle.live_flash.proofs.OfTold.{none_in, loses_now}
use Rattle.live_flash.proofs.Leaving.{left_lives}
use Rattle.live_flash.proofs.live_flash.LiveFlash.has_failed.Goals as goal

pub returns-clause-opens : goal.returns-clause-opens
returns-clause-opens g c =
    let f = c.self.inside in
    let i = c.self.invariant in
    rw (← c.self.view_is)
    (left_lives f.config f.memory.shape f.memory.extras (g.S.Store.told f.follower.store) i.checks i.shape
    i.within i.few i.file i.counts)

pub returns-clause-loses : goal.returns-clause-loses
returns-clause-loses g c =
    let f = c.self.inside in
    let i = c.self.invariant in
    let m = f.memory in
    let waiting = f.follower.waiting.items in
    let told = g.S.Store.told f.follower.store in
    rw (← c.self.view_is)
    (λ live. loses_now m.shape m.image [] waiting waiting told c.shape.ensures.whole (none_in waiting) (λ k e. e)
    (i.opened live) (i.follows live))
