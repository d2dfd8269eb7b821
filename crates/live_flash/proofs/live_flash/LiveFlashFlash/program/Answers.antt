use Rattle.live_flash.proofs.Common.{[], ◌∷◌, IfSome, refl, sym, ap, subst, length, Shape, IsOpened, Follows}
use Rattle.std.proofs.Common.{append-nil}
use Rattle.std.specs.Vec.{vec_capacity}
use Rattle.flash_model.specs.Operations.{program}
use Rattle.mem_flash.specs.MemFlashState.{MemFlashState}
use Rattle.file_flash.proofs.Keeping.{operated_stays}
use Rattle.file_flash.proofs.Programming.{program_starts, programmed_still, fresh}
use Rattle.live_flash.proofs.Following.{front_here}
use Rattle.live_flash.proofs.Kept.{still_noted}
use Rattle.live_flash.proofs.OfTold.{follows_but, put_lost, none_in, loses_now}
use Rattle.live_flash.specs.Waiting.{HasRoom}
use Rattle.live_flash.proofs.live_flash.LiveFlashFlash.program.Goals as goal

pub put-requires-clause-programmed : goal.put-requires-clause-programmed
put-requires-clause-programmed g c =
    let s = c.self.inside.memory in
    let can = (rw (← c.self.view_is) at c.requires.blank) in
    let st = program_starts s c.program-done.new.self c.args.at c.args.bytes.now c.args.spare_area.now
    c.program-done.ensures.next
    c.shape.ensures.whole can in
    programmed_still s.image c.program-done.new.self.image c.self.inside.follower.waiting.items (c.args.at ∷ [])
    (c.self.invariant.programmed c.if-self.false) st

pub put-requires-clause-places : goal.put-requires-clause-places
put-requires-clause-places g c =
    let f = c.self.inside in
    subst (λ (x : Shape). HasRoom x (vec_capacity f.follower.waiting) f.follower.waiting.items)
    (sym (ap (λ (x : MemFlashState). x.shape) c.program-done.ensures.next)) (c.self.invariant.places c.if-self.false)

pub put-requires-clause-fresh : goal.put-requires-clause-fresh
put-requires-clause-fresh g c =
    let s = c.self.inside.memory in
    let at = c.args.at in
    let can = (rw (← c.self.view_is) at c.requires.blank) in
    let st = program_starts s c.program-done.new.self at c.args.bytes.now c.args.spare_area.now
    c.program-done.ensures.next c.shape.ensures.whole can in
    fresh s.image c.self.inside.follower.waiting.items at.0 (c.self.invariant.programmed c.if-self.false)
    (st.empty at.0 (front_here at []))

pub invariant_of-self-2 : goal.invariant_of-self-2
invariant_of-self-2 g c =
    let f = c.self.inside in
    let s = f.memory in
    let m = c.program-done.new.self in
    let at = c.args.at in
    let e = c.program-done.ensures.next in
    let waiting = f.follower.waiting.items in
    let same = ap (λ (x : MemFlashState). x.shape) e in
    let can = (rw (← c.self.view_is) at c.requires.blank) in
    let st = program_starts s m at c.args.bytes.now c.args.spare_area.now e c.shape.ensures.whole can in
    let follows = c.put.ensures.follows [] (follows_but (g.S.Store.told f.follower.store) s.shape m.shape s.image m.image
    waiting (at ∷ []) same st (c.self.invariant.follows c.if-self.false)) in
    still_noted g.S.Store.told g.S.Store.faults f _ c.self.invariant refl refl
    (operated_stays s m (program at.0 c.args.bytes.now c.args.spare_area.now) e)
    (ap (λ v. length v.items) c.put.ensures.room) c.put.ensures.store refl c.if-self.false
    (subst (λ w. IfSome (g.S.Store.told c.put.new.self.store) (Follows m.shape m.image [] w))
    (append-nil c.put.new.self.waiting.items) follows)
    c.put.ensures.programmed c.put.ensures.places

pub returns-clause-loses : goal.returns-clause-loses
returns-clause-loses g c = λ live.
    let f = c.self.inside in
    let s = f.memory in
    let m = c.program-done.new.self in
    let at = c.args.at in
    let e = c.program-done.ensures.next in
    let waiting = f.follower.waiting.items in
    let same = ap (λ (x : MemFlashState). x.shape) e in
    let can = (rw (← c.self.view_is) at c.requires.blank) in
    let st = program_starts s m at c.args.bytes.now c.args.spare_area.now e c.shape.ensures.whole can in
    let new = g.S.Store.told c.put.new.self.store in
    let follows = c.put.ensures.follows [] (follows_but (g.S.Store.told f.follower.store) s.shape m.shape s.image m.image
    waiting (at ∷ []) same st (c.self.invariant.follows c.if-self.false)) in
    let opened = subst (λ t. IfSome (g.S.Store.told t) (IsOpened m.shape)) (sym c.put.ensures.store)
    (subst (λ (x : Shape). IfSome (g.S.Store.told f.follower.store) (IsOpened x)) (sym same)
    (c.self.invariant.opened c.if-self.false)) in
    rw (← c.self.view_is)
    (loses_now m.shape m.image [] c.put.new.self.waiting.items (at ∷ waiting) new c.shape.ensures.whole
    (none_in (at ∷ waiting)) (λ k here. put_lost waiting c.put.new.self.waiting.items at c.put.ensures.waits k here)
    opened
    (subst (λ w. IfSome new (Follows m.shape m.image [] w)) (append-nil c.put.new.self.waiting.items) follows))
