use Rattle.live_flash.proofs.Common.{[], ◌++◌, IfSome, sym, subst, ◌∙◌, arith, slot_at, AreProgrammed, Follows}
use Rattle.file_flash.proofs.Programming.{blank_read, some_read, programmed_more}
use Rattle.live_flash.proofs.OfTold.{put_skips, put_waits}
use Rattle.live_flash.proofs.follower.Follower.put.Goals as goal

pub returns-then-is_blank-clause-follows : goal.returns-then-is_blank-clause-follows
returns-then-is_blank-clause-follows g c = λ due f.
    let m = c.args.memory.now in
    let empty = blank_read (slot_at m.image c.args.at.0) (sym c.is_blank.ensures ∙ c.if-is_blank.true) in
    put_skips m.shape m.image c.args.self.now.waiting.items due c.args.at (g.S.Store.told c.args.self.now.store) empty f

pub returns-clause-programmed : goal.returns-clause-programmed
returns-clause-programmed g c =
    let m = c.args.memory.now in
    let some = some_read (slot_at m.image c.args.at.0) (sym c.is_blank.ensures ∙ c.if-is_blank.false) in
    subst (AreProgrammed m.image) (sym c.note.ensures.waits)
    (programmed_more m.image c.args.self.now.waiting.items c.args.at c.requires.programmed
    (omega (arith, c.requires.exists, c.shape.ensures.whole.slots)) some)

pub returns-clause-follows : goal.returns-clause-follows
returns-clause-follows g c = λ due f.
    let m = c.args.memory.now in
    let waiting = c.args.self.now.waiting.items in
    subst (λ s. IfSome (g.S.Store.told s) (Follows m.shape m.image [] (c.note.new.self.waiting.items ++ due)))
    (sym c.note.ensures.store)
    (subst (λ w. IfSome (g.S.Store.told c.args.self.now.store) (Follows m.shape m.image [] (w ++ due)))
    (sym c.note.ensures.waits)
    (put_waits m.shape m.image waiting due c.args.at (g.S.Store.told c.args.self.now.store) f))
