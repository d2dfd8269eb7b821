use Rattle.lossy_store.proofs.Common.{◌≡◌, ◌<◌, length, get_or, ap, ◌∙◌, arith, byte_over}
use Rattle.lossy_store.proofs.Leaving.{kept_left}
use Rattle.lossy_store.proofs.store.LossyStore.keep.Goals as goal

pub loop-at-preserved : goal.loop-at-preserved
loop-at-preserved c l =
    let self = c.args.self.now in
    let write = c.in-Some.write.now in
    let there : c.args.number < length self.writes.items = rw (← c.deref.ensures.value) c.in-Some.ensures.lookup.3.0 in
    let is : write ≡ get_or self.writes.items c.args.number write =
    rw (← c.deref.ensures.value) (c.in-Some.ensures.lookup.3.1 write) in
    let over : c.over.result ≡ byte_over (get_or self.writes.items c.args.number write) c.loop-at.at
    (get_or c.loop-at.left c.loop-at.at 0) =
    c.over.ensures ∙ ap (λ w. byte_over w c.loop-at.at (get_or c.loop-at.left c.loop-at.at 0)) is in
    rw over (kept_left self.durable.items self.writes.items self.copies c.args.number write c.loop-at.left c.loop-at.at
    there (omega arith) (c.loop-at.invariant l))
