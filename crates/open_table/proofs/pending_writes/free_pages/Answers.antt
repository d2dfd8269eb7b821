use Rattle.open_table.proofs.Common.{◌≡◌, ◌++◌, ◌∷◌, [], subst, arith}
use Rattle.open_table.proofs.OfTransactions.PageMoves.{FreesFirst, frees_more, frees_all}
use Rattle.open_table.proofs.pending_writes.free_pages.Goals as goal

pub loop-preserved : goal.loop-preserved
loop-preserved c =
    let popped : c.loop.pages.items ≡ c.pop.new.self.items ++ c.unwrap-bytes.result ∷ [] =
    rw c.unwrap-bytes.ensures at c.pop.ensures.items in
    let wide = c.push_reserved.ensures.capacity in
    frees_more c.args.pages.now c.loop.pages c.pop.new.self c.args.rooms.now c.loop.rooms c.push_reserved.new.self
    c.loop.counter c.unwrap-bytes.result
    c.loop.invariant popped c.pop.ensures.capacity c.push_reserved.ensures.items (omega (arith, wide))

pub returns : goal.returns
returns c =
    frees_all c.args.pages.now c.loop.pages c.args.rooms.now c.loop.rooms
    (subst (FreesFirst c.args.pages.now c.loop.pages c.args.rooms.now c.loop.rooms) (omega arith) c.loop.invariant)
