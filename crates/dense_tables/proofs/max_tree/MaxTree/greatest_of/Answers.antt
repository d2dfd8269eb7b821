-- The zeros behind the numbers are not greater.
use Rattle.dense_tables.proofs.Common.{◌*◌, ◌<◌, length, drop, ap, ◌∙◌, arith, length-drop, greatest}
use Rattle.dense_tables.proofs.Descent.{sixteen_under}
use Rattle.dense_tables.proofs.Filling.{numbers_long, group_front, zeros_behind}
use Rattle.dense_tables.proofs.max_tree.MaxTree.greatest_of.Goals as goal

pub returns : goal.returns
returns c =
    let p = c.self.inside in
    let h = c.self.invariant in
    let cells = p.cells.items in
    let low = rw (numbers_long cells p.start p.count) at (rw (← c.self.view_is) at c.requires) in
    let lies : 16 * c.args.sixteen < length (drop p.start cells) =
    omega (arith, low, length-drop p.start cells) in
    let peak = sixteen_under cells p.levels p.start h.shape c.args.sixteen lies in
    rw (← c.self.view_is) (rw c.deref.ensures.value at c.peak_at.ensures ∙ ap greatest peak.1
    ∙ group_front (drop p.start cells) p.count 16 c.args.sixteen (zeros_behind cells p.start p.count h.filled))
