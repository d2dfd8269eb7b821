-- The zeros behind the numbers are not greater.
use Rattle.dense_tables.proofs.Common.{◌*◌, ◌<◌, length, drop, ◌∙◌, arith, length-drop}
use Rattle.dense_tables.proofs.Descent.{group_under}
use Rattle.dense_tables.proofs.Filling.{numbers_long, group_front, zeros_behind}
use Rattle.dense_tables.proofs.max_tree.MaxTree.greatest_of_256.Goals as goal

pub returns : goal.returns
returns c =
    let p = c.self.inside in
    let h = c.self.invariant in
    let cells = p.cells.items in
    let low = rw (numbers_long cells p.start p.count) at (rw (← c.self.view_is) at c.requires) in
    let lies : 256 * c.args.group < length (drop p.start cells) =
    omega (arith, low, length-drop p.start cells) in
    let peak = group_under cells p.levels p.top p.start h.shape h.top h.peaks c.args.group lies in
    rw (← c.self.view_is) (rw c.deref.ensures.value at c.peak_at.ensures ∙ peak.1
    ∙ group_front (drop p.start cells) p.count 256 c.args.group (zeros_behind cells p.start p.count h.filled))
