use Rattle.dense_tables.proofs.Common.{◌+◌, ◌*◌, ◌<◌, ◌≤◌, ℕ, inl, inr, List, set, take, arith, sym, ◌∙◌, ap, length-set, get_or_default, drop-set-lt, IsTop}
use Rattle.dense_tables.proofs.Tree.{over, rising_first, risen_top, decided, rising_over}
use Rattle.dense_tables.proofs.Filling.{number_lies, numbers_set, filled_set}
use Rattle.dense_tables.proofs.max_tree.MaxTree.set.Goals as goal

-- the cell over one that is not among the first is kept
kept_over : (top cell : ℕ) → IsTop top → top < cell → top ≤ 16 * over cell
kept_over top cell one l = elim one [ inl none ↦ omega arith | inr first ↦ omega arith ]

pub loop-self-init : goal.loop-self-init
loop-self-init c =
    let p = c.self.inside in
    let h = c.self.invariant in
    let cells = p.cells.items in
    let lies = number_lies cells p.start p.count c.args.at (rw (← c.self.view_is) at c.requires) in
    let cell = p.start + c.args.at in
    let was = c.index-was.ensures ∙ get_or_default cells cell c.index-was.result.now 0 lies.1 in (
      rw (length-set cells cell c.args.to) h.shape,
      h.top,
      rw was (rising_first cells p.top p.start cell c.args.to (omega arith) lies.1 h.peaks),
      numbers_set cells p.start p.count c.args.at c.args.to
          ∙ ap (λ (xs : List ℕ). set xs c.args.at c.args.to) c.self.view_is,
      filled_set cells (p.start + p.count) cell c.args.to h.filled (omega (arith, lies.0)),
    )

pub peak_over-next-requires-clause-peak : goal.peak_over-next-requires-clause-peak
peak_over-next-requires-clause-peak c =
    let l = c.loop-self in
    let rising = l.invariant.2 in
    let within = rising.within in
    let low : over l.cell < l.self-inside.start = omega (arith, l.invariant.0.most) in
    rw c.deref.ensures.value (rising.peaks (over l.cell)
    (kept_over l.self-inside.top l.cell l.invariant.1 c.loop-self-test.true) low)

pub invariant_of-self : goal.invariant_of-self
invariant_of-self c =
    let l = c.loop-self in
    record {
      shape = l.invariant.0;
      top = l.invariant.1;
      peaks = risen_top l.self-inside.cells.items l.self-inside.top l.self-inside.start l.cell l.was (omega arith)
          l.invariant.2;
      filled = l.invariant.4;
    }

pub invariant_of-self-then-next-peak : goal.invariant_of-self-then-next-peak
invariant_of-self-then-next-peak c =
    let l = c.loop-self in
    let cells = l.self-inside.cells.items in
    let rising = l.invariant.2 in
    let within = rising.within in
    let peak = c.index-peak.ensures ∙ get_or_default cells (over l.cell) c.index-peak.result.now 0 (omega arith) in
    let next = rw c.deref.ensures.value at c.peak_over-next.ensures in
    record {
      shape = l.invariant.0;
      top = l.invariant.1;
      peaks = decided cells l.self-inside.top l.self-inside.start l.cell l.was rising (omega arith) (sym next
          ∙ c.if-next-peak.true ∙ peak);
      filled = l.invariant.4;
    }

pub loop-self-preserved : goal.loop-self-preserved
loop-self-preserved c =
    let l = c.loop-self in
    let cells = l.self-inside.cells.items in
    let start = l.self-inside.start in
    let shape = l.invariant.0 in
    let rising = l.invariant.2 in
    let within = rising.within in
    let peak = c.index-peak.ensures ∙ get_or_default cells (over l.cell) c.index-peak.result.now 0 (omega arith) in
    let next = rw c.deref.ensures.value at c.peak_over-next.ensures in
    let low : over l.cell < start = omega (arith, shape.most) in (
      rw (length-set cells (over l.cell) c.peak_over-next.result) shape,
      l.invariant.1,
      rw peak (rising_over cells l.self-inside.top start l.cell l.was rising (omega arith)
          c.peak_over-next.result next),
      ap (take l.self-inside.count) (drop-set-lt start cells (over l.cell) c.peak_over-next.result low)
          ∙ l.invariant.3,
      filled_set cells (start + l.self-inside.count) (over l.cell) c.peak_over-next.result l.invariant.4
          (omega arith),
    )
