-- The record before the place has a name below, and the one at it, if there is one, has not.
use Rattle.sorted_records.proofs.Common.{length, sym, ◌∙◌, arith}
use Rattle.std.proofs.lemmas.Bool.{leb-true, not-true}
use Rattle.sorted_records.proofs.OfGroup.Narrowed.{point_here}
use Rattle.sorted_records.proofs.search.are_names_below.Goals as goal
use Rattle.sorted_records.proofs.search.are_names_below.Goals.{then-count-records, else-count-records}

pub returns-else-count-records-2-clause-first : goal.returns-else-count-records-2-clause-first
returns-else-count-records-2-clause-first c = elim c.if-count-records.branch [
  | then-count-records w ↦ λ e. point_here c.args.records.now c.args.name c.args.count c.requires.order
      w.if-count-records.true
      (w.is_below_before.ensures (sym w.value-is ∙ c.if-is_below_before.true)) (λ low. sym c.is_below.ensures
      ∙ not-true c.is_below.result e)
  | else-count-records w ↦ λ e. absurd (
      let up = leb-true c.args.count (length c.args.records.now) (sym w.value-is ∙ c.if-is_below_before.true) in
      let low = w.if-count-records.false in
      omega arith)
]
