-- The first record that is not below the name has it, or none has.
use Rattle.sorted_records.proofs.Common.{sym, ◌∙◌, arith}
use Rattle.sorted_records.proofs.OfSort.Order.{find_here, find_nowhere}
use Rattle.sorted_records.proofs.in_order.find_by_search.Goals as goal
use Rattle.sorted_records.proofs.in_order.find_by_search.Goals.{else-at-records-via-then-at-records+else-has_name, else-at-records-via-else-at-records}

pub returns-then-has_name : goal.returns-then-has_name
returns-then-has_name c =
    sym (find_here c.args.records.now c.args.name c.names_below_near-at.result c.requires.order
    c.names_below_near-at.ensures.first
    c.if-at-records.true (sym c.has_name.ensures ∙ c.if-has_name.true))

pub returns-else-at-records : goal.returns-else-at-records
returns-else-at-records c = elim c.else-at-records.branch [
  | else-at-records-via-then-at-records+else-has_name w ↦
      sym (find_nowhere c.args.records.now c.args.name c.names_below_near-at.result c.requires.order
      c.names_below_near-at.ensures.first (λ within. sym w.has_name.ensures ∙ w.if-has_name.false))
  | else-at-records-via-else-at-records w ↦
      sym (find_nowhere c.args.records.now c.args.name c.names_below_near-at.result c.requires.order
      c.names_below_near-at.ensures.first (λ within. absurd (let far = w.if-at-records.false in omega arith)))
]
