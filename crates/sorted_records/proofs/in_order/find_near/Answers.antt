-- The first record of the name's page has the name, or the page has no record.
use Rattle.sorted_records.proofs.Common.{sym, arith}
use Rattle.sorted_records.proofs.OfSort.Order.{page_here, page_nowhere}
use Rattle.sorted_records.proofs.in_order.find_near.Goals as goal

pub returns-then-at-records : goal.returns-then-at-records
returns-then-at-records c =
    sym (page_nowhere c.args.records.now c.args.name c.pages_below-at.result c.requires.order
    c.pages_below-at.ensures.first
    (λ within e. let end = c.if-at-records.true in omega arith))

pub returns-then-rec-name : goal.returns-then-rec-name
returns-then-rec-name c =
    sym (page_nowhere c.args.records.now c.args.name c.pages_below-at.result c.requires.order
    c.pages_below-at.ensures.first
    (λ within e. c.if-rec-name.true e))

pub returns-then-rec-name-2 : goal.returns-then-rec-name-2
returns-then-rec-name-2 c =
    sym (page_here c.args.records.now c.args.name c.pages_below-at.result c.requires.order
    c.pages_below-at.ensures.first
    (let end = c.if-at-records.false in let within = c.pages_below-at.ensures.within in omega arith) c.if-rec-name.false
    c.if-rec-name-2.true)
