use Rattle.sorted_records.proofs.Common.{rules, leb, IsPartitionPoint-from_clause}
use Rattle.sorted_records.proofs.OfSort.Order.{parted_by_page, pages_first}
use Rattle.sorted_records.proofs.OfGroup.Narrowed.{page_point}
use Rattle.sorted_records.proofs.search.pages_up_to.Goals as goal

pub returns-in-None-clause-first : goal.returns-in-None-clause-first
returns-in-None-clause-first c =
    pages_first c.args.records.now c.args.page c.partition_point.result
    (IsPartitionPoint-from_clause (λ f. leb f.rec.page c.args.page) c.args.records.now c.partition_point.result
    c.partition_point.ensures.partitioned (parted_by_page c.args.records.now c.args.page c.requires.order)
    (λ a r q k. search rules))

pub returns-in-Some-clause-first : goal.returns-in-Some-clause-first
returns-in-Some-clause-first c =
    page_point c.args.records.now c.args.page c.pages_below.result
    (rw c.in-Some.ensures.1 at c.pages_below.ensures.first)
