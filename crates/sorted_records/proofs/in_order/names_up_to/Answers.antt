use Rattle.sorted_records.proofs.Common.{rules, not, IsPartitionPoint-from_clause, name_of, is_below}
use Rattle.sorted_records.proofs.OfSort.Order.{parted_up_to, up_to_first}
use Rattle.sorted_records.proofs.OfGroup.Narrowed.{name_point}
use Rattle.sorted_records.proofs.in_order.names_up_to.Goals as goal

pub returns-in-None-clause-first : goal.returns-in-None-clause-first
returns-in-None-clause-first c =
    up_to_first c.args.records.now c.args.name c.partition_point.result
    (IsPartitionPoint-from_clause (λ f. not (is_below c.args.name (name_of f.rec))) c.args.records.now
    c.partition_point.result
    c.partition_point.ensures.partitioned (parted_up_to c.args.records.now c.args.name c.requires.order)
    (λ a r q k. search rules))

pub returns-in-Some-clause-first : goal.returns-in-Some-clause-first
returns-in-Some-clause-first c =
    name_point c.args.records.now c.args.name c.names_below.result
    (rw c.in-Some.ensures.1 at c.names_below.ensures.first)
