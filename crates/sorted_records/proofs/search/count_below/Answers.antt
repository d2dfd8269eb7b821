use Rattle.sorted_records.proofs.Common.{rules, IsPartitionPoint-from_clause, name_of, is_below}
use Rattle.sorted_records.proofs.OfSort.Order.{parted_by_name}
use Rattle.sorted_records.proofs.search.count_below.Goals as goal

pub returns-clause-first : goal.returns-clause-first
returns-clause-first c =
    IsPartitionPoint-from_clause (λ f. is_below (name_of f.rec) c.args.name) c.args.records.now c.partition_point.result
    c.partition_point.ensures.partitioned (parted_by_name c.args.records.now c.args.name c.requires)
    (λ a r q k. search rules)
