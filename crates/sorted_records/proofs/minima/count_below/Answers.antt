use Rattle.sorted_records.proofs.Common.{nat_lt, rules, IsPartitionPoint-from_clause}
use Rattle.sorted_records.proofs.OfGroup.Straddlers.{parted_below, below_first_ones}
use Rattle.sorted_records.proofs.minima.count_below.Goals as goal

pub returns-clause-first : goal.returns-clause-first
returns-clause-first c =
    below_first_ones c.args.least.now c.args.version c.partition_point.result
    (IsPartitionPoint-from_clause (λ m. nat_lt m c.args.version) c.args.least.now c.partition_point.result
    c.partition_point.ensures.partitioned (parted_below c.args.least.now c.args.version c.requires)
    (λ a r q k. search rules))
