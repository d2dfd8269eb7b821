use Rattle.page_keys.proofs.Common.{◌≤◌, sym, nat_lt}
use Rattle.std.proofs.Common.{rules, leb}
use Rattle.std.proofs.lemmas.List.Sorted.{IsPartitionedBy-leb, IsPartitionedBy-ltb, IsPartitionPoint-from_clause}
use Rattle.page_keys.proofs.OfPut.PlacedChanges.{page_in, group_up, group_range}
use Rattle.page_keys.proofs.grouping.of_page.Goals as goal

pub slice_bounds-result-count : goal.slice_bounds-result-count
slice_bounds-result-count c =
    group_up c.args.placed.now c.args.page c.partition_point-from.result c.partition_point-to.result
    (IsPartitionPoint-from_clause (λ p. nat_lt (page_in p) c.args.page) c.args.placed.now _
    c.partition_point-from.ensures.partitioned
    (IsPartitionedBy-ltb page_in c.args.placed.now c.args.page c.requires) (λ a r q k. search rules))
    (IsPartitionPoint-from_clause (λ p. leb (page_in p) c.args.page) c.args.placed.now _
    c.partition_point-to.ensures.partitioned
    (IsPartitionedBy-leb page_in c.args.placed.now c.args.page c.requires) (λ a r q k. search rules))
    c.partition_point-from.ensures.bound c.partition_point-to.ensures.bound

pub slice_bounds-result-start : goal.slice_bounds-result-start
slice_bounds-result-start c =
    let up : c.partition_point-from.result ≤ c.partition_point-to.result = slice_bounds-result-count c in
    search rules

pub returns : goal.returns
returns c =
    sym (group_range c.args.placed.now c.args.page c.partition_point-from.result c.partition_point-to.result
    (IsPartitionPoint-from_clause (λ p. nat_lt (page_in p) c.args.page) c.args.placed.now _
    c.partition_point-from.ensures.partitioned
    (IsPartitionedBy-ltb page_in c.args.placed.now c.args.page c.requires) (λ a r q k. search rules))
    (IsPartitionPoint-from_clause (λ p. leb (page_in p) c.args.page) c.args.placed.now _
    c.partition_point-to.ensures.partitioned
    (IsPartitionedBy-leb page_in c.args.placed.now c.args.page c.requires) (λ a r q k. search rules))
    c.partition_point-from.ensures.bound c.partition_point-to.ensures.bound)
