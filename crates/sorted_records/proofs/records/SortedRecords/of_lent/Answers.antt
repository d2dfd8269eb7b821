use Rattle.sorted_records.proofs.Common.{arith}
use Rattle.std.proofs.lemmas.List.Sorted.{length_permutation}
use Rattle.sorted_records.proofs.records.SortedRecords.of_lent.Goals as goal

pub of_ordered-requires-clause-few : goal.of_ordered-requires-clause-few
of_ordered-requires-clause-few c =
    let l = length_permutation c.args.list.now c.in_ok-arranged.arranged.records.items
    c.in_ok-arranged.ensures.sorts.records in
    let few = c.if-list.false in
    omega arith
