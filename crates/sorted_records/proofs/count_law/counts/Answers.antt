use Rattle.sorted_records.proofs.Common.{None, Some, subst, IsPermutation-sym, KeepsCount}
use Rattle.std.proofs.lemmas.List.Sorted.{All-permutation}
use Rattle.record_list.specs.Search.{FindsFirst}
use Rattle.record_list.proofs.OfFacts.Breaches.{miscount_at}
use Rattle.record_list.proofs.OfChanges.Counting.{none_counted}
use Rattle.sorted_records.proofs.OfCount.CountLaw.{namesakes, miscounts_alike}
use Rattle.sorted_records.proofs.count_law.counts.Goals as goal

pub returns-then-not-has_count : goal.returns-then-not-has_count
returns-then-not-has_count c = none_counted c.args.list.now (c.has_count.ensures.0 c.if-not-has_count.true)

pub first_miscount-requires-clause-namesakes : goal.first_miscount-requires-clause-namesakes
first_miscount-requires-clause-namesakes c = namesakes c.args.list.now c.args.chart.now c.requires.sorts
    c.requires.copies c.requires.scanned

pub returns-in-None : goal.returns-in-None
returns-in-None c =
    miscounts_alike c.args.list.now c.args.chart.now c.requires.sorts c.requires.copies c.requires.scanned None
    (subst (FindsFirst (KeepsCount c.args.chart.now) c.args.list.now) c.in-None.is c.first_miscount.ensures)

pub returns-in-Some : goal.returns-in-Some
returns-in-Some c =
    rw c.breach_at.ensures (miscount_at c.args.list.now c.in-Some.at c.requires.scanned
    (miscounts_alike c.args.list.now c.args.chart.now c.requires.sorts c.requires.copies c.requires.scanned
    (Some c.in-Some.at)
    (subst (FindsFirst (KeepsCount c.args.chart.now) c.args.list.now) c.in-Some.is c.first_miscount.ensures)))

pub returns-then-all_keep_count : goal.returns-then-all_keep_count
returns-then-all_keep_count c =
    let list = c.args.list.now in
    let chart = c.args.chart.now in
    miscounts_alike list chart c.requires.sorts c.requires.copies c.requires.scanned None
    (All-permutation (KeepsCount chart) chart list (IsPermutation-sym list chart c.requires.sorts.records)
    (c.all_keep_count.ensures c.if-all_keep_count.true))

pub all_keep_count-requires-clause-namesakes : goal.all_keep_count-requires-clause-namesakes
all_keep_count-requires-clause-namesakes c = namesakes c.args.list.now c.args.chart.now c.requires.sorts
    c.requires.copies c.requires.scanned
