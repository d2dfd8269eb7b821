use Rattle.sorted_records.proofs.Common.{rules, refl, name_of}
use Rattle.sorted_records.proofs.OfSort.Sorting.{named, orders_by_closure, sorts_from}
use Rattle.sorted_records.proofs.in_order.sort.Goals as goal

pub returns : goal.returns
returns c =
    sorts_from c.args.records.now.items c.sort_by_key.new.self.items
    (orders_by_closure (λ f. name_of f.rec) named (λ name. refl) c.args.records.now.items c.sort_by_key.new.self.items
    c.in_ok-sort_by_key.ensures.permutation c.in_ok-sort_by_key.ensures.sorted c.in_ok-sort_by_key.ensures.stable
    (λ a r q k. search rules))
