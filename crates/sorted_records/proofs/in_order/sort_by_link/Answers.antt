use Rattle.sorted_records.proofs.Common.{rules, refl}
use Rattle.sorted_records.proofs.OfSort.Sorting.{linked, orders_by_closure}
use Rattle.sorted_records.proofs.in_order.sort_by_link.Goals as goal

pub returns : goal.returns
returns c =
    orders_by_closure (λ f. f.rec.next) linked (λ link. refl) c.args.records.now.items c.sort_by_key.new.self.items
    c.in_ok-sort_by_key.ensures.permutation c.in_ok-sort_by_key.ensures.sorted c.in_ok-sort_by_key.ensures.stable
    (λ a r q k. search rules)
