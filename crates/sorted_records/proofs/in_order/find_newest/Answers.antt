-- The last record of the page has the name, or the page has none.
use Rattle.sorted_records.proofs.Common.{◌≡◌, Some, position, refl, sym, subst, arith, has_name}
use Rattle.record_list.specs.Verdict.{newest_name}
use Rattle.sorted_records.proofs.OfGroup.Readings.{newest_named}
use Rattle.sorted_records.proofs.OfSort.Order.{nowhere_up_to}
use Rattle.sorted_records.proofs.in_order.find_newest.Goals as goal

pub returns-then-end-eq0 : goal.returns-then-end-eq0
returns-then-end-eq0 c =
    sym (nowhere_up_to c.args.records.now (newest_name c.args.records.now c.args.page) c.pages_up_to-end.result c.requires.order
    c.pages_up_to-end.ensures.within c.pages_up_to-end.ensures.first
    (λ some own. let none = c.if-end-eq0.true in omega arith))

pub returns-then-records-end : goal.returns-then-records-end
returns-then-records-end c =
    sym (nowhere_up_to c.args.records.now (newest_name c.args.records.now c.args.page) c.pages_up_to-end.result c.requires.order
    c.pages_up_to-end.ensures.within c.pages_up_to-end.ensures.first (λ some own. c.if-records-end.true own))

pub returns : goal.returns
returns c =
    let l = c.args.records.now in
    sym (subst (λ n. position (λ f. has_name n f.rec) l ≡ Some c.first_namesake.result)
    (newest_named l c.requires.order (newest_name l c.args.page) c.pages_up_to-end.result c.pages_up_to-end.ensures.within
    c.pages_up_to-end.ensures.first (let some = c.if-end-eq0.false in omega arith) c.if-records-end.false
    refl)
    c.first_namesake.ensures)
