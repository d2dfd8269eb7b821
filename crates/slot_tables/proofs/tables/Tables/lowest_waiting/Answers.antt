-- The loop goes through the records that wait for the page.
use Rattle.slot_tables.proofs.Common.{arith, option_map, tables_state}
use Rattle.slot_tables.proofs.OfWaitList.WaitingFor.{so_far_first, so_far_next, lowest_some, lowest_none}
use Rattle.slot_tables.proofs.tables.Tables.lowest_waiting.Goals as goal

pub loop-next-init : goal.loop-next-init
loop-next-init c =
    let first = so_far_first (tables_state c.self.inside.base) c.args.page c.args.below _
    (λ x is. (c.by_page-waiting.ensures.waiting c.args.page x).1 is) in
    (rw c.first-next.ensures.order first, c.first-next.ensures.listed)

pub first_below-requires-clause-number : goal.first_below-requires-clause-number
first_below-requires-clause-number c =
    let has = rw c.in-Some.is at c.loop-next.invariant.1 in
    let kept = c.self.invariant.sized.kept in
    omega (
      arith,
      c.by_page-waiting.ensures.disjoint.within c.args.page c.in-Some.number has,
      c.by_page-waiting.ensures.places,
      kept.waits,
      kept.slots,
    )

pub loop-next-preserved : goal.loop-next-preserved
loop-next-preserved c =
    let has = rw c.in-Some.is at c.loop-next.invariant.1 in
    let before = rw (c.in-Some.is, c.next-next.ensures.order c.args.page has) at c.loop-next.invariant.0 in
    let waits = (c.by_page-waiting.ensures.waiting c.args.page c.in-Some.number).0 has in
    let after = so_far_next (tables_state c.self.inside.base) c.args.page c.args.below c.in-Some.number
    _ (option_map (λ at. at.0) c.loop-next.lowest) before waits in
    (rw (c.lower-lowest.ensures, c.first_below.ensures) after, c.next-next.ensures.listed c.args.page has)

pub returns-clause-some : goal.returns-clause-some
returns-clause-some c =
    let all = rw c.in_default.is at c.loop-next.invariant.0 in
    rw (← c.self.view_is) (lowest_some (tables_state c.self.inside.base) c.args.page c.args.below c.loop-next.lowest
    all)

pub returns-clause-none : goal.returns-clause-none
returns-clause-none c =
    let all = rw c.in_default.is at c.loop-next.invariant.0 in
    rw (← c.self.view_is) (lowest_none (tables_state c.self.inside.base) c.args.page c.args.below c.loop-next.lowest
    all)
