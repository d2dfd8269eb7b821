-- The loop goes through the records that wait for the page.
use Rattle.slot_tables.proofs.Common.{◌≡◌, ◌++◌, ◌↔◌, List, ℕ, Some, length, map, refl, sym, ap, ◌∙◌, subst, arith, Contains, flat_map, length-map, list_of, rest_from, TablesState, IsTablesState, number_at, block_at, copies_below}
use Rattle.std.proofs.Common.{append_assoc}
use Rattle.std.proofs.lemmas.List.{append-nil, length-append, map-append}
use Rattle.slot_tables.proofs.OfSlots.GatheredSlots.{gathered, few_below}
use Rattle.slot_tables.proofs.OfRecords.Rising.{rest_starts}
use Rattle.slot_tables.proofs.tables.Tables.put_waiting.Goals as goal

pub loop-next-init : goal.loop-next-init
loop-next-init c =
    let k = c.args.self.now in
    let all : List ℕ → List ℕ = flat_map (copies_below k c.args.below) in
    let b = block_at k.shape.pages_per_block in
    let order = ap all c.first-next.ensures.order in (
      ap (λ items. items ++ map b (all (rest_from (list_of c.by_page-waiting.result.now c.args.page)
          c.first-next.result))) c.requires.empty
          ∙ ap (map b) order,
      (let long = ap length order in omega (arith, long, c.requires.none)),
      refl,
      c.first-next.ensures.listed,
    )

pub put_below-requires-clause-number : goal.put_below-requires-clause-number
put_below-requires-clause-number c =
    let has = rw c.in-Some.is at c.loop-next.invariant.3 in
    let kept = c.self.invariant.sized.kept in
    rw (← c.self.view_is) (omega (
      arith,
      c.by_page-waiting.ensures.disjoint.within c.args.page c.in-Some.number has,
      c.by_page-waiting.ensures.places,
      kept.waits,
    ))

pub put_below-requires-clause-room : goal.put_below-requires-clause-room
put_below-requires-clause-room c =
    let k = c.args.self.now in
    let xs = list_of c.by_page-waiting.result.now c.args.page in
    let has = rw c.in-Some.is at c.loop-next.invariant.3 in
    let all : List ℕ → List ℕ = flat_map (copies_below k c.args.below) in
    let own = copies_below k c.args.below c.in-Some.number in
    let order = ap (rest_from xs) c.in-Some.is ∙ rest_starts xs c.in-Some.number has in
    let starts = ap (λ r. length (all r)) order ∙ length-append own _ in
    let few = few_below k c.args.below xs (c.by_page-waiting.ensures.disjoint.once c.args.page) in
    let kept = subst IsTablesState c.self.view_is c.self.invariant.sized.kept in
    omega (arith, starts, few, kept.slots, c.requires.room, c.loop-next.invariant.1, c.loop-next.invariant.2)

pub next-next-requires : goal.next-next-requires
next-next-requires c = (c.args.page, rw c.in-Some.is at c.loop-next.invariant.3)

pub loop-next-preserved : goal.loop-next-preserved
loop-next-preserved c =
    let k = c.args.self.now in
    let xs = list_of c.by_page-waiting.result.now c.args.page in
    let has = rw c.in-Some.is at c.loop-next.invariant.3 in
    let order = ap (rest_from xs) c.in-Some.is ∙ c.next-next.ensures.order c.args.page has in
    let all : List ℕ → List ℕ = flat_map (copies_below k c.args.below) in
    let b = block_at k.shape.pages_per_block in
    let own = copies_below k c.args.below c.in-Some.number in
    let rest = all (rest_from xs c.next-next.result) in
    let old = c.loop-next.into.items in (
      ap (λ items. items ++ map b rest) c.put_below.ensures.put ∙ append_assoc old (map b own) (map b rest)
          ∙ ap (λ r. old ++ r) (sym (map-append b own rest))
          ∙ ap (λ r. old ++ map b (all r)) (sym order) ∙ c.loop-next.invariant.0,
      (let long = ap (λ r. length (all r)) order ∙ length-append own rest in
          omega (arith, long, c.put_below.ensures.len, c.loop-next.invariant.1)),
      c.put_below.ensures.room ∙ c.loop-next.invariant.2,
      c.next-next.ensures.listed c.args.page has,
    )

pub returns-clause-gathered : goal.returns-clause-gathered
returns-clause-gathered c =
    let k = c.args.self.now in
    let xs = list_of c.by_page-waiting.result.now c.args.page in
    let all : List ℕ → List ℕ = flat_map (copies_below k c.args.below) in
    let b = block_at k.shape.pages_per_block in
    let is = sym (append-nil c.loop-next.into.items)
    ∙ ap (λ s. c.loop-next.into.items ++ map b (all (rest_from xs s))) (sym c.in_default.is)
    ∙ c.loop-next.invariant.0 in
    gathered k c.args.page c.args.below xs (c.by_page-waiting.ensures.disjoint.once c.args.page)
    (λ x. subst (λ (n : TablesState). Contains xs x ↔ (number_at n.waits x ≡ Some c.args.page)) c.self.view_is
    (c.by_page-waiting.ensures.waiting c.args.page x)) c.loop-next.into.items is

pub returns-clause-len : goal.returns-clause-len
returns-clause-len c =
    let k = c.args.self.now in
    let xs = list_of c.by_page-waiting.result.now c.args.page in
    let all : List ℕ → List ℕ = flat_map (copies_below k c.args.below) in
    let b = block_at k.shape.pages_per_block in
    let is = sym (append-nil c.loop-next.into.items)
    ∙ ap (λ s. c.loop-next.into.items ++ map b (all (rest_from xs s))) (sym c.in_default.is)
    ∙ c.loop-next.invariant.0 in
    let long = ap length is ∙ length-map (all xs) b in
    let end = ap (λ s. length (all (rest_from xs s))) c.in_default.is in
    omega (arith, long, end, c.loop-next.invariant.1)
