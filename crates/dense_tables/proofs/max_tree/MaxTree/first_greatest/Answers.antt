use Rattle.dense_tables.proofs.Common.{◌≡◌, ◌+◌, eqb, get_or, length, drop, refl, sym, ◌∙◌, rules, arith, greatest, under, IsShape}
use Rattle.std.specs.List.{position}
use Rattle.std.proofs.lemmas.List.{get_or-take}
use Rattle.dense_tables.specs.Levels.{MaxTreeInvariant}
use Rattle.dense_tables.specs.declared.max_tree.MaxTree.TheInside.{Inside}
use Rattle.dense_tables.proofs.Tree.{rooted, root, under-set_first, AreAllPeaks}
use Rattle.dense_tables.proofs.Descent.{way_begins, way_down, way_ends, peak_under, first_place, all_zero, some_cells, rooted_shape, rooted_numbers}
use Rattle.dense_tables.proofs.Descent.{all_peaks}
use Rattle.dense_tables.proofs.Filling.{front_all, first_front, some_lies}
use Rattle.dense_tables.proofs.max_tree.MaxTree.first_greatest.Goals as goal

module _ (p : Inside) (h : MaxTreeInvariant p) where
  shape : IsShape p.levels p.start (length (rooted p.cells.items))
  shape = rooted_shape p.cells.items p.levels p.start h.shape

  peaks : AreAllPeaks (rooted p.cells.items) p.start
  peaks = all_peaks p.cells.items p.levels p.top p.start h.shape h.top h.peaks

  numbers : drop p.start (rooted p.cells.items) ≡ drop p.start p.cells.items
  numbers = rooted_numbers p.cells.items p.levels p.start h.shape

  first : get_or (rooted p.cells.items) 0 0 ≡ greatest (under p.cells.items 0)
  first = root p.cells.items (some_cells p.cells.items p.levels p.start h.shape).1

pub returns-then-peak-eq0-clause-none : goal.returns-then-peak-eq0-clause-none
returns-then-peak-eq0-clause-none c =
    let p = c.self.inside in
    let h = c.self.invariant in
    let peak = rw c.deref.ensures.value at c.peak_at-peak.ensures in
    let zero = all_zero (rooted p.cells.items) p.levels p.start (shape p h) (peaks p h) (first p h ∙ sym peak
    ∙ c.if-peak-eq0.true) in
    let all = rw (numbers p h) at zero in
    (λ _. rw (← c.self.view_is) (front_all (drop p.start p.cells.items) p.count (λ x. x ≡ 0) all), λ _. refl)

pub unwrap-requires : goal.unwrap-requires
unwrap-requires c =
    let p = c.self.inside in
    let h = c.self.invariant in
    let cells = p.cells.items in
    let all = rooted cells in
    let at = c.loop-level.start + c.loop-level.place in
    let peak = rw c.deref.ensures.value at c.peak_at-peak.ensures ∙ sym (first p h) in
    let found = peak_under all p.levels p.start (shape p h) (peaks p h) _ _ _ c.loop-level.invariant
    c.loop-level-test.true (omega arith) in
    let place = first_place (under all at) (get_or all 0 0) found.0 found.1 found.2 in
    let reads : c.place_of.result ≡ position (λ x. eqb x (get_or all 0 0)) (under all at) =
    rw (
      c.under.ensures,
      c.deref-in-loop-level.ensures.value,
      peak,
      ← under-set_first cells at (greatest (under cells 0)),
    ) at c.place_of.ensures in
    rw (reads, place.1) (search rules)

pub loop-level-init : goal.loop-level-init
loop-level-init c =
    let p = c.self.inside in way_begins (rooted p.cells.items) p.levels p.start (shape p c.self.invariant)
    (peaks p c.self.invariant)

pub loop-level-preserved : goal.loop-level-preserved
loop-level-preserved c =
    let p = c.self.inside in
    let h = c.self.invariant in
    let cells = p.cells.items in
    let all = rooted cells in
    let at = c.loop-level.start + c.loop-level.place in
    let peak = rw c.deref.ensures.value at c.peak_at-peak.ensures ∙ sym (first p h) in
    let reads : c.place_of.result ≡ position (λ x. eqb x (get_or all 0 0)) (under all at) =
    rw (
      c.under.ensures,
      c.deref-in-loop-level.ensures.value,
      peak,
      ← under-set_first cells at (greatest (under cells 0)),
    ) at c.place_of.ensures in
    way_down all p.levels p.start (shape p h) (peaks p h) _ _ _ c.unwrap.result c.loop-level.invariant
    c.loop-level-test.true
    (sym reads ∙ c.unwrap.ensures)

pub returns-clause-none : goal.returns-clause-none
returns-clause-none c =
    let p = c.self.inside in
    let h = c.self.invariant in
    let cells = p.cells.items in
    let peak = rw c.deref.ensures.value at c.peak_at-peak.ensures ∙ sym (first p h) in
    let last : c.loop-level._level ≡ p.levels = omega arith in
    let ends = way_ends (rooted cells) p.levels p.start (shape p h) (peaks p h)
    _ _ (rw last at c.loop-level.invariant) in
    let end = rw (numbers p h) at ends in
    let lies = some_lies cells p.start p.count h.filled c.loop-level.place (omega (arith, end.1, peak)) in
    let its = first_front (drop p.start cells) p.count c.loop-level.place end.0 lies in (
      λ no. cc,
      λ zero.
          let none = rw (← c.self.view_is) at zero in
          let is = none c.loop-level.place 0 its.within in
          let reads = get_or-take p.count (drop p.start cells) c.loop-level.place 0 lies in
          absurd (omega (arith, end.1, peak, is, reads)),
    )

pub returns-clause-first : goal.returns-clause-first
returns-clause-first c =
    let p = c.self.inside in
    let h = c.self.invariant in
    let cells = p.cells.items in
    let peak = rw c.deref.ensures.value at c.peak_at-peak.ensures ∙ sym (first p h) in
    let last : c.loop-level._level ≡ p.levels = omega arith in
    let ends = way_ends (rooted cells) p.levels p.start (shape p h) (peaks p h)
    _ _ (rw last at c.loop-level.invariant) in
    let end = rw (numbers p h) at ends in
    let lies = some_lies cells p.start p.count h.filled c.loop-level.place (omega (arith, end.1, peak)) in
    rw (← c.self.view_is) (first_front (drop p.start cells) p.count c.loop-level.place end.0 lies)
