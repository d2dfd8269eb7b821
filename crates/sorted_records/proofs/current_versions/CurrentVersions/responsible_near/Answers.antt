-- The bound of a page is its current version.
use Rattle.sorted_records.proofs.Common.{length, get_or, ap, ◌∙◌, arith, length-map-range_with_len, greatest, cur, straddling_upto}
use Rattle.std.proofs.lemmas.List.FromFn.{get_or-map-range_with_len}
use Rattle.record_list.specs.Current.{responsible}
use Rattle.sorted_records.specs.CurrentVersions.{CurrentVersionsState}
use Rattle.sorted_records.proofs.current_versions.CurrentVersions.responsible_near.Goals as goal

pub straddling_up_to_bound-requires-clause-bound : goal.straddling_up_to_bound-requires-clause-bound
straddling_up_to_bound-requires-clause-bound c =
    let s = c.self.inside in
    let n = length-map-range_with_len (cur s.protocol s.chart s.logical) 0 s.logical in
    let e = ap length c.self.invariant.current in
    let d = ap length c.deref.ensures.value in
    omega arith

pub returns-then-name-self : goal.returns-then-name-self
returns-then-name-self c =
    let s = c.self.inside in
    let name = c.args.name in
    rw (c.deref.ensures.value) at c.straddling_up_to_bound.ensures
    ∙ ap (λ l. greatest (straddling_upto (get_or l name.page 0) name) s.chart) c.self.invariant.current
    ∙ ap (λ t. greatest (straddling_upto t name) s.chart)
    (get_or-map-range_with_len (cur s.protocol s.chart s.logical) 0 s.logical name.page name.page 0 (omega arith)
    (omega arith))
    ∙ ap (λ (j : CurrentVersionsState). responsible j.protocol j.list j.logical name) c.self.view_is
