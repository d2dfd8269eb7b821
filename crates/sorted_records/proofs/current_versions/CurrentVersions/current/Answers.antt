-- The versions that are kept are those of the pages.
use Rattle.sorted_records.proofs.Common.{◌<◌, length, ap, ◌∙◌, arith, length-map-range_with_len, cur}
use Rattle.std.proofs.Common.{slice_index_or}
use Rattle.std.proofs.lemmas.List.{get_or_read}
use Rattle.std.proofs.lemmas.List.FromFn.{get_or-map-range_with_len}
use Rattle.sorted_records.specs.CurrentVersions.{CurrentVersionsState}
use Rattle.sorted_records.proofs.current_versions.CurrentVersions.current.Goals as goal

pub index-requires : goal.index-requires
index-requires c =
    let s = c.self.inside in
    let n = length-map-range_with_len (cur s.protocol s.chart s.logical) 0 s.logical in
    let e = ap length c.self.invariant.current in
    omega arith

pub returns-then-page-self : goal.returns-then-page-self
returns-then-page-self c =
    let s = c.self.inside in
    let n = length-map-range_with_len (cur s.protocol s.chart s.logical) 0 s.logical in
    let e = ap length c.self.invariant.current in
    let within : c.args.page < length s.current.items = omega arith in
    get_or_read s.current.items c.args.page c.index.result.now within c.index.ensures 0
    ∙ ap (λ l. slice_index_or l c.args.page 0) c.self.invariant.current
    ∙ get_or-map-range_with_len (cur s.protocol s.chart s.logical) 0 s.logical c.args.page c.args.page 0
    (omega arith) (omega arith)
    ∙ ap (λ (j : CurrentVersionsState). cur j.protocol j.list j.logical c.args.page) c.self.view_is
