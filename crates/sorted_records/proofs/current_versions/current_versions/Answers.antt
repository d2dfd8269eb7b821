-- One more version, and at the end those of all pages.
use Rattle.sorted_records.proofs.Common.{◌≡◌, length, sym, ap, ◌∙◌, arith, length-map-range_with_len, cur}
use Rattle.std.proofs.lemmas.List.FromFn.{map-range_with_len_more}
use Rattle.sorted_records.proofs.current_versions.current_versions.Goals as goal

pub push_reserved-requires : goal.push_reserved-requires
push_reserved-requires c =
    let page = c.loop-page.page in
    let size = ap length c.loop-page.invariant.versions in
    let count = length-map-range_with_len (cur c.args.protocol c.args.chart.now c.args.logical) 0 page in
    let within = c.loop-page-test.true in
    let room = c.loop-page.invariant.room in
    omega arith

pub loop-page-preserved : goal.loop-page-preserved
loop-page-preserved c =
    let page = c.loop-page.page in
    record {
      versions = (rw (c.loop-page.invariant.versions, c.current_below.ensures) at c.push_reserved.ensures.items)
          ∙ sym (map-range_with_len_more (cur c.args.protocol c.args.chart.now c.args.logical) 0 page page
          (omega arith));
      room = rw c.push_reserved.ensures.capacity c.loop-page.invariant.room;
    }

pub returns : goal.returns
returns c =
    let end = c.loop-page-test.false in
    let last = c.loop-page.auto.page-end in
    let same : c.loop-page.page ≡ c.args.logical = omega arith in
    rw same at c.loop-page.invariant.versions
