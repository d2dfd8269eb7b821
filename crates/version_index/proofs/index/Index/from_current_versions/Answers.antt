mod ScanCurrent
mod ScanDerived
mod ScanFills
mod ScanMentions
mod ScanSizes
use Rattle.version_index.proofs.Common.{◌≡◌, ◌≤◌, ◌-◌, ◌*◌, false, length, ap, sym, subst, refl, ◌∙◌, arith, length-map, shape_of, slots_of, blocks_of, Sorts, TablesState, AreFilled, noted_by, AreIndexed, range_with_len}
use Rattle.std.proofs.Common.{replicate}
use Rattle.std.specs.Result.{result_unwrap_or}
use Rattle.std.proofs.Math.Nat.{mul-le-mul_right}
use Rattle.std.proofs.lemmas.List.Sorted.{length_permutation}
use Rattle.tx_types.specs.Config.{IsShape}
use Rattle.judged_records.specs.IndexState.{IsNotedFrom, used_blocks}
use Rattle.judged_records.proofs.OfChanges.NotedChanges.{fresh_noted}
use Rattle.version_index.proofs.OfOpening.ClosedBlocks.{filled_closed}
use Rattle.version_index.proofs.index.Index.from_current_versions.Answers.ScanCurrent.{AreKept, filled_kept}
use Rattle.version_index.proofs.index.Index.from_current_versions.Answers.ScanFills.{can_fill}
use Rattle.version_index.proofs.index.Index.from_current_versions.Answers.ScanDerived.{filled_indexed}
use Rattle.version_index.proofs.index.Index.from_current_versions.Answers.ScanMentions.{mentions_sorted}
use Rattle.version_index.proofs.index.Index.from_current_versions.Answers.ScanSizes.{complete_length, sorted_exist}
use Rattle.version_index.proofs.index.Index.from_current_versions.Goals as goal

pub build_tables-requires-clause-few : goal.build_tables-requires-clause-few
build_tables-requires-clause-few g c =
    let same : c.in-Ok.shape ≡ shape_of c.args.config =
    ap (λ r. result_unwrap_or r (shape_of c.args.config)) (sym c.in-Ok.is ∙ c.check.ensures.exact ∙ c.requires.check) in
    let slots = ap slots_of same in
    let long = length_permutation c.requires.scan.0 c.args.standing.now.list c.requires.scan.1.sorts.records in
    let some = sym (length-map c.requires.scan.0 (λ f. f.slot.0)) ∙ ap length c.requires.scan.1.complete in
    let few = complete_length c.args.seen.now in
    let seen = c.requires.scan.1.reads in
    omega arith

pub close_used-requires-clause-none_closed : goal.close_used-requires-clause-none_closed
close_used-requires-clause-none_closed g c =
    let shape = ap (λ (k : TablesState). k.shape) c.in_ok-tables.ensures ∙ c.in_ok-filled.ensures.filled.shape in
    ap (λ (k : TablesState). k.closed) c.in_ok-tables.ensures ∙ c.in_ok-filled.ensures.none_closed
    ∙ ap (λ s. replicate (blocks_of s) false) (sym shape)

pub close_used-requires-clause-seen : goal.close_used-requires-clause-seen
close_used-requires-clause-seen g c =
    let same : c.in-Ok.shape ≡ shape_of c.args.config =
    ap (λ r. result_unwrap_or r (shape_of c.args.config)) (sym c.in-Ok.is ∙ c.check.ensures.exact ∙ c.requires.check) in
    c.requires.scan.1.reads
    ∙ sym (ap (λ (k : TablesState). slots_of k.shape) c.in_ok-tables.ensures
    ∙ ap slots_of (c.in_ok-filled.ensures.filled.shape ∙ same))

pub count_written-written-requires-clause-kept : goal.count_written-written-requires-clause-kept
count_written-written-requires-clause-kept g c = λ none.
    let t : TablesState = c.in_ok-filled.filled.tables in
    let is : c.close_used.new.tables ≡ record t { closed = used_blocks t.shape c.args.seen.now } =
    c.close_used.ensures
    ∙ ap (λ (k : TablesState). record k { closed = used_blocks k.shape c.args.seen.now }) c.in_ok-tables.ensures in
    subst AreKept (sym is)
    (filled_kept c.args.standing.now.protocol c.args.standing.now.list c.in-Ok.shape c.args.config.logical t
    c.in_ok-filled.ensures.filled (c.in_ok-filled.ensures.discards none))

pub count_written-written-requires-clause-pages : goal.count_written-written-requires-clause-pages
count_written-written-requires-clause-pages g c =
    ap (λ (k : TablesState). length k.pages) (c.close_used.ensures
    ∙ ap (λ (k : TablesState). record k { closed = used_blocks k.shape c.args.seen.now }) c.in_ok-tables.ensures)
    ∙ c.in_ok-filled.ensures.filled.pages

pub invariant_of-result : goal.invariant_of-result
invariant_of-result g c =
    let t : TablesState = c.in_ok-filled.filled.tables in
    let its = c.args.config in
    let m = c.in_ok-filled.filled.mentions.items in
    let closed = used_blocks (shape_of its) c.args.seen.now in
    let t' : TablesState = record t { closed = closed } in
    let same : c.in-Ok.shape ≡ shape_of its =
    ap (λ r. result_unwrap_or r (shape_of its)) (sym c.in-Ok.is ∙ c.check.ensures.exact ∙ c.requires.check) in
    let is : c.close_used.new.tables ≡ t' =
    c.close_used.ensures
    ∙ ap (λ (k : TablesState). record k { closed = used_blocks k.shape c.args.seen.now }) c.in_ok-tables.ensures
    ∙ ap (λ s. record t { closed = used_blocks s c.args.seen.now }) (c.in_ok-filled.ensures.filled.shape ∙ same) in
    let can = can_fill g.R.CommitRule.protocol its c.in-Ok.shape c.args.seen.now c.requires.scan.0 c.args.standing.now
    same c.requires.scan.1 in
    let found = c.in_ok-filled.ensures.found c.requires.scan.0 can in
    let filled = subst (λ p. AreFilled p c.args.standing.now.list (shape_of its) its.logical t) c.requires.protocol
    (subst (λ s. AreFilled c.args.standing.now.protocol c.args.standing.now.list s its.logical t) same
    c.in_ok-filled.ensures.filled) in
    let noted = fresh_noted _ its c.args.seen.now c.requires.scan.0 (noted_by its m t') c.requires.check
    c.in-Ok.ensures.bounds c.requires.rule
    c.requires.scan.1.reads c.requires.scan.1.slots c.requires.scan.1.sound (record {
      config = refl;
      reads = c.in_ok-filled.ensures.reads;
      found = found;
      pins = filled.pins;
      spare = filled.spare;
      mentions = c.in_ok-filled.ensures.mentions
          ∙ mentions_sorted c.requires.scan.0 c.args.standing.now.list c.requires.scan.1.sorts
          (range_with_len 0 its.logical);
      closed = refl;
    }) in
    record {
      indexed =
          subst (λ (k : TablesState). AreIndexed g.R.CommitRule.protocol its m k) (sym is)
          (filled_indexed _ its m t' c.args.standing.now.list noted
          (subst (λ l. Sorts l c.args.standing.now.list) (sym found) c.requires.scan.1.sorts)
          (filled_closed _ c.args.standing.now.list (shape_of its) its.logical t closed filled));
      written = c.count_written-written.ensures;
    }

pub returns : goal.returns
returns g c own scan =
    let its = c.args.config in
    let m = c.in_ok-filled.filled.mentions.items in
    let same : c.in-Ok.shape ≡ shape_of its =
    ap (λ r. result_unwrap_or r (shape_of its)) (sym c.in-Ok.is ∙ c.check.ensures.exact ∙ c.requires.check) in
    let can = can_fill g.R.CommitRule.protocol its c.in-Ok.shape c.args.seen.now own c.args.standing.now same scan in
    let filled = c.in_ok-filled.ensures.filled in
    let t : TablesState = c.in_ok-filled.filled.tables in
    let is : c.close_used.new.tables ≡ record t { closed = used_blocks (shape_of its) c.args.seen.now } =
    c.close_used.ensures
    ∙ ap (λ (k : TablesState). record k { closed = used_blocks k.shape c.args.seen.now }) c.in_ok-tables.ensures
    ∙ ap (λ s. record t { closed = used_blocks s c.args.seen.now }) (filled.shape ∙ same) in
    subst (λ (k : TablesState). IsNotedFrom its c.args.seen.now own (noted_by its m k))
    (sym is) (record {
      config = refl;
      reads = c.in_ok-filled.ensures.reads;
      found = c.in_ok-filled.ensures.found own can;
      pins = filled.pins;
      spare = filled.spare;
      mentions = c.in_ok-filled.ensures.mentions
          ∙ mentions_sorted own c.args.standing.now.list scan.sorts (range_with_len 0 its.logical);
      closed = refl;
    })

pub build_tables-requires-clause-pages : goal.build_tables-requires-clause-pages
build_tables-requires-clause-pages g c =
    let its = c.args.config in
    let same : c.in-Ok.shape ≡ shape_of its =
    ap (λ r. result_unwrap_or r (shape_of its)) (sym c.in-Ok.is ∙ c.check.ensures.exact ∙ c.requires.check) in
    let blocks = blocks_of (shape_of its) in
    let less : blocks - 1 ≤ blocks = omega arith in
    let most : (blocks - 1) * its.pages_per_block ≤ blocks * its.pages_per_block =
    mul-le-mul_right its.pages_per_block less in
    let space = c.in-Ok.ensures.bounds.space in
    subst (λ s. its.logical ≤ slots_of s) (sym same) (omega arith)

pub build_tables-requires-clause-exist : goal.build_tables-requires-clause-exist
build_tables-requires-clause-exist g c =
    sorted_exist _ c.requires.scan.0 c.args.standing.now.list c.args.config.logical c.requires.scan.1.sound
    c.requires.scan.1.slots c.requires.scan.1.sorts

pub build_tables-requires-clause-shape : goal.build_tables-requires-clause-shape
build_tables-requires-clause-shape g c =
    let same : c.in-Ok.shape ≡ shape_of c.args.config =
    ap (λ r. result_unwrap_or r (shape_of c.args.config)) (sym c.in-Ok.is ∙ c.check.ensures.exact ∙ c.requires.check) in
    subst IsShape (sym same) c.in-Ok.ensures.bounds.shape

pub build_tables-requires-clause-fills : goal.build_tables-requires-clause-fills
build_tables-requires-clause-fills g c =
    let its = c.args.config in
    let same : c.in-Ok.shape ≡ shape_of its =
    ap (λ r. result_unwrap_or r (shape_of its)) (sym c.in-Ok.is ∙ c.check.ensures.exact ∙ c.requires.check) in (
      c.requires.scan.0,
      can_fill g.R.CommitRule.protocol its c.in-Ok.shape c.args.seen.now c.requires.scan.0 c.args.standing.now same
          c.requires.scan.1,
    )
