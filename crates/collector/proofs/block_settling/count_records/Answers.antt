use Rattle.collector.proofs.Common.{◌≡◌, ℕ, ◌+◌, ◌-◌, ◌*◌, ◌<◌, count_by, sym, ap, ◌∙◌, subst, arith, range_with_len, block_within, shape_of, Config, note_at, holds_record, reads_alike}
use Rattle.list_lemmas.proofs.Counts.{count_taken, count_passed}
use Rattle.flash_model.specs.declared.flash.Seen.TheVariants as seen
use Rattle.collector.proofs.OfSettle.BlockReadings.{complete_holds}
use Rattle.collector.proofs.block_settling.count_records.Goals as goal
use Rattle.collector.proofs.block_settling.count_records.Goals.{then-reads_alike, else-reads_alike}

pub loop-at-init : goal.loop-at-init
loop-at-init g c =
    let first = c.args.block.0 * c.config-pages.result.pages_per_block in
    let none : first - first ≡ 0 = omega arith in
    record {
      counted = ap (λ k. count_by (λ slot. holds_record (note_at c.args.index.now.notes slot)) (range_with_len first k))
          (sym none);
      bound = omega arith;
    }

pub seen-requires : goal.seen-requires
seen-requires g c =
    let within = block_within (shape_of c.args.index.now.config) c.args.block.0 c.requires.exists in
    let same : c.config-pages.result.pages_per_block ≡ c.args.index.now.config.pages_per_block =
    ap (λ (x : Config). x.pages_per_block)
    c.config-pages.ensures.config in
    let high : c.loop-at.at < c.args.block.0 * c.args.index.now.config.pages_per_block
    + c.args.index.now.config.pages_per_block =
    subst (λ k. c.loop-at.at < c.args.block.0 * k + k) same c.loop-at-test.true in
    omega (arith, within, high)

pub loop-at-preserved : goal.loop-at-preserved
loop-at-preserved g c =
    let p : ℕ → _ = λ slot. holds_record (note_at c.args.index.now.notes slot) in
    let first = c.args.block.0 * c.config-pages.result.pages_per_block in
    let low = c.loop-at.auto.at in
    let bound = c.loop-at.invariant.bound in
    let here : holds_record (note_at c.args.index.now.notes c.loop-at.at) ≡ c.reads_alike.result =
    sym (complete_holds (note_at c.args.index.now.notes c.loop-at.at))
    ∙ ap (λ q. reads_alike q seen.Complete) (sym c.seen.ensures)
    ∙ sym c.reads_alike.ensures in
    elim c.if-reads_alike.branch [
      | then-reads_alike w ↦ (
          let count = w.count-is in
          record {
            counted = w.count-is ∙ count_taken p first c.loop-at.at c.loop-at.count low c.loop-at.invariant.counted
                (here ∙ w.if-reads_alike.true);
            bound = omega arith;
          })
      | else-reads_alike w ↦ (
          let count = w.count-is in
          record {
            counted = w.count-is ∙ count_passed p first c.loop-at.at c.loop-at.count low c.loop-at.invariant.counted
                (here ∙ w.if-reads_alike.false);
            bound = omega arith;
          })
    ]

pub returns : goal.returns
returns g c =
    let same : c.config-pages.result.pages_per_block ≡ c.args.index.now.config.pages_per_block =
    ap (λ (x : Config). x.pages_per_block)
    c.config-pages.ensures.config in
    let first = c.args.block.0 * c.config-pages.result.pages_per_block in
    let count : c.loop-at.at - first ≡ c.config-pages.result.pages_per_block =
    omega (arith, c.loop-at-test.false, c.loop-at.auto.at-end) in
    c.loop-at.invariant.counted
    ∙ ap (λ k. count_by (λ slot. holds_record (note_at c.args.index.now.notes slot)) (range_with_len first k)) count
    ∙ ap (λ k. count_by (λ slot. holds_record (note_at c.args.index.now.notes slot))
    (range_with_len (c.args.block.0 * k) k)) same
