mod Marks
use Rattle.scan_recovery.proofs.Common.{◌≡◌, ◌<◌, List, get_or, length, sym, ap, ◌∙◌, subst, arith, Contains-get_or, blocks_of, Found, nothing}
use Rattle.std.proofs.Common.{◌/◌}
use Rattle.scan_recovery.specs.Removable.{is_fixed}
use Rattle.scan_recovery.proofs.removable.fixed_blocks.Answers.Marks.{marked_same, marked_more}
use Rattle.scan_recovery.proofs.OfSpare.RemovableBlocks.{block_exists, fixed_only, fixed_none}
use Rattle.scan_recovery.proofs.removable.fixed_blocks.Goals as goal
use Rattle.scan_recovery.proofs.removable.fixed_blocks.Goals.{then-is_fixed, else-is_fixed}

pub mark-requires : goal.mark-requires
mark-requires c =
    let list = c.args.standing.now.list in
    let shape = c.args.shape in
    let e : c.records-records.result.now ≡ list = c.records-records.ensures.records ∙ c.sorted_records.ensures in
    let within : c.loop-at.at < length list = subst (λ (l : List Found). c.loop-at.at < length l) e
    c.loop-at-test.true in
    let some = c.requires.shape.pages_least in
    let low = block_exists shape (get_or list c.loop-at.at nothing).slot.0 c.requires.shape (omega arith)
    (c.requires.exists c.loop-at.at nothing within) in
    let place = c.block_of-block.ensures ∙ ap (λ (l : List Found). (get_or l c.loop-at.at nothing).slot.0
    / shape.pages_per_block) e in
    let size = c.loop-at.invariant.size in
    omega arith

pub loop-at-preserved : goal.loop-at-preserved
loop-at-preserved c =
    let s = c.args.standing.now in
    let shape = c.args.shape in
    let e : c.records-records.result.now ≡ s.list = c.records-records.ensures.records ∙ c.sorted_records.ensures in
    let within : c.loop-at.at < length s.list = subst (λ (l : List Found). c.loop-at.at < length l) e
    c.loop-at-test.true in
    let f = get_or s.list c.loop-at.at nothing in
    let here = Contains-get_or s.list c.loop-at.at nothing within in
    let place = c.block_of-block.ensures ∙ ap (λ (l : List Found). (get_or l c.loop-at.at nothing).slot.0
    / shape.pages_per_block) e in
    elim c.if-is_fixed.branch [
      | then-is_fixed w ↦ rw (w.fixed-is, w.mark.ensures)
          (marked_more (blocks_of shape) (is_fixed s shape) s.list c.loop-at.fixed.items c.loop-at.at within
          c.loop-at.invariant c.block_of-block.result.0
          (λ n low. fixed_only s shape f c.block_of-block.result.0 n here place (sym c.is_fixed.ensures
          ∙ w.if-is_fixed.true)))
      | else-is_fixed w ↦ rw w.fixed-is
          (marked_same (blocks_of shape) (is_fixed s shape) s.list c.loop-at.fixed.items c.loop-at.at within
          c.loop-at.invariant
          (λ n low. fixed_none s shape f c.block_of-block.result.0 n here place (sym c.is_fixed.ensures
          ∙ w.if-is_fixed.false)))
    ]
