use Rattle.flash_picture.proofs.Common.{◌∙◌, ◌++◌, ap, arith, flat_map}
use Rattle.flash_picture.specs.OverviewSvg.{count_words}
use Rattle.flash_picture.proofs.Texts.{items_all, items_more, items_none}
use Rattle.flash_picture.proofs.map.Map.write_block_counts.Goals as goal

pub loop-kind-init : goal.loop-kind-init
loop-kind-init c =
    let m = c.args.self.now in
    items_none (count_words m.shape m.cells.now c.args.block.0) c.all_kinds-kinds.result.now c.args.text.now.items

pub loop-kind-preserved : goal.loop-kind-preserved
loop-kind-preserved c =
    let m = c.args.self.now in
    items_more (count_words m.shape m.cells.now c.args.block.0) c.all_kinds-kinds.result.now c.loop-kind.kind-index _
    c.args.text.now.items c.loop-kind.text.items _ c.loop-kind-test.true c.loop-kind.invariant
    c.in_ok-write_block_count.ensures

pub returns : goal.returns
returns c =
    let m = c.args.self.now in
    let old = c.args.text.now.items in
    items_all (count_words m.shape m.cells.now c.args.block.0) c.all_kinds-kinds.result.now c.loop-kind.kind-index
    old c.loop-kind.text.items
    c.loop-kind.invariant (omega arith)
    ∙ ap (λ kinds. old ++ flat_map (count_words m.shape m.cells.now c.args.block.0) kinds) c.all_kinds-kinds.ensures
