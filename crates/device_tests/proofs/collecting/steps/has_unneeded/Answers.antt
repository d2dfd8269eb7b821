use Rattle.std.proofs.Common.{◌+◌, ◌*◌, ap, ◌∙◌, sym, arith}
use Rattle.std.proofs.lemmas.Bool.{not-true}
use Rattle.list_lemmas.proofs.Ranges.{in_range}
use Rattle.tx_types.specs.Config.{shape_of}
use Rattle.tx_types.specs.declared.config.Config.{Config}
use Rattle.flash_model.proofs.ImageLemmas.{block_within}
use Rattle.collector.proofs.OfRoom.GoingCounts.{has_unneeded}
use Rattle.device_tests.proofs.collecting.steps.has_unneeded.Goals as goal

pub needed-requires : goal.needed-requires
needed-requires g c =
    let same = ap (λ (k : Config). c.args.block.0 * k.pages_per_block) c.config-pages.ensures.config in
    let per = ap (λ (k : Config). k.pages_per_block) c.config-pages.ensures.config in
    let end = block_within (shape_of c.args.index.now.config) c.args.block.0 c.requires in
    omega (arith, same, per, end, c.if-at-pages.true)

pub returns-then-at-pages : goal.returns-then-at-pages
returns-then-at-pages g c off =
    let first = c.args.block.0 * c.args.index.now.config.pages_per_block in
    let slot = c.args.block.0 * c.config-pages.result.pages_per_block + c.args.at in
    let same = ap (λ (k : Config). c.args.block.0 * k.pages_per_block) c.config-pages.ensures.config in
    let per = ap (λ (k : Config). k.pages_per_block) c.config-pages.ensures.config in
    has_unneeded c.args.index.now c.args.block.0 slot
    (in_range first c.args.index.now.config.pages_per_block slot (omega (arith, same))
    (omega (arith, same, per, c.if-at-pages.true)))
    (sym c.needed.ensures ∙ not-true c.needed.result off)
