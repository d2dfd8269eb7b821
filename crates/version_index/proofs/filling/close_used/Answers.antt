-- One block after the other.
use Rattle.version_index.proofs.Common.{◌≡◌, ◌<◌, sym, ap, ◌∙◌, arith, slots_of, blocks_of, TablesState}
use Rattle.judged_records.specs.IndexState.{is_used_block}
use Rattle.version_index.proofs.OfOpening.ClosedBlocks.{closed_first, closed_next, closed_all}
use Rattle.version_index.proofs.filling.close_used.Goals as goal

pub loop-block-init : goal.loop-block-init
loop-block-init c = closed_first c.args.seen.now c.args.tables.now c.shape-shape.ensures.kept.closed c.requires.none_closed

pub close_if_used-requires-clause-shape : goal.close_if_used-requires-clause-shape
close_if_used-requires-clause-shape c =
    c.shape-shape.ensures.shape ∙ sym (ap (λ (k : TablesState). k.shape) c.loop-block.invariant.rest)

pub close_if_used-requires-clause-exists : goal.close_if_used-requires-clause-exists
close_if_used-requires-clause-exists c =
    let same = ap (λ (k : TablesState). blocks_of k.shape) c.loop-block.invariant.rest in
    omega (arith, same, ap blocks_of c.shape-shape.ensures.shape)

pub close_if_used-requires-clause-seen : goal.close_if_used-requires-clause-seen
close_if_used-requires-clause-seen c =
    c.requires.seen ∙ sym (ap (λ (k : TablesState). slots_of k.shape) c.loop-block.invariant.rest)

pub close_if_used-requires-clause-not_closed : goal.close_if_used-requires-clause-not_closed
close_if_used-requires-clause-not_closed c = c.loop-block.invariant.others c.loop-block.block (omega arith)

pub loop-block-preserved : goal.loop-block-preserved
loop-block-preserved c =
    let shape = c.shape-shape.ensures.shape in
    let low : c.loop-block.block < blocks_of c.args.tables.now.shape = omega (arith, ap blocks_of shape) in
    rw c.close_if_used.ensures
    (closed_next c.args.seen.now c.args.tables.now c.loop-block.tables c.loop-block.block _ c.loop-block.invariant low
    (ap (λ (k : TablesState). is_used_block k.shape c.args.seen.now c.loop-block.block) c.loop-block.invariant.rest))

pub returns : goal.returns
returns c =
    let shape = c.shape-shape.ensures.shape in
    let whole : c.loop-block.block ≡ blocks_of c.args.tables.now.shape = omega (arith, ap blocks_of shape) in
    closed_all c.args.seen.now c.args.tables.now c.loop-block.tables c.loop-block.block c.loop-block.invariant whole
