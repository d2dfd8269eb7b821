mod UsedSlots
use Rattle.version_index.proofs.Common.{◌≡◌, ◌<◌, ◌+◌, ◌*◌, ap, subst, sym, ◌∙◌, arith, Shape, slots_of, blocks_of, TablesState, used_so, used_from}
use Rattle.flash_model.proofs.ImageLemmas.{block_within}
use Rattle.version_index.proofs.losing.use_block.Answers.UsedSlots.{used_none, used_next, used_shape}
use Rattle.version_index.proofs.losing.use_block.Goals as goal

pub use_slot-requires-clause-slot : goal.use_slot-requires-clause-slot
use_slot-requires-clause-slot c =
    let k = c.args.tables.now in
    let first = c.args.block.0 * c.shape-slots.result.pages_per_block in
    let shape : c.loop-i.tables.shape ≡ c.shape-slots.result =
    ap (λ (t : TablesState). t.shape) c.loop-i.invariant ∙ used_shape k first c.args.to c.loop-i.i
    ∙ sym c.shape-slots.ensures.shape in
    let exists = subst (λ s. c.args.block.0 < blocks_of s) (sym c.shape-slots.ensures.shape) c.requires.block in
    let bound = block_within c.shape-slots.result c.args.block.0 exists in
    subst (λ s. first + c.loop-i.i < slots_of s) (sym shape) (omega arith)

pub loop-i-init : goal.loop-i-init
loop-i-init c = sym (used_none c.args.tables.now (c.args.block.0 * c.shape-slots.result.pages_per_block) c.args.to)

pub loop-i-preserved : goal.loop-i-preserved
loop-i-preserved c =
    let first = c.args.block.0 * c.shape-slots.result.pages_per_block in
    c.use_slot.ensures ∙ ap (λ t. used_so t (first + c.loop-i.i) c.args.to) c.loop-i.invariant
    ∙ used_next c.args.tables.now first c.args.to c.loop-i.i

pub returns-clause-used : goal.returns-clause-used
returns-clause-used c =
    let whole : c.loop-i.i ≡ c.shape-slots.result.pages_per_block = omega arith in
    c.loop-i.invariant
    ∙ ap (used_from c.args.tables.now (c.args.block.0 * c.shape-slots.result.pages_per_block) c.args.to) whole
    ∙ ap (λ (s : Shape). used_from c.args.tables.now (c.args.block.0 * s.pages_per_block) c.args.to s.pages_per_block)
    c.shape-slots.ensures.shape
