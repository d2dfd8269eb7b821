use Rattle.scan_recovery.proofs.Common.{◌==◌, get_or, sym, ap, ◌∙◌, arith, inl, inr, cases_eq, blocks_of}
use Rattle.std.proofs.Common.{set}
use Rattle.std.proofs.lemmas.List.{length-set, get_or-set_same, get_or-set_other}
use Rattle.std.proofs.lemmas.List.FromFn.{fill_by_all}
use Rattle.die_alloc.specs.BlocksState.{no_block}
use Rattle.die_alloc.specs.Opening.{use_if, use_in}
use Rattle.scan_recovery.proofs.opening.block_uses.Goals as goal

pub loop-block-preserved : goal.loop-block-preserved
loop-block-preserved c =
    let block = c.loop-block.block in
    let uses = c.loop-block.uses.items in
    let kept = c.block_use.result in
    let its = c.block_use.ensures ∙ ap (use_if (block == c.args.spare.0)) c.slots_in-slots.ensures.slots in
    record {
      whole = length-set uses block kept ∙ c.loop-block.invariant.whole;
      done = λ k low. elim (cases_eq k block) [
        | inl e ↦ ap (λ n. get_or (set uses block kept) n no_block) e
            ∙ get_or-set_same uses block kept no_block (let n = c.loop-block.invariant.whole in omega arith)
            ∙ its ∙ ap (use_in c.args.shape c.args.seen.now c.args.spare.0) (sym e)
        | inr other ↦ get_or-set_other uses block k kept no_block other ∙ c.loop-block.invariant.done k (omega arith)
      ];
    }

pub returns : goal.returns
returns c =
    fill_by_all (use_in c.args.shape c.args.seen.now c.args.spare.0) c.loop-block.uses.items (blocks_of c.args.shape)
    no_block c.loop-block.invariant.whole (λ k low. c.loop-block.invariant.done k (omega arith))
