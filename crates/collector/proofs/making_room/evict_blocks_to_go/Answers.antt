use Rattle.collector.proofs.Common.{◌≡◌, get_or, Option, Some, None, true, false, not, refl, sym, ap, ◌∙◌, arith, option_map, Block, Config}
use Rattle.std.proofs.Common.{is_some}
use Rattle.collector.specs.Calls.{EvictsBlocksToGo}
use Rattle.collector.proofs.making_room.evict_blocks_to_go.Invariants.ClearRounds.{clears_none, clears_all, block_unneeded, round_broke, round_still, round_done}
use Rattle.collector.proofs.making_room.evict_blocks_to_go.Invariants.GoingOrder.{numbers, all_ahead, next_exists, next_found, next_passed, next_evicted, none_next}
use Rattle.collector.proofs.OfNotes.KeepsLemmas.{by_err, sure_then}
use Rattle.collector.proofs.making_room.evict_blocks_to_go.Goals.{then-is_going+in_ok-evict_block, else-is_going}
use Rattle.collector.proofs.making_room.evict_blocks_to_go.Goals as goal

some_mapped : (o : Option Block) → is_some o ≡ true → option_map (λ (b : Block). b.0) o ≡ None → ⊥
some_mapped None e none = cc
some_mapped (Some block) e none = cc

none_mapped : (o : Option Block) → is_some o ≡ false → option_map (λ (b : Block). b.0) o ≡ None
none_mapped None e = refl
none_mapped (Some block) e = cc

pub returns-then-is_none-clause-clears : goal.returns-then-is_none-clause-clears
returns-then-is_none-clause-clears g c =
    clears_all g.R.CommitRule.protocol c.args.page c.args.below
    _ _ (clears_none g.R.CommitRule.protocol c.args.page c.args.below _ c.requires.sure c.requires.next)
    (sym c.must_go.ensures ∙ none_mapped c.must_go.result (c.is_none.ensures ∙ ap not c.if-is_none.true))

pub blocks_to_go-requires-clause-room : goal.blocks_to_go-requires-clause-room
blocks_to_go-requires-clause-room g c =
    omega (arith, c.args.going.now.enough, c.requires.sure.matches.noted.bounds.shape.slots_most)

pub loop-block-init : goal.loop-block-init
loop-block-init g c = record {
  so_far = clears_none g.R.CommitRule.protocol c.args.page c.args.below _ c.requires.sure c.requires.next;
  ahead = all_ahead c.args.index.now c.args.page c.args.below c.requires.sure.matches.noted
      (numbers c.deref-block-items.result.now)
      (ap numbers c.deref-block-items.ensures.value ∙ c.blocks_to_go.ensures.blocks);
}

pub is_going-requires-clause-block : goal.is_going-requires-clause-block
is_going-requires-clause-block g c =
    next_exists c.loop-block.index c.args.page c.args.below c.deref-block-items.result.now c.loop-block.block-index
    c.loop-block.invariant.ahead
    _ c.loop-block-test.true refl

pub evict_block-requires-clause-sure : goal.evict_block-requires-clause-sure
evict_block-requires-clause-sure g c = sure_then g.R.CommitRule.protocol _ _ c.requires.sure
    c.loop-block.invariant.so_far.keeps

pub evict_block-requires-clause-exists : goal.evict_block-requires-clause-exists
evict_block-requires-clause-exists g c =
    next_exists c.loop-block.index c.args.page c.args.below c.deref-block-items.result.now c.loop-block.block-index
    c.loop-block.invariant.ahead
    _ c.loop-block-test.true refl

pub evict_block-requires-clause-unneeded : goal.evict_block-requires-clause-unneeded
evict_block-requires-clause-unneeded g c =
    λ apart. block_unneeded _ _ _ _ _ c.loop-block.invariant.so_far _
    (next_found c.loop-block.index c.args.page c.args.below c.deref-block-items.result.now c.loop-block.block-index
    c.loop-block.invariant.ahead
    _ c.loop-block-test.true refl
    c.loop-block.invariant.so_far.keeps.matches.noted (sym c.is_going.ensures ∙ c.if-is_going.true))

pub evict_block-requires-clause-room : goal.evict_block-requires-clause-room
evict_block-requires-clause-room g c =
    c.loop-block.auto.room ∙ c.requires.room ∙ ap (λ (k : Config). k.page_bytes)
    (sym c.loop-block.invariant.so_far.keeps.preserves.config)

pub loop-block-preserved : goal.loop-block-preserved
loop-block-preserved g c =
    let l = c.loop-block in
    let so = l.invariant.so_far in
    let items = c.deref-block-items.result.now in
    elim c.if-is_going.branch [
      | then-is_going+in_ok-evict_block w ↦ (
          let going = sym c.is_going.ensures ∙ w.if-is_going.true in
          let block = get_or items l.block-index (record { 0 = 0 }) in
          let found = next_found l.index c.args.page c.args.below items l.block-index l.invariant.ahead block
          c.loop-block-test.true refl so.keeps.matches.noted
          going in
          let e = w.in_ok-evict_block.ensures in
          rw (w.flash-is, w.index-is, w.blocks-is, w.unsure-is) (record {
            so_far = round_done _ _ _ _ _ so block.0 found g.met.R.CommitRule.block_loss c.requires.sure _ _ e;
            ahead = next_evicted l.index c.args.page c.args.below items l.block-index l.invariant.ahead block
                c.loop-block-test.true refl w.evict_block.new.index
                e.keeps.preserves.config
                (round_still _ _ _ _ _ so block.0 found g.met.R.CommitRule.block_loss c.requires.sure _ _ e);
          }))
      | else-is_going w ↦ rw (w.flash-is, w.index-is, w.blocks-is, w.unsure-is) (record {
        so_far = so;
        ahead = next_passed l.index c.args.page c.args.below items l.block-index l.invariant.ahead
            (get_or items l.block-index (record { 0 = 0 }))
            c.loop-block-test.true refl
            (sym c.is_going.ensures ∙ w.if-is_going.false);
      })
    ]

pub returns-in_err-evict_block-clause-clears : goal.returns-in_err-evict_block-clause-clears
returns-in_err-evict_block-clause-clears g c =
    by_err c.from_residual.result (EvictsBlocksToGo g.R.CommitRule.protocol _ _ c.args.page c.args.below)
    c.from_residual.ensures.0 (λ y.
    round_broke _ _ _ _ _ c.loop-block.invariant.so_far _
    (next_found c.loop-block.index c.args.page c.args.below c.deref-block-items.result.now c.loop-block.block-index
    c.loop-block.invariant.ahead
    _ c.loop-block-test.true refl
    c.loop-block.invariant.so_far.keeps.matches.noted (sym c.is_going.ensures ∙ c.if-is_going.true)) _ _ y
    c.in_err-evict_block.ensures)

pub returns-clause-clears : goal.returns-clause-clears
returns-clause-clears g c =
    clears_all _ _ _ _ _ c.loop-block.invariant.so_far
    (none_next c.loop-block.index c.args.page c.args.below c.deref-block-items.result.now c.loop-block.block-index
    c.loop-block.invariant.ahead
    c.loop-block-test.false)

pub returns-clause-idle : goal.returns-clause-idle
returns-clause-idle g c = λ nothing. absurd (some_mapped c.must_go.result (c.is_none.ensures
    ∙ ap not c.if-is_none.false) (c.must_go.ensures ∙ nothing))
