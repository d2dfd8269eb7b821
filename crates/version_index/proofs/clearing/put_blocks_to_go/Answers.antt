-- The newest record of the page comes to those that wait for the page.
mod GatheredMore
use Rattle.version_index.proofs.Common.{sym, ◌∙◌, subst, inl, inr, arith, same_Some, AreGathered, Goes}
use Rattle.slot_tables.specs.TablesState.{WaitsBelow}
use Rattle.version_index.proofs.clearing.put_blocks_to_go.Answers.GatheredMore.{room_more, gathered_more}
use Rattle.version_index.proofs.clearing.put_blocks_to_go.Goals as goal

pub put_blocks-requires-clause-room : goal.put_blocks-requires-clause-room
put_blocks-requires-clause-room c =
    let k = c.args.tables.now in
    let top = c.in-Some.ensures.some in
    let room = room_more k (WaitsBelow k c.args.page c.args.below) c.put_waiting.new.into.items
    c.put_waiting.ensures.gathered c.in-Some.number top.1 in
    omega (
      arith,
      room,
      c.put_waiting.ensures.len,
      c.put_waiting.ensures.room,
      c.requires.room,
      c.shape.ensures.kept.slots,
    )

pub returns-in-Some-clause-gathered : goal.returns-in-Some-clause-gathered
returns-in-Some-clause-gathered c =
    let k = c.args.tables.now in
    let x = c.in-Some.number in
    let top = c.in-Some.ensures.some in
    subst (AreGathered k (Goes k c.args.page c.args.below)) (sym c.put_blocks.ensures.put)
    (gathered_more k (WaitsBelow k c.args.page c.args.below) c.put_waiting.new.into.items
    c.put_waiting.ensures.gathered x top.1
    (Goes k c.args.page c.args.below) (λ y waits. inr waits) (inl top.0) (λ y goes. elim goes [
      | inl newest ↦ inr (same_Some x y (sym top.0.0 ∙ newest.0))
      | inr waits ↦ inl waits
    ]))
