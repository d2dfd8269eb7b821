mod SpareAlike
mod BlankBlocks
use Rattle.scan_recovery.proofs.Common.{arith, blocks_of}
use Rattle.std.proofs.lemmas.Result.{IfOk-weaker}
use Rattle.scan_recovery.proofs.spare.chosen_spare.Answers.BlankBlocks.{chosen_blank, chosen_removable}
use Rattle.scan_recovery.proofs.spare.chosen_spare.Answers.SpareAlike.{are_copies, slots_exist, highest_alike}
use Rattle.scan_recovery.proofs.spare.chosen_spare.Goals as goal

pub highest_removable-requires-clause-copies : goal.highest_removable-requires-clause-copies
highest_removable-requires-clause-copies c = are_copies c.args.list.now c.args.standing.now.list c.requires.sorts
    c.requires.scanned c.requires.copies

pub highest_removable-requires-clause-exists : goal.highest_removable-requires-clause-exists
highest_removable-requires-clause-exists c =
    slots_exist c.args.list.now c.args.standing.now.list c.requires.sorts c.args.shape c.args.seen.now c.requires.seen
    c.requires.complete

pub returns-in-Some : goal.returns-in-Some
returns-in-Some c =
    let s = c.args.standing.now in
    let some = c.requires.shape.pages_least in
    chosen_blank s.protocol s.logical c.args.shape c.args.seen.now c.args.list.now c.in-Some.block.0 (omega arith)
    c.requires.complete c.in-Some.ensures

pub returns-in-None : goal.returns-in-None
returns-in-None c =
    let s = c.args.standing.now in
    let list = c.args.list.now in
    IfOk-weaker c.highest_removable.result _ _
    (λ found high. chosen_removable s.protocol s.logical c.args.shape c.args.seen.now list found c.in-None.ensures
    (highest_alike list s.list c.requires.sorts s.logical s.protocol c.args.shape (blocks_of c.args.shape) found high))
    c.highest_removable.ensures
