use Rattle.scan_recovery.proofs.OfSpare.RemovableBlocks.{highest_is}
use Rattle.scan_recovery.proofs.removable.highest_removable.Goals as goal

pub returns : goal.returns
returns c =
    highest_is c.args.standing.now c.args.shape c.in_ok-fixed.fixed.items c.in_ok-fixed.ensures
    c.highest_unmarked.result
    (rw c.deref.ensures.value at c.highest_unmarked.ensures)
