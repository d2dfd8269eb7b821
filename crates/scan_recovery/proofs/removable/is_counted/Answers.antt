use Rattle.scan_recovery.proofs.Common.{◌∙◌}
use Rattle.scan_recovery.proofs.OfSpare.RemovableBlocks.{counted_then, counted_else}
use Rattle.scan_recovery.proofs.removable.is_counted.Goals as goal

pub returns-then-rec-current : goal.returns-then-rec-current
returns-then-rec-current c =
    counted_then c.args.standing.now c.records.result.now c.args.at c.current.result
    (c.records.ensures.records ∙ c.sorted_records.ensures) c.current.ensures c.if-rec-current.true

pub returns-else-rec-current : goal.returns-else-rec-current
returns-else-rec-current c =
    counted_else c.args.standing.now c.records.result.now c.args.at c.current.result c.is_held.result
    (c.records.ensures.records ∙ c.sorted_records.ensures) c.current.ensures c.if-rec-current.false c.is_held.ensures
