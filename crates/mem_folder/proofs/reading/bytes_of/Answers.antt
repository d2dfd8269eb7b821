use Rattle.mem_folder.proofs.Seeing.{held-more}
use Rattle.mem_folder.proofs.reading.bytes_of.Goals as goal

pub loop-change-preserved : goal.loop-change-preserved
loop-change-preserved c =
    rw (
      held-more c.args.changes.now c.loop-change.change-index c.change-item.result c.args.file
          c.loop-change-test.true,
      ← c.change-item.is,
    )
    (c.bytes_after-seen.ensures _ c.loop-change.invariant)
