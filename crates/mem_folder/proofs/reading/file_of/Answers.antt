use Rattle.mem_folder.proofs.Seeing.{named-more}
use Rattle.mem_folder.proofs.reading.file_of.Goals as goal

pub loop-change-preserved : goal.loop-change-preserved
loop-change-preserved c =
    rw (
      named-more c.args.changes.now c.loop-change.change-index c.change-item.result c.args.name.now
          c.loop-change-test.true,
      ← c.change-item.is,
    )
    (c.name_after-seen.ensures _ c.loop-change.invariant)
