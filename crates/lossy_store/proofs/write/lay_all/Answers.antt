use Rattle.lossy_store.proofs.Common.{◌<◌, length, get_or, ap, ◌∙◌, arith, byte_over}
use Rattle.lossy_store.proofs.Places.{byte_from-more}
use Rattle.lossy_store.proofs.write.lay_all.Goals as goal

pub loop-write-preserved : goal.loop-write-preserved
loop-write-preserved c k within =
    let write = c.write-item.result in
    let low : k < length c.loop-write.bytes = omega arith in
    rw (
      byte_from-more c.args.writes.now c.loop-write.write-index write k (get_or c.args.bytes.now k 0)
          c.loop-write-test.true,
      ← c.write-item.is,
    )
    (c.lay.ensures k low ∙ ap (byte_over write k) (c.loop-write.invariant k within))
