use Rattle.page_keys.proofs.Common.{ap, sym, ◌∙◌, with_pair}
use Rattle.page_keys.proofs.OfBucket.EntryLists.{merged_more, ascending_with_pair}
use Rattle.page_keys.proofs.entries.merge.Goals as goal

pub loop-placed-preserved : goal.loop-placed-preserved
loop-placed-preserved c =
    let p = c.placed-item.result in
    let d = p.1.now in
    let made = c.in_ok-change.ensures in
    record {
      made = made ∙ ap (λ es. with_pair es d.key d.value) c.loop-placed.invariant.made
          ∙ sym (merged_more c.args.entries.now.items c.args.changes.now c.loop-placed.placed-index
          p c.loop-placed-test.true c.placed-item.is);
      ascend = rw made
          (ascending_with_pair c.loop-placed.entries.items d.key d.value
          c.loop-placed.invariant.ascend);
    }
