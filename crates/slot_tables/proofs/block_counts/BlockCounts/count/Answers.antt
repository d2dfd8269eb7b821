use Rattle.slot_tables.proofs.Common.{arith, get_or_read}
use Rattle.slot_tables.proofs.OfLiveSlots.Tallying.{marked_most, group_lies}
use Rattle.slot_tables.proofs.block_counts.BlockCounts.count.Goals as goal

pub returns-clause-most : goal.returns-clause-most
returns-clause-most c =
    let t = c.self.inside in
    let lies = group_lies t c.args.group c.self.invariant (rw (← c.self.view_is) at c.requires) in
    let read = get_or_read t.counts.items c.args.group c.index.result.now lies c.index.ensures 0 in
    let most = marked_most t.marks.items t.size c.args.group in
    rw (← c.self.view_is) (omega (arith, read, most, c.self.invariant.counts c.args.group lies))
