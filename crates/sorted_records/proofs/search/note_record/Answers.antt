-- The pages up to that of the record begin at it, if they are not noted yet.
use Rattle.sorted_records.proofs.Common.{arith}
use Rattle.sorted_records.proofs.OfSort.Starts.{none_more, some_more}
use Rattle.sorted_records.proofs.search.note_record.Goals as goal

pub returns-then-len-end-clause-starts : goal.returns-then-len-end-clause-starts
returns-then-len-end-clause-starts c =
    let more = c.if-len-end.true in
    rw c.fill_up.ensures.items (some_more c.args.records.now c.args.starts.now.items c.args.size c.args.at
    c.min-end.result c.requires.order c.requires.within c.requires.starts c.min-end.ensures (omega arith))

pub returns-else-len-end-clause-starts : goal.returns-else-len-end-clause-starts
returns-else-len-end-clause-starts c =
    let all = c.if-len-end.false in
    none_more c.args.records.now c.args.starts.now.items c.args.size c.args.at c.min-end.result c.requires.order
    c.requires.within c.requires.starts c.min-end.ensures (omega arith)
