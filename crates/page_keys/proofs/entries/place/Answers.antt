use Rattle.page_keys.proofs.Common.{ap, sym, ◌∙◌, Pair}
use Rattle.page_keys.proofs.OfBucket.EntryLists.{found_here, gap_here, below_more, order_read}
use Rattle.page_keys.proofs.entries.place.Goals as goal

pub returns-in-Equal-clause-found : goal.returns-in-Equal-clause-found
returns-in-Equal-clause-found c =
    let e = c.index-entries-i.result in
    let its = ap (λ (x : Pair). x.0) c.index-entries-i.is in
    found_here c.args.entries.now c.args.key.now c.loop-i.i e c.loop-i-test.true
    c.index-entries-i.is c.loop-i.invariant
    (order_read c.as_slice.result.now e.0 c.args.key.now c.cmp.result _
    (c.as_slice.ensures.bytes ∙ sym its) c.cmp.ensures c.in-Equal.is)

pub returns-in-Greater-clause-gap : goal.returns-in-Greater-clause-gap
returns-in-Greater-clause-gap c =
    let e = c.index-entries-i.result in
    let its = ap (λ (x : Pair). x.0) c.index-entries-i.is in
    gap_here c.args.entries.now c.args.key.now c.loop-i.i e c.loop-i-test.true
    c.index-entries-i.is c.loop-i.invariant
    (order_read c.as_slice.result.now e.0 c.args.key.now c.cmp.result _
    (c.as_slice.ensures.bytes ∙ sym its) c.cmp.ensures c.in-Greater.is)

pub loop-i-preserved : goal.loop-i-preserved
loop-i-preserved c =
    let e = c.index-entries-i.result in
    let its = ap (λ (x : Pair). x.0) c.index-entries-i.is in
    below_more c.args.entries.now c.args.key.now c.loop-i.i e c.loop-i-test.true
    c.index-entries-i.is c.loop-i.invariant
    (order_read c.as_slice.result.now e.0 c.args.key.now c.cmp.result _
    (c.as_slice.ensures.bytes ∙ sym its) c.cmp.ensures c.in-Less.is)
