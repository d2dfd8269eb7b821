use Rattle.std.proofs.lemmas.List.{take_all}
use Rattle.mem_folder.proofs.Common.{AllBelow}
use Rattle.mem_folder.proofs.Numbers.{below-more, below-fresh}
use Rattle.mem_folder.proofs.naming.next_number.Goals as goal

pub loop-change-preserved : goal.loop-change-preserved
loop-change-preserved c =
    let cs = c.args.changes.now in
    below-more cs c.loop-change.change-index c.change-item.result c.loop-change.next c.in_ok-next.next
    c.loop-change-test.true c.loop-change.invariant
    (rw (← c.change-item.is, ← c.number_of.ensures) c.in_ok-next.ensures)

pub returns : goal.returns
returns c =
    let cs = c.args.changes.now in
    let all : AllBelow cs c.loop-change.next = rw (take_all c.loop-change.change-index cs c.loop-change-test.false) at
    c.loop-change.invariant in
    below-fresh cs c.loop-change.next all
