-- No record waits.
use Rattle.slot_tables.proofs.Common.{refl}
use Rattle.slot_tables.proofs.OfWaitList.Waiters.{none_wait}
use Rattle.slot_tables.proofs.wait_list.WaitList.new.Goals as goal

pub invariant_of-result : goal.invariant_of-result
invariant_of-result c =
    none_wait _ c.args.pages c.args.count c.in_ok-new.ensures c.in_ok-new-2.ensures c.requires.count refl
