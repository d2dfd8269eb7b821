use Rattle.std.proofs.Common.{◌≡◌}
use Rattle.record_list.specs.SoundList.{follow}
use Rattle.bpcc_commit.proofs.loose.leads_out.Given as goal

abbrev pub invariant-loop-link : goal.invariant-loop-link
invariant-loop-link l = l.name ≡ follow l.list l.fn.name l._link
