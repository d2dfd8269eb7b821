pub mod ScanSteps
use Rattle.scan_recovery.proofs.Common.{◌≡◌, ◌≤◌, ReadsAll}
use Rattle.std.proofs.Common.{vec_len, vec_capacity}
use Rattle.std.specs.Prelude.{MatchOption}
use Rattle.scan_recovery.proofs.scan.scan_slots.Invariants.ScanSteps.{IsScanTo, IsUnreadTo}
use Rattle.scan_recovery.proofs.scan.scan_slots.Given as goal

-- the slots so far were read, and either each keeps law 1 and is noted, or the first that breaks it is known
abbrev pub invariant-loop-at : goal.invariant-loop-at
invariant-loop-at g l = record {
  reads : ReadsAll (g.F.Flash.state l.fn.flash) (g.F.Flash.state l.flash) l.at;
  found : MatchOption l.unread
      (IsScanTo l.config.protocol l.config.logical (g.F.Flash.state l.fn.flash).image l.at l.seen.items l.list.items)
      (λ slot. IsUnreadTo l.config.protocol l.config.logical (g.F.Flash.state l.fn.flash).image l.at slot.0);
  seen_len : vec_len l.seen ≤ l.at;
  list_len : vec_len l.list ≤ l.at;
  seen_room : vec_capacity l.seen ≡ l.slots;
  list_room : vec_capacity l.list ≡ l.slots;
}
