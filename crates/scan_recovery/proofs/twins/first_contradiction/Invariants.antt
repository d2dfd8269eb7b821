use Rattle.scan_recovery.proofs.Common.{◌*◌, ℕ, ◌<◌, take, get_or, count_by, Found, ReadsAll, is_compared, AgreesWithLowest}
use Rattle.scan_recovery.proofs.twins.first_contradiction.Given as goal

-- each record so far agrees with the lowest of its name, and the slots that this takes were read
abbrev pub invariant-loop-at : goal.invariant-loop-at
invariant-loop-at g l = record {
  reads : ReadsAll (g.F.Flash.state l.fn.flash) (g.F.Flash.state l.flash)
      (2 * count_by (is_compared l.list) (take l.at l.list));
  agree : (k : ℕ) (d : Found) → k < l.at →
      AgreesWithLowest (g.F.Flash.state l.fn.flash).shape.page_bytes (g.F.Flash.state l.fn.flash).image l.list
      (get_or l.list k d);
}
