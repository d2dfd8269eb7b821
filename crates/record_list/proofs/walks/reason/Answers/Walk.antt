-- One turn of a walk, as a loop takes it.
use Rattle.record_list.proofs.Common.{◌≡◌, ℕ, zero, suc, ◌-◌, ◌<◌, ◌≤◌, List, false, refl, arith, le-ltb, if◌then◌else◌, Link, Protocol, Found, Cycle, Absent, newest, is_same, walk, why_below_newest, is_ahead, is_behind, link_of}
use Rattle.std.proofs.Common.{sub-one}

pub walk_turn : (protocol : Protocol) (list : List Found) (start : Link) (turns : ℕ) (link : Link) → 0 < turns →
    walk protocol list start turns link ≡
    (if is_ahead list link then Absent
    else if is_behind list link then why_below_newest protocol list link
    else if is_same link start then Cycle
    else walk protocol list start (turns - 1) (link_of list link))
walk_turn protocol list start zero link h = absurd (omega arith)
walk_turn protocol list start (suc n) link h = rw sub-one refl

-- a link to the newest version of its page, other than the start, is followed
pub walk_goes : (protocol : Protocol) (list : List Found) (start : Link) (turns : ℕ) (link : Link) → 0 < turns →
    link.version ≤ newest list link.page → newest list link.page ≤ link.version → is_same link start ≡ false →
    walk protocol list start turns link ≡ walk protocol list start (turns - 1) (link_of list link)
walk_goes protocol list start turns link some low high other =
    rw (
      walk_turn protocol list start turns link some,
      le-ltb (newest list link.page) link.version low,
      le-ltb link.version (newest list link.page) high,
      other,
    ) refl
