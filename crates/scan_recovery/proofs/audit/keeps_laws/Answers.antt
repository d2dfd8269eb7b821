-- Laws 6 and 7 do not speak of a record that is current.
use Rattle.scan_recovery.proofs.Common.{ℕ, List, ◌∙◌, arith, Protocol, Scc, Bpcc, Found, IsCurrent, LooseIsShown, LooseEnds}
use Rattle.scan_recovery.proofs.OfLaws.OwnCurrent.{own_current}
use Rattle.scan_recovery.proofs.audit.keeps_laws.Goals as goal

current_shown : (p : Protocol) (list : List Found) (logical : ℕ) (f : Found) → IsCurrent p list logical f.rec →
    LooseIsShown p list logical f
unfolding LooseIsShown
current_shown Scc list logical f own = tt
current_shown Bpcc list logical f own = λ loose. absurd (omega arith)

current_ends : (p : Protocol) (list : List Found) (logical : ℕ) (f : Found) → IsCurrent p list logical f.rec →
    LooseEnds p list logical f
unfolding LooseEnds
current_ends Scc list logical f own = tt
current_ends Bpcc list logical f own = λ loose. absurd (omega arith)

pub returns-then-found-current : goal.returns-then-found-current
returns-then-found-current c = λ counts.
    let s = c.args.standing.now in
    let own = c.if-found-current.true ∙ c.current.ensures in
    record {
      present = own_current s.protocol s.list s.logical c.args.found.now own;
      counted = c.has_counted_link.ensures counts;
      shown = current_shown s.protocol s.list s.logical c.args.found.now own;
      ends = current_ends s.protocol s.list s.logical c.args.found.now own;
    }
