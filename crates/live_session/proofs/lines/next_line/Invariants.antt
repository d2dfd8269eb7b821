use Rattle.live_session.proofs.Reading.{IsUnended}
use Rattle.live_session.proofs.lines.next_line.Given as goal

abbrev pub invariant-loop : goal.invariant-loop
invariant-loop g l = IsUnended (g.B.Read.remaining l.initial.input) (g.B.Read.remaining l.input) l.line.items
