use Rattle.std.proofs.Common.{◌≡◌}
use Rattle.live_session.specs.Hearing.{Hears}
use Rattle.live_session.specs.LineDesk.{BothTell}
use Rattle.live_session.specs.Saying.{SaidDurably}
use Rattle.live_session.proofs.answering.answer_lines.Given as goal

-- What was said is durable still, and each line that was read was answered, up to the one of this number; and no call
-- of the desk has failed.
abbrev pub invariant-loop-number : goal.invariant-loop-number
invariant-loop-number g l =
    (SaidDurably (g.D.LineDesk.state l.initial.desk) → SaidDurably (g.D.LineDesk.state l.desk))
    × (l.server.config ≡ l.initial.server.config)
    × BothTell (Hears l.initial.server.config l.are_good l.initial.server.session l.server.session l.number)
    (g.D.LineDesk.state l.initial.desk).told (g.D.LineDesk.state l.desk).told
    × ((g.D.LineDesk.state l.desk).faults ≡ (g.D.LineDesk.state l.initial.desk).faults)
