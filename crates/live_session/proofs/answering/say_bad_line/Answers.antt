use Rattle.std.proofs.Common.{None, ◌≡◌}
use Rattle.desk_io.specs.Desk.{counted}
use Rattle.live_session.specs.declared.answering.Stop.TheVariants as stop
use Rattle.live_session.specs.Sessions.{stop_of_call}
use Rattle.live_session.proofs.Durably.{says_durably}
use Rattle.live_session.proofs.Faulting.{by_error, says_fault}
use Rattle.live_session.proofs.answering.say_bad_line.Goals as goal

pub returns-in_err-line-clause-fault : goal.returns-in_err-line-clause-fault
returns-in_err-line-clause-fault g c =
    let desk = g.D.LineDesk.state c.args.desk.now in
    by_error c.from_residual.result stop.Memory (desk.faults ≡ counted desk.faults) c.from_residual.ensures.1 tt

pub returns-in_err-say-clause-fault : goal.returns-in_err-say-clause-fault
returns-in_err-say-clause-fault g c =
    let before = g.D.LineDesk.state c.args.desk.now in
    let now = g.D.LineDesk.state c.say.new.self in
    by_error c.from_residual-in_err-say.result (stop_of_call c.in_err-say.field-0.0)
    (now.faults ≡ counted before.faults) c.from_residual-in_err-say.ensures.1
    (says_fault None before now _ c.in_err-say.field-0.0 c.in_err-say.ensures)

pub returns-in_err-say-clause-durable : goal.returns-in_err-say-clause-durable
returns-in_err-say-clause-durable g c = λ said.
    says_durably None (g.D.LineDesk.state c.args.desk.now) (g.D.LineDesk.state c.say.new.self) _ c.say.result tt
    c.say.ensures said

pub returns-clause-durable : goal.returns-clause-durable
returns-clause-durable g c = λ said.
    says_durably None (g.D.LineDesk.state c.args.desk.now) (g.D.LineDesk.state c.say.new.self) _ c.say.result tt
    c.say.ensures said
