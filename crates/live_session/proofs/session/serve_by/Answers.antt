use Rattle.live_session.specs.Endings.{ending_of}
use Rattle.live_session.specs.Faults.{FaultsSession}
use Rattle.live_session.proofs.Closing.{unmounted_open}
use Rattle.live_session.proofs.Durably.{leaves_durably}
use Rattle.live_session.proofs.Faulting.{session_fault, unopened_fault}
use Rattle.live_session.proofs.Stopping.{is_stopped, unopened_said}
use Rattle.live_session.proofs.Talking.{is_session, where_unmounted}
use Rattle.live_session.specs.LineDesk.{BothTell}
use Rattle.live_session.specs.Talks.{IsSession}
use Rattle.live_session.proofs.session.serve_by.Goals as goal

pub returns-in-Err-clause-durable : goal.returns-in-Err-clause-durable
returns-in-Err-clause-durable g c = λ said.
    let it = c.close_flash-closed.ensures in
    leaves_durably (g.D.LineDesk.state c.args.desk.now) (g.D.LineDesk.state c.close_flash-closed.new.desk) it.put it.left
    it.leaves said

pub returns-in-Err-clause-closed : goal.returns-in-Err-clause-closed
returns-in-Err-clause-closed g c =
    rw c.not_mounted.ensures
    (unmounted_open c.in-Err.why c.close_flash-closed.result.0 (g.D.LineDesk.state c.close_flash-closed.new.desk))

pub returns-in-Err-clause-session : goal.returns-in-Err-clause-session
returns-in-Err-clause-session g c =
    rw c.not_mounted.ensures
    (where_unmounted (λ good. BothTell (IsSession c.args.flash good) (g.D.LineDesk.state c.args.desk.now).told
    (g.D.LineDesk.state c.close_flash-closed.new.desk).told) c.in-Err.why c.close_flash-closed.result.0)

pub returns-in-Ok-clause-session : goal.returns-in-Ok-clause-session
returns-in-Ok-clause-session g c =
    is_session (g.D.LineDesk.state c.args.desk.now).told (g.D.LineDesk.state c.serve_lines.new.desk).told c.args.flash
    c.config-config.result c.in-Ok.server (ending_of c.serve_lines.result) c.config-config.ensures.config
    c.in-Ok.ensures.opens c.serve_lines.ensures.session

pub returns-in-Ok-clause-stops : goal.returns-in-Ok-clause-stops
returns-in-Ok-clause-stops g c =
    is_stopped (g.D.LineDesk.state c.args.desk.now).told (g.D.LineDesk.state c.serve_lines.new.desk).told c.args.flash
    c.config-config.result c.in-Ok.server (ending_of c.serve_lines.result) c.config-config.ensures.config
    c.in-Ok.ensures.opens c.serve_lines.ensures.stops

pub returns-in-Err-clause-stops : goal.returns-in-Err-clause-stops
returns-in-Err-clause-stops g c =
    rw c.not_mounted.ensures
    (unopened_said c.config-config.result c.args.flash c.in-Err.flash (g.D.LineDesk.state c.args.desk.now)
    c.config-config.ensures.config c.in-Err.why c.close_flash-closed.result.0 c.close_flash-closed.result.1
    (g.D.LineDesk.state c.close_flash-closed.new.desk) c.in-Err.ensures.failed c.close_flash-closed.ensures)

pub returns-in-Ok-clause-fault : goal.returns-in-Ok-clause-fault
returns-in-Ok-clause-fault g c =
    session_fault (g.D.LineDesk.state c.args.desk.now) (g.D.LineDesk.state c.serve_lines.new.desk) c.args.flash
    c.config-config.result c.in-Ok.server (ending_of c.serve_lines.result) c.config-config.ensures.config
    c.in-Ok.ensures.opens c.serve_lines.ensures.stops c.serve_lines.ensures.fault

pub returns-in-Err-clause-fault : goal.returns-in-Err-clause-fault
returns-in-Err-clause-fault g c =
    let before = g.D.LineDesk.state c.args.desk.now in
    let now = g.D.LineDesk.state c.close_flash-closed.new.desk in
    rw c.not_mounted.ensures
    (unopened_fault (FaultsSession c.args.flash before now) c.in-Err.why c.close_flash-closed.result.0 before now
    c.close_flash-closed.ensures.faults)
