use Rattle.std.proofs.Common.{◌≡◌, sym, ◌∙◌}
use Rattle.live_session.proofs.Closing.{closes}
use Rattle.live_session.proofs.Durably.{leaves_durably}
use Rattle.live_session.proofs.Faulting.{closing_fault}
use Rattle.live_session.proofs.Stopping.{heard_part}
use Rattle.live_session.proofs.Talking.{heard_and_closed}
use Rattle.live_session.proofs.session.serve_lines.Goals as goal

pub returns-clause-durable : goal.returns-clause-durable
returns-clause-durable g c = λ said.
    let it = c.close_flash-closed.ensures in
    leaves_durably (g.D.LineDesk.state c.answer_lines-answered.new.desk) (g.D.LineDesk.state c.close_flash-closed.new.desk)
    it.put it.left it.leaves (c.answer_lines-answered.ensures.durable said)

pub returns-clause-closed : goal.returns-clause-closed
returns-clause-closed g c =
    rw c.ending_of.ensures
    (closes c.close-flash.result (g.D.LineDesk.state c.answer_lines-answered.new.desk)
    (g.D.LineDesk.state c.close_flash-closed.new.desk) c.close_flash-closed.result.1 c.answer_lines-answered.result
    c.close_flash-closed.result.0 c.is_same.result c.answer_lines-answered.ensures.ended c.close_flash-closed.ensures)

pub returns-clause-session : goal.returns-clause-session
returns-clause-session g c =
    rw c.ending_of.ensures
    (heard_and_closed c.close-flash.result (g.D.LineDesk.state c.args.desk.now).told c.args.server.config
    c.close_flash-closed.result.1 c.args.server.session c.answer_lines-answered.new.server.session
    c.answer_lines-answered.result c.close_flash-closed.result.0 c.is_same.result
    (g.D.LineDesk.state c.answer_lines-answered.new.desk) (g.D.LineDesk.state c.close_flash-closed.new.desk)
    c.answer_lines-answered.ensures.hears c.close-flash.ensures.flash
    (λ same. c.is_same.ensures.0 same ∙ c.config-config.ensures.config) c.close_flash-closed.ensures)

pub returns-clause-stops : goal.returns-clause-stops
returns-clause-stops g c =
    rw c.ending_of.ensures
    (heard_part c.close-flash.result (g.D.LineDesk.state c.args.desk.now).told c.args.server.config
    c.close_flash-closed.result.1 c.args.server.session c.answer_lines-answered.new.server.session
    c.answer_lines-answered.result c.close_flash-closed.result.0 c.is_same.result
    (g.D.LineDesk.state c.answer_lines-answered.new.desk) (g.D.LineDesk.state c.close_flash-closed.new.desk)
    c.answer_lines-answered.ensures.hears c.answer_lines-answered.ensures.stops c.close-flash.ensures.flash
    c.close_flash-closed.ensures)

pub returns-clause-fault : goal.returns-clause-fault
returns-clause-fault g c =
    let before = g.D.LineDesk.state c.args.desk.now in
    let mid = g.D.LineDesk.state c.answer_lines-answered.new.desk in
    let now = g.D.LineDesk.state c.close_flash-closed.new.desk in
    rw c.ending_of.ensures
    (closing_fault c.close-flash.result c.args.server.config c.close_flash-closed.result.1 c.args.server.session
    c.answer_lines-answered.new.server.session before mid now c.answer_lines-answered.result
    c.close_flash-closed.result.0 c.is_same.result (now.faults ≡ before.faults) c.answer_lines-answered.ensures.fault
    c.close-flash.ensures.flash (λ same. c.is_same.ensures.1 (same ∙ sym c.config-config.ensures.config))
    c.close_flash-closed.ensures)
