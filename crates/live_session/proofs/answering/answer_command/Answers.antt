use Rattle.std.proofs.Common.{Ok, Err, Some, inl, ap, refl, ◌∙◌, ◌++◌}
use Rattle.host_protocol.specs.Replies.{text_of}
use Rattle.cut_replay.specs.Sessions.{flash_in}
use Rattle.live_session.specs.declared.answering.Stop.TheVariants as stop
use Rattle.live_session.specs.Faults.{FaultsCommand}
use Rattle.live_session.specs.Hearing.{StopsCommand}
use Rattle.live_session.specs.LineDesk.{LineDeskState}
use Rattle.live_session.specs.Sessions.{stop_of_call, stop_of_serving}
use Rattle.live_session.proofs.Durably.{says_durably}
use Rattle.live_session.proofs.Faulting.{by_error, flush_fault, say_fault, says_fault, serving_fault}
use Rattle.live_session.proofs.Flushed.{flushed_durably}
use Rattle.live_session.proofs.Stopping.{on_err, rests_served, rests_unserved, stops_command}
use Rattle.live_session.proofs.Talking.{answers_command}
use Rattle.live_session.proofs.answering.answer_command.Goals as goal

pub returns-in_err-answer-clause-durable : goal.returns-in_err-answer-clause-durable
returns-in_err-answer-clause-durable g c = λ said.
    let durable = flushed_durably (flash_in c.serve_next.new.self.session) (flash_in c.flush.new.self.session)
    c.flash-flash.result.now (Ok tt) c.in_ok-reply.ensures.flushes refl c.flash-flash.ensures
    c.has_failed.ensures.opens in
    says_durably (Some c.flash-flash.result.now) (g.D.LineDesk.state c.args.desk.now)
    (g.D.LineDesk.state c.answer.new.self) c.deref.result.now c.answer.result durable c.answer.ensures said

pub returns-clause-durable : goal.returns-clause-durable
returns-clause-durable g c = λ said.
    let durable = flushed_durably (flash_in c.serve_next.new.self.session) (flash_in c.flush.new.self.session)
    c.flash-flash.result.now (Ok tt) c.in_ok-reply.ensures.flushes refl c.flash-flash.ensures
    c.has_failed.ensures.opens in
    says_durably (Some c.flash-flash.result.now) (g.D.LineDesk.state c.args.desk.now)
    (g.D.LineDesk.state c.answer.new.self) c.deref.result.now c.answer.result durable c.answer.ensures said

pub returns-clause-answers : goal.returns-clause-answers
returns-clause-answers g c =
    answers_command c.args.server.now.config c.serve_next.new.self.config c.args.command.now
    c.args.server.now.session c.serve_next.new.self.session c.flush.new.self.session c.in_ok-unflushed.unflushed
    c.in_ok-reply.reply c.deref.result.now c.flash-flash.result.now (g.D.LineDesk.state c.args.desk.now)
    (g.D.LineDesk.state c.answer.new.self) c.serve_next.ensures.config c.in_ok-unflushed.ensures.served
    c.flush.ensures.stays.served c.flush.ensures.stays.shows c.in_ok-reply.ensures.opens c.flash-flash.ensures
    (c.deref.ensures.value ∙ (c.in_ok-reply_text.ensures.ok
    ∙ ap (λ l. l ++ text_of c.in_ok-reply.reply) c.clear.ensures.items))
    c.in_ok-answer.ensures

pub returns-in_err-answer-clause-stops : goal.returns-in_err-answer-clause-stops
returns-in_err-answer-clause-stops g c =
    on_err c.from_residual-in_err-answer.result
    (StopsCommand c.args.server.now.config c.args.command.now (g.D.LineDesk.state c.args.desk.now).told
    c.args.server.now.session (g.D.LineDesk.state c.answer.new.self).told c.flush.new.self.session)
    (stops_command c.args.server.now.config c.serve_next.new.self.config c.args.command.now
    c.args.server.now.session c.serve_next.new.self.session c.flush.new.self.session c.in_ok-unflushed.unflushed
    c.in_ok-reply.reply c.deref.result.now c.flash-flash.result.now (g.D.LineDesk.state c.args.desk.now)
    (g.D.LineDesk.state c.answer.new.self) c.in_err-answer.field-0.0 c.serve_next.ensures.config
    c.in_ok-unflushed.ensures.served c.flush.ensures.stays.served c.flush.ensures.stays.shows
    c.in_ok-reply.ensures.opens c.flash-flash.ensures
    (c.deref.ensures.value ∙ (c.in_ok-reply_text.ensures.ok
    ∙ ap (λ l. l ++ text_of c.in_ok-reply.reply) c.clear.ensures.items))
    c.in_err-answer.ensures)

pub returns-in_err-unflushed-clause-stops : goal.returns-in_err-unflushed-clause-stops
returns-in_err-unflushed-clause-stops g c =
    on_err c.from_residual.result
    (StopsCommand c.args.server.now.config c.args.command.now (g.D.LineDesk.state c.args.desk.now).told
    c.args.server.now.session (g.D.LineDesk.state c.args.desk.now).told c.serve_next.new.self.session)
    (inl (
      refl,
      rests_unserved c.args.server.now.config c.args.command.now c.args.server.now c.in_err-unflushed.ensures.first
          c.serve_next.new.self c.in_err-unflushed.ensures.flushed c.in_err-unflushed.field-0.0
          c.in_err-unflushed.ensures.stays c.in_err-unflushed.ensures.ends,
    ))

pub returns-in_err-reply-clause-stops : goal.returns-in_err-reply-clause-stops
returns-in_err-reply-clause-stops g c =
    on_err c.from_residual-in_err-reply.result
    (StopsCommand c.args.server.now.config c.args.command.now (g.D.LineDesk.state c.args.desk.now).told
    c.args.server.now.session (g.D.LineDesk.state c.args.desk.now).told c.flush.new.self.session)
    (inl (
      refl,
      rests_served c.args.server.now.config c.serve_next.new.self.config c.args.command.now
          c.args.server.now.session c.serve_next.new.self.session c.flush.new.self.session c.in_ok-unflushed.unflushed
          c.serve_next.ensures.config c.in_ok-unflushed.ensures.served c.flush.ensures.stays.served,
    ))

pub returns-in_err-reply_text-clause-stops : goal.returns-in_err-reply_text-clause-stops
returns-in_err-reply_text-clause-stops g c =
    on_err c.from_residual-in_err-reply_text.result
    (StopsCommand c.args.server.now.config c.args.command.now (g.D.LineDesk.state c.args.desk.now).told
    c.args.server.now.session (g.D.LineDesk.state c.args.desk.now).told c.flush.new.self.session)
    (inl (
      refl,
      rests_served c.args.server.now.config c.serve_next.new.self.config c.args.command.now
          c.args.server.now.session c.serve_next.new.self.session c.flush.new.self.session c.in_ok-unflushed.unflushed
          c.serve_next.ensures.config c.in_ok-unflushed.ensures.served c.flush.ensures.stays.served,
    ))

pub returns-clause-calm : goal.returns-clause-calm
returns-clause-calm g c = ap (λ (d : LineDeskState). d.faults) c.in_ok-answer.ensures

pub returns-in_err-unflushed-clause-fault : goal.returns-in_err-unflushed-clause-fault
returns-in_err-unflushed-clause-fault g c =
    let its = c.args.server.now.config in
    let desk = g.D.LineDesk.state c.args.desk.now in
    by_error c.from_residual.result (stop_of_serving c.in_err-unflushed.field-0.0)
    (FaultsCommand its desk desk c.args.server.now.session c.serve_next.new.self.session) c.from_residual.ensures.1
    (serving_fault its c.args.command.now desk desk c.args.server.now c.in_err-unflushed.ensures.first
    c.serve_next.new.self c.in_err-unflushed.ensures.flushed c.in_err-unflushed.field-0.0
    c.in_err-unflushed.ensures.stays c.in_err-unflushed.ensures.durable c.in_err-unflushed.ensures.ends)

pub returns-in_err-reply-clause-fault : goal.returns-in_err-reply-clause-fault
returns-in_err-reply-clause-fault g c =
    let its = c.args.server.now.config in
    let desk = g.D.LineDesk.state c.args.desk.now in
    by_error c.from_residual-in_err-reply.result stop.Fault
    (FaultsCommand its desk desk c.args.server.now.session c.flush.new.self.session)
    c.from_residual-in_err-reply.ensures.1
    (flush_fault its desk desk c.args.server.now.session c.serve_next.new.self.session c.flush.new.self.session
    (Err c.in_err-reply.field-0.0) c.in_err-reply.ensures.flushes refl)

pub returns-in_err-reply_text-clause-fault : goal.returns-in_err-reply_text-clause-fault
returns-in_err-reply_text-clause-fault g c =
    let desk = g.D.LineDesk.state c.args.desk.now in
    by_error c.from_residual-in_err-reply_text.result stop.Memory
    (FaultsCommand c.args.server.now.config desk desk c.args.server.now.session c.flush.new.self.session)
    c.from_residual-in_err-reply_text.ensures.1 tt

pub returns-in_err-answer-clause-fault : goal.returns-in_err-answer-clause-fault
returns-in_err-answer-clause-fault g c =
    let its = c.args.server.now.config in
    let before = g.D.LineDesk.state c.args.desk.now in
    let now = g.D.LineDesk.state c.answer.new.self in
    let error = c.in_err-answer.field-0.0 in
    by_error c.from_residual-in_err-answer.result (stop_of_call error)
    (FaultsCommand its before now c.args.server.now.session c.flush.new.self.session)
    c.from_residual-in_err-answer.ensures.1
    (say_fault its before before now c.args.server.now.session c.flush.new.self.session (stop_of_call error) refl
    (says_fault (Some c.flash-flash.result.now) before now c.deref.result.now error c.in_err-answer.ensures))
