use Rattle.std.proofs.Common.{◌≡◌, ap, subst, ◌∙◌}
use Rattle.live_session.specs.Faults.{FaultsCommand}
use Rattle.live_session.specs.Hearing.{StopsPiece, StopsSaying}
use Rattle.live_session.specs.LineDesk.{LineDeskState}
use Rattle.live_session.specs.Talks.{bad_line, plain}
use Rattle.live_session.proofs.Faulting.{by_error, say_fault}
use Rattle.live_session.proofs.Stopping.{answered_bad, not_line, on_err, stops_bad}
use Rattle.live_session.proofs.answering.answer_piece.Goals as goal
use Rattle.live_session.proofs.answering.answer_piece.Goals.{else-eq-via-then-eq+in_ok-answer_line+else-branch, else-eq-via-else-eq}

pub returns-in_err-say_bad_line-clause-stops : goal.returns-in_err-say_bad_line-clause-stops
returns-in_err-say_bad_line-clause-stops g c =
    on_err c.from_residual-in_err-say_bad_line.result
    (StopsPiece c.args.server.now.config c.args.next c.args.line.now c.args.number
    (g.D.LineDesk.state c.args.desk.now).told c.args.server.now.session
    (g.D.LineDesk.state c.say_bad_line.new.desk).told c.else-eq.server.session)
    (elim c.else-eq.branch [
      | else-eq-via-then-eq+in_ok-answer_line+else-branch w ↦
          let bad = answered_bad c.args.server.now.config c.args.line.now _ (g.D.LineDesk.state c.args.desk.now).told
          c.args.server.now.session (g.D.LineDesk.state w.answer_line.new.desk).told w.answer_line.new.server.session
          w.if-branch.false w.in_ok-answer_line.ensures.answers in
          stops_bad c.args.server.now.config c.args.next c.args.line.now c.args.number
          (g.D.LineDesk.state c.args.desk.now).told (g.D.LineDesk.state c.say_bad_line.new.desk).told
          c.args.server.now.session c.else-eq.server.session (λ is. bad.0)
          (ap (λ s. s.session) w.server-is ∙ bad.2)
          (subst
          (λ x. StopsSaying (plain (bad_line c.args.number)) x (g.D.LineDesk.state c.say_bad_line.new.desk).told)
          (ap (λ d. (g.D.LineDesk.state d).told) w.desk-is ∙ bad.1) c.in_err-say_bad_line.ensures.stops)
      | else-eq-via-else-eq w ↦
          stops_bad c.args.server.now.config c.args.next c.args.line.now c.args.number
          (g.D.LineDesk.state c.args.desk.now).told (g.D.LineDesk.state c.say_bad_line.new.desk).told
          c.args.server.now.session c.else-eq.server.session (λ is. absurd (not_line c.args.next w.if-eq.ensures is))
          (ap (λ s. s.session) w.server-is)
          (subst
          (λ x. StopsSaying (plain (bad_line c.args.number)) x (g.D.LineDesk.state c.say_bad_line.new.desk).told)
          (ap (λ d. (g.D.LineDesk.state d).told) w.desk-is) c.in_err-say_bad_line.ensures.stops)
    ])

pub returns-in_err-answer_line-clause-fault : goal.returns-in_err-answer_line-clause-fault
returns-in_err-answer_line-clause-fault g c =
    by_error c.from_residual.result c.in_err-answer_line.field-0.0
    (FaultsCommand c.args.server.now.config (g.D.LineDesk.state c.args.desk.now)
    (g.D.LineDesk.state c.answer_line.new.desk) c.args.server.now.session c.answer_line.new.server.session)
    c.from_residual.ensures.1 c.in_err-answer_line.ensures.fault

pub returns-in_err-say_bad_line-clause-fault : goal.returns-in_err-say_bad_line-clause-fault
returns-in_err-say_bad_line-clause-fault g c =
    let its = c.args.server.now.config in
    let before = g.D.LineDesk.state c.args.desk.now in
    let mid = g.D.LineDesk.state c.else-eq.desk in
    let now = g.D.LineDesk.state c.say_bad_line.new.desk in
    let same : mid.faults ≡ before.faults = elim c.else-eq.branch [
      | else-eq-via-then-eq+in_ok-answer_line+else-branch w ↦
          ap (λ d. (g.D.LineDesk.state d).faults) w.desk-is ∙ w.in_ok-answer_line.ensures.calm
      | else-eq-via-else-eq w ↦ ap (λ d. (g.D.LineDesk.state d).faults) w.desk-is
    ]
    in
    by_error c.from_residual-in_err-say_bad_line.result c.in_err-say_bad_line.field-0.0
    (FaultsCommand its before now c.args.server.now.session c.else-eq.server.session)
    c.from_residual-in_err-say_bad_line.ensures.1
    (say_fault its before mid now c.args.server.now.session c.else-eq.server.session c.in_err-say_bad_line.field-0.0
    same c.in_err-say_bad_line.ensures.fault)

pub returns-clause-calm : goal.returns-clause-calm
returns-clause-calm g c =
    let before = g.D.LineDesk.state c.args.desk.now in
    let mid = g.D.LineDesk.state c.else-eq.desk in
    let same : mid.faults ≡ before.faults = elim c.else-eq.branch [
      | else-eq-via-then-eq+in_ok-answer_line+else-branch w ↦
          ap (λ d. (g.D.LineDesk.state d).faults) w.desk-is ∙ w.in_ok-answer_line.ensures.calm
      | else-eq-via-else-eq w ↦ ap (λ d. (g.D.LineDesk.state d).faults) w.desk-is
    ]
    in
    ap (λ (d : LineDeskState). d.faults) c.in_ok-say_bad_line.ensures.says ∙ same
