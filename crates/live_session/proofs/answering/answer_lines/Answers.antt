use Rattle.std.proofs.Common.{None, Ok, ap, inl, inr, refl, subst, sym, ◌∙◌, ◌≡◌, ◌&&◌, ◌+◌}
use Rattle.live_session.specs.Faults.{FaultsLines}
use Rattle.live_session.specs.Hearing.{AnswersPiece, Hears, StopsPiece}
use Rattle.live_session.specs.LineDesk.{BothTell, LineDeskState, ReadsLine}
use Rattle.live_session.specs.Sessions.{stop_of_call}
use Rattle.live_session.proofs.Durably.{reads_durably, says_durably}
use Rattle.live_session.proofs.Faulting.{by_error, lines_fault, piece_fault, reads_fault, says_fault}
use Rattle.live_session.proofs.Stopping.{on_err, part_begins, part_here, part_piece, part_unread, says_stops}
use Rattle.live_session.proofs.Talking.{and_false, and_true, heard_all, heard_piece, hears_none, is_end, not_end}
use Rattle.live_session.proofs.answering.answer_lines.Goals as goal
use Rattle.live_session.proofs.answering.answer_lines.Goals.{then-is_good, else-is_good}

pub returns-in_err-next-clause-durable : goal.returns-in_err-next-clause-durable
returns-in_err-next-clause-durable g c = λ said.
    reads_durably (g.D.LineDesk.state c.loop-number.desk) (g.D.LineDesk.state c.next_line.new.self)
    c.next_line.new.line.items c.next_line.result c.next_line.ensures.reads
    (c.loop-number.invariant.0
    (says_durably None (g.D.LineDesk.state c.args.desk.now) (g.D.LineDesk.state c.say.new.self) _ c.say.result tt
    c.say.ensures said))

pub returns-then-eq-clause-durable : goal.returns-then-eq-clause-durable
returns-then-eq-clause-durable g c = λ said.
    reads_durably (g.D.LineDesk.state c.loop-number.desk) (g.D.LineDesk.state c.next_line.new.self)
    c.next_line.new.line.items c.next_line.result c.next_line.ensures.reads
    (c.loop-number.invariant.0
    (says_durably None (g.D.LineDesk.state c.args.desk.now) (g.D.LineDesk.state c.say.new.self) _ c.say.result tt
    c.say.ensures said))

pub returns-in_err-is_good-clause-durable : goal.returns-in_err-is_good-clause-durable
returns-in_err-is_good-clause-durable g c = λ said.
    c.answer_piece.ensures.durable
    (reads_durably (g.D.LineDesk.state c.loop-number.desk) (g.D.LineDesk.state c.next_line.new.self)
    c.next_line.new.line.items c.next_line.result c.next_line.ensures.reads
    (c.loop-number.invariant.0
    (says_durably None (g.D.LineDesk.state c.args.desk.now) (g.D.LineDesk.state c.say.new.self) _ c.say.result tt
    c.say.ensures said)))

pub returns-clause-durable : goal.returns-clause-durable
returns-clause-durable g c = λ said.
    c.loop-number.invariant.0
    (says_durably None (g.D.LineDesk.state c.args.desk.now) (g.D.LineDesk.state c.say.new.self) _ c.say.result tt
    c.say.ensures said)

pub loop-number-init : goal.loop-number-init
loop-number-init g c = (
  λ said. said,
  refl,
  hears_none (g.D.LineDesk.state c.say.new.self).told c.args.server.now.config c.args.server.now.session,
  refl,
)

pub loop-number-preserved : goal.loop-number-preserved
loop-number-preserved g c =
    let its = c.args.server.now.config in
    let first = (g.D.LineDesk.state c.say.new.self).told in
    let told = (g.D.LineDesk.state c.answer_piece.new.desk).told in
    let answers : AnswersPiece its c.in_ok-next.next c.next_line.new.line.items c.loop-number.number
    c.in_ok-is_good.is_good (g.D.LineDesk.state c.next_line.new.self).told c.loop-number.server.session told
    c.answer_piece.new.server.session =
    subst
    (λ x. AnswersPiece x c.in_ok-next.next c.next_line.new.line.items c.loop-number.number c.in_ok-is_good.is_good
    (g.D.LineDesk.state c.next_line.new.self).told c.loop-number.server.session told
    c.answer_piece.new.server.session)
    c.loop-number.invariant.1
    (subst
    (λ x. AnswersPiece c.loop-number.server.config c.in_ok-next.next x c.loop-number.number c.in_ok-is_good.is_good
    (g.D.LineDesk.state c.next_line.new.self).told c.loop-number.server.session told
    c.answer_piece.new.server.session)
    c.deref.ensures.value c.in_ok-is_good.ensures.answers) in
    let heard = heard_piece first (g.D.LineDesk.state c.loop-number.desk) (g.D.LineDesk.state c.next_line.new.self) told
    its c.loop-number.are_good c.in_ok-is_good.is_good c.args.server.now.session c.loop-number.server.session
    c.answer_piece.new.server.session c.loop-number.number c.in_ok-next.next c.next_line.new.line.items
    c.loop-number.invariant.2 c.in_ok-next.ensures.reads (not_end c.in_ok-next.next c.if-eq.ensures) answers in
    let good : c.if-is_good.are_good ≡ (c.in_ok-is_good.is_good && c.loop-number.are_good) = elim c.if-is_good.branch [
      | then-is_good w ↦
          and_true c.in_ok-is_good.is_good c.loop-number.are_good c.if-is_good.are_good w.if-is_good.true w.are_good-is
      | else-is_good w ↦
          and_false c.in_ok-is_good.is_good c.loop-number.are_good c.if-is_good.are_good w.if-is_good.false
          w.are_good-is
    ]
    in (
      λ said. c.answer_piece.ensures.durable
          (reads_durably (g.D.LineDesk.state c.loop-number.desk) (g.D.LineDesk.state c.next_line.new.self)
          c.next_line.new.line.items c.next_line.result c.next_line.ensures.reads (c.loop-number.invariant.0 said)),
      c.in_ok-is_good.ensures.config ∙ c.loop-number.invariant.1,
      subst
          (λ x. BothTell (Hears its x c.args.server.now.session c.answer_piece.new.server.session
          (c.loop-number.number + 1)) first told)
          (sym good) heard,
      c.in_ok-is_good.ensures.calm
          ∙ (ap (λ (d : LineDeskState). d.faults) c.in_ok-next.ensures.reads.1 ∙ c.loop-number.invariant.3),
    )

pub returns-then-eq-clause-hears : goal.returns-then-eq-clause-hears
returns-then-eq-clause-hears g c =
    heard_all (g.D.LineDesk.state c.args.desk.now).told (g.D.LineDesk.state c.say.new.self)
    (g.D.LineDesk.state c.loop-number.desk) (g.D.LineDesk.state c.next_line.new.self) c.args.server.now.config
    c.loop-number.are_good c.args.server.now.session c.loop-number.server.session c.loop-number.number
    c.next_line.new.line.items (sym c.is_mounted.ensures ∙ c.if-not-is_mounted.false)
    (ap (λ d. d.told) (c.in_ok-say.ensures)) c.loop-number.invariant.2
    (subst
    (λ x. ReadsLine (g.D.LineDesk.state c.loop-number.desk) (g.D.LineDesk.state c.next_line.new.self)
    c.next_line.new.line.items (Ok x))
    (is_end c.in_ok-next.next c.if-eq.ensures) c.in_ok-next.ensures.reads)

pub returns-in_err-say-clause-stops : goal.returns-in_err-say-clause-stops
returns-in_err-say-clause-stops g c =
    on_err c.from_residual.result _
    (part_begins c.args.server.now.config c.args.server.now.session (g.D.LineDesk.state c.args.desk.now).told
    (g.D.LineDesk.state c.say.new.self).told (sym c.is_mounted.ensures ∙ c.if-not-is_mounted.false)
    (says_stops None (g.D.LineDesk.state c.args.desk.now) (g.D.LineDesk.state c.say.new.self) _
    c.in_err-say.field-0.0 c.in_err-say.ensures))

pub returns-in_err-next-clause-stops : goal.returns-in_err-next-clause-stops
returns-in_err-next-clause-stops g c =
    on_err c.from_residual-in_err-next.result _
    (part_unread c.args.server.now.config c.loop-number.are_good c.args.server.now.session
    c.loop-number.server.session c.loop-number.number (g.D.LineDesk.state c.args.desk.now).told
    (g.D.LineDesk.state c.say.new.self).told (g.D.LineDesk.state c.loop-number.desk)
    (g.D.LineDesk.state c.next_line.new.self) c.next_line.new.line.items c.in_err-next.field-0.0
    (sym c.is_mounted.ensures ∙ c.if-not-is_mounted.false) (ap (λ d. d.told) c.in_ok-say.ensures)
    c.loop-number.invariant.2 c.in_err-next.ensures.reads)

pub returns-in_err-is_good-clause-stops : goal.returns-in_err-is_good-clause-stops
returns-in_err-is_good-clause-stops g c =
    let told = (g.D.LineDesk.state c.answer_piece.new.desk).told in
    let mid = (g.D.LineDesk.state c.next_line.new.self).told in
    on_err c.from_residual-in_err-is_good.result _
    (part_piece c.args.server.now.config c.loop-number.are_good c.args.server.now.session
    c.loop-number.server.session c.answer_piece.new.server.session c.loop-number.number
    (g.D.LineDesk.state c.args.desk.now).told
    (g.D.LineDesk.state c.say.new.self).told (g.D.LineDesk.state c.loop-number.desk)
    (g.D.LineDesk.state c.next_line.new.self) told c.in_ok-next.next c.next_line.new.line.items
    (sym c.is_mounted.ensures ∙ c.if-not-is_mounted.false) (ap (λ d. d.told) c.in_ok-say.ensures)
    c.loop-number.invariant.2 c.in_ok-next.ensures.reads (not_end c.in_ok-next.next c.if-eq.ensures)
    (subst
    (λ x. StopsPiece x c.in_ok-next.next c.next_line.new.line.items c.loop-number.number mid
    c.loop-number.server.session told c.answer_piece.new.server.session)
    c.loop-number.invariant.1
    (subst
    (λ x. StopsPiece c.loop-number.server.config c.in_ok-next.next x c.loop-number.number mid
    c.loop-number.server.session told c.answer_piece.new.server.session)
    c.deref.ensures.value c.in_err-is_good.ensures.stops)))

pub returns-clause-stops : goal.returns-clause-stops
returns-clause-stops g c =
    part_here c.args.server.now.config c.loop-number.are_good c.args.server.now.session c.loop-number.server.session
    c.loop-number.number (g.D.LineDesk.state c.args.desk.now).told (g.D.LineDesk.state c.say.new.self).told
    (g.D.LineDesk.state c.loop-number.desk).told (sym c.is_mounted.ensures ∙ c.if-not-is_mounted.false)
    (ap (λ d. d.told) c.in_ok-say.ensures) c.loop-number.invariant.2

pub returns-then-not-is_mounted-clause-fault : goal.returns-then-not-is_mounted-clause-fault
returns-then-not-is_mounted-clause-fault g c =
    inr (inr (inl (sym c.is_mounted.ensures ∙ c.if-not-is_mounted.true, refl, refl)))

pub returns-in_err-say-clause-fault : goal.returns-in_err-say-clause-fault
returns-in_err-say-clause-fault g c =
    let its = c.args.server.now.config in
    let s = c.args.server.now.session in
    let before = g.D.LineDesk.state c.args.desk.now in
    let now = g.D.LineDesk.state c.say.new.self in
    let why = stop_of_call c.in_err-say.field-0.0 in
    by_error c.from_residual.result why (FaultsLines its before now s s) c.from_residual.ensures.1
    (lines_fault its before before now s s why refl
    (says_fault None before now _ c.in_err-say.field-0.0 c.in_err-say.ensures))

pub returns-in_err-next-clause-fault : goal.returns-in_err-next-clause-fault
returns-in_err-next-clause-fault g c =
    let its = c.args.server.now.config in
    let s = c.args.server.now.session in
    let t = c.loop-number.server.session in
    let before = g.D.LineDesk.state c.args.desk.now in
    let mid = g.D.LineDesk.state c.loop-number.desk in
    let now = g.D.LineDesk.state c.next_line.new.self in
    let why = stop_of_call c.in_err-next.field-0.0 in
    by_error c.from_residual-in_err-next.result why (FaultsLines its before now s t)
    c.from_residual-in_err-next.ensures.1
    (lines_fault its before mid now s t why
    (c.loop-number.invariant.3 ∙ ap (λ (d : LineDeskState). d.faults) c.in_ok-say.ensures)
    (reads_fault mid now c.next_line.new.line.items c.in_err-next.field-0.0 c.in_err-next.ensures.reads))

pub returns-in_err-is_good-clause-fault : goal.returns-in_err-is_good-clause-fault
returns-in_err-is_good-clause-fault g c =
    let its = c.args.server.now.config in
    let s = c.args.server.now.session in
    let t = c.loop-number.server.session in
    let u = c.answer_piece.new.server.session in
    let before = g.D.LineDesk.state c.args.desk.now in
    let mid = g.D.LineDesk.state c.next_line.new.self in
    let now = g.D.LineDesk.state c.answer_piece.new.desk in
    let why = c.in_err-is_good.field-0.0 in
    by_error c.from_residual-in_err-is_good.result why (FaultsLines its before now s u)
    c.from_residual-in_err-is_good.ensures.1
    (piece_fault its c.loop-number.server.config c.loop-number.are_good s t u c.loop-number.number before mid now
    (g.D.LineDesk.state c.say.new.self).told (g.D.LineDesk.state c.loop-number.desk).told why
    c.loop-number.invariant.1 (sym c.is_mounted.ensures ∙ c.if-not-is_mounted.false)
    (ap (λ (d : LineDeskState). d.told) c.in_ok-say.ensures) c.loop-number.invariant.2
    (ap (λ (d : LineDeskState). d.faults) c.in_ok-next.ensures.reads.1
    ∙ (c.loop-number.invariant.3 ∙ ap (λ (d : LineDeskState). d.faults) c.in_ok-say.ensures))
    c.in_err-is_good.ensures.fault)

pub returns-in_err-say-clause-durable : goal.returns-in_err-say-clause-durable
returns-in_err-say-clause-durable g c = λ said.
    says_durably None (g.D.LineDesk.state c.args.desk.now) (g.D.LineDesk.state c.say.new.self) _ c.say.result tt
    c.say.ensures said
