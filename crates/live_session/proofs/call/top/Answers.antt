use Rattle.live_session.specs.Endings.{ending_of}
use Rattle.live_session.specs.LineDesk.{BothTell}
use Rattle.live_session.specs.Talks.{ServesFile}
use Rattle.live_session.specs.Words.{name_by}
use Rattle.live_session.proofs.Closing.{bad_ending, closing_ending, good_ending}
use Rattle.live_session.proofs.Durably.{ends_durably}
use Rattle.live_session.proofs.Faulting.{ends_fault}
use Rattle.live_session.proofs.call.top.Goals as goal

pub returns-clause-ends : goal.returns-clause-ends
returns-clause-ends g c = (
  ending_of c.serve-ending.result,
  g.D.LineDesk.state c.serve-ending.new.desk,
  c.serve-ending.ensures.calls,
  c.end.ensures.ends,
)

pub returns-clause-durable : goal.returns-clause-durable
returns-clause-durable g c = λ said.
    ends_durably (ending_of c.serve-ending.result) (g.D.LineDesk.state c.serve-ending.new.desk)
    (g.D.LineDesk.state c.end.new.desk) c.end.result c.end.ensures.ends (c.serve-ending.ensures.durable said)

pub returns-clause-closed : goal.returns-clause-closed
returns-clause-closed g c = λ answer.
    closing_ending (ending_of c.serve-ending.result) (g.D.LineDesk.state c.serve-ending.new.desk)
    (g.D.LineDesk.state c.end.new.desk) c.end.result c.end.ensures.ends c.serve-ending.ensures.closed answer

pub returns-clause-good : goal.returns-clause-good
returns-clause-good g c = λ answer.
    let old = (g.D.LineDesk.state c.args.desk.now).told in
    good_ending (λ d good. BothTell (ServesFile (name_by c.args.words.now) good) old d.told)
    (ending_of c.serve-ending.result)
    (g.D.LineDesk.state c.serve-ending.new.desk) (g.D.LineDesk.state c.end.new.desk) c.end.result c.end.ensures.ends
    c.serve-ending.ensures.serves answer

pub returns-clause-bad : goal.returns-clause-bad
returns-clause-bad g c = λ answer.
    let old = (g.D.LineDesk.state c.args.desk.now).told in
    bad_ending (λ d good. BothTell (ServesFile (name_by c.args.words.now) good) old d.told)
    (ending_of c.serve-ending.result)
    (g.D.LineDesk.state c.serve-ending.new.desk) (g.D.LineDesk.state c.end.new.desk) c.end.result c.end.ensures.ends
    c.serve-ending.ensures.serves answer

pub returns-clause-fault : goal.returns-clause-fault
returns-clause-fault g c = λ answer.
    ends_fault (name_by c.args.words.now) (ending_of c.serve-ending.result) (g.D.LineDesk.state c.args.desk.now)
    (g.D.LineDesk.state c.serve-ending.new.desk) (g.D.LineDesk.state c.end.new.desk) c.end.result c.end.ensures.ends
    c.serve-ending.ensures.fault answer
