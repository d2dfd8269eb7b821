use Rattle.live_session.proofs.Opened.{begins_starved, not_put}
use Rattle.live_session.proofs.opening.begin.Goals as goal

pub returns-in-Err-hold : goal.returns-in-Err-hold
returns-in-Err-hold g c = λ bytes reads said.
    begins_starved (g.S.Store.told c.args.file) (g.S.Store.told c.put_live_file.new.file)
    (g.S.Store.faults c.put_live_file.new.file) bytes c.args.config c.args.memory
    (g.D.LineDesk.state c.args.desk.now) (g.D.LineDesk.state c.put_live_file.new.desk) reads said c.in-Ok.ensures.turns

pub returns-in-Err : goal.returns-in-Err
returns-in-Err g c = λ bytes reads said.
    rw c.not_put.ensures
    (not_put (g.S.Store.told c.args.file) (g.S.Store.told c.put_live_file.new.file)
    (g.S.Store.faults c.put_live_file.new.file) bytes c.args.config c.args.memory
    (g.D.LineDesk.state c.args.desk.now) (g.D.LineDesk.state c.put_live_file.new.desk) reads said c.in-Err.why
    c.in-Err.ensures.turns)
