use Rattle.live_session.proofs.Opened.{refused_live}
use Rattle.live_session.proofs.opening.open_live.Goals as goal

pub returns-in-Err : goal.returns-in-Err
returns-in-Err g c =
    rw c.not_opened.ensures
    (refused_live (g.S.Store.told c.args.file) (g.D.LineDesk.state c.args.desk.now) c.args.bytes.items c.deref.result.now
    c.in-Err.rule c.deref.ensures.value c.requires.reads c.requires.begins c.in-Err.ensures.error)
