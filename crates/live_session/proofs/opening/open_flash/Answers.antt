use Rattle.live_session.proofs.Opened.{claimed_opens}
use Rattle.live_session.proofs.opening.open_flash.Goals as goal

pub returns-in-Ok : goal.returns-in-Ok
returns-in-Ok g c =
    claimed_opens (g.D.LineDesk.state c.args.desk.now) (g.D.LineDesk.state c.claim.new.self)
    (g.D.LineDesk.state c.open_file.new.desk) (g.S.Store.told c.in-Ok.file) c.args.name.now c.open_file.result
    c.in-Ok.ensures.claims.0 c.in-Ok.ensures.claims.1 c.open_file.ensures
