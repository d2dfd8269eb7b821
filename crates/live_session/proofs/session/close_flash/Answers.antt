use Rattle.live_session.proofs.Putting.{closes_by, closes_without}
use Rattle.live_session.proofs.session.close_flash.Goals as goal

pub returns-in-Ok : goal.returns-in-Ok
returns-in-Ok g c =
    closes_by c.args.flash c.flush-flushed.new.self c.flush-flushed.result c.config-config.result
    (g.D.LineDesk.state c.args.desk.now) (g.D.LineDesk.state c.put_image.new.desk) c.flush-flushed.ensures.flushes
    c.has_failed.ensures.opens c.has_failed.ensures.cause c.config-config.ensures.config c.in-Ok.bytes.items
    c.put_image.result c.in-Ok.ensures.flushed c.in-Ok.ensures.spells c.put_image.ensures

pub returns-in-Err : goal.returns-in-Err
returns-in-Err g c =
    closes_without c.args.flash c.flush-flushed.new.self c.flush-flushed.result c.config-config.result
    (g.D.LineDesk.state c.args.desk.now) (g.D.LineDesk.state c.release.new.self) c.flush-flushed.ensures.flushes
    c.has_failed.ensures.opens c.has_failed.ensures.cause c.config-config.ensures.config c.in-Err.why
    c.in-Err.ensures.stops c.release.ensures
