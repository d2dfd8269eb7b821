use Rattle.live_session.proofs.RealDesk.{closes_untold}
use Rattle.live_session.proofs.real_desk.RealLineDeskLineDeskRealStore.close.Goals as goal

pub returns : goal.returns
returns g c =
    closes_untold (g.F.Shown.seen c.args.flash) c.args.self.now.faults c.args.bytes.now c.answer_close.result
