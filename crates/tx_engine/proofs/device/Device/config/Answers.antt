use Rattle.tx_engine.proofs.Common.{subst, Stands}
use Rattle.tx_engine.proofs.OfDevice.KeptDevices.{as_kept, kept_stands}
use Rattle.tx_engine.proofs.device.Device.config.Goals as goal

pub returns-clause-stands : goal.returns-clause-stands
returns-clause-stands g c =
    subst (Stands g.F.Flash.state) (as_kept g.F.Flash.state c.self.inside _ c.self.view_is c.requires.kept)
    (kept_stands g.F.Flash.state c.self.inside _ c.self.view_is c.requires.kept g.R.CommitRule.protocol
    c.self.invariant)
