use Rattle.std.proofs.Common.{sym, subst}
use Rattle.mounted_session.specs.Devices.{IsWhy, ReadsFew}
use Rattle.mounted_session.specs.Mounting.{FailsToMount, IfFault}
use Rattle.mounted_session.proofs.Powering.{powered_fails, powered_met, powered_mounts}
use Rattle.mounted_session.proofs.device.DeviceMounted.mount.Goals as goal

pub returns-in-Ok-clause-mounted : goal.returns-in-Ok-clause-mounted
returns-in-Ok-clause-mounted g c =
    powered_mounts g.F.Flash.state c.args.config c.args.flash c.with_power.result c.with_power.ensures
    g.R.CommitRule.protocol c.in-Ok.device c.requires.takes c.in-Ok.ensures.mounted c.device_facts.ensures.always

pub returns-in-Err-clause-failed : goal.returns-in-Err-clause-failed
returns-in-Err-clause-failed g c =
    subst (FailsToMount (IsWhy c.args.config (g.F.Flash.state c.args.flash)) (g.F.Flash.state c.args.flash)
    (g.F.Flash.state c.in-Err.flash)) (sym c.not_mounted.ensures)
    (powered_fails g.F.Flash.state c.args.config c.args.flash c.with_power.result c.with_power.ensures
    c.in-Err.flash c.in-Err.error c.in-Err.ensures.failed)

pub returns-in-Err-clause-met : goal.returns-in-Err-clause-met
returns-in-Err-clause-met g c =
    subst (IfFault (ReadsFew c.args.config (g.F.Flash.state c.args.flash) (g.F.Flash.state c.in-Err.flash)))
    (sym c.not_mounted.ensures)
    (powered_met g.F.Flash.state c.args.config c.args.flash c.with_power.result c.with_power.ensures
    c.in-Err.flash c.in-Err.error c.in-Err.ensures.reads c.in-Err.ensures.started)
