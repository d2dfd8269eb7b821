mod Opening
use Rattle.page_keys.proofs.Common.{sym, subst}
use Rattle.mounted_session.specs.Mounting.{FailsToMount, IfFault}
use Rattle.mounted_session.specs.declared.mounted.NotMounted.{NotMounted}
use Rattle.mounted_session.specs.declared.mounted.NotMounted.TheVariants as fails
use Rattle.page_keys.specs.KeySessions.{IsWhy}
use Rattle.page_keys.proofs.key_session.KeyStoreMounted.mount.Answers.Opening.{fails_to_open, opened, refused}
use Rattle.page_keys.proofs.key_session.KeyStoreMounted.mount.Goals as goal

pub returns-in-Ok-over-clause-mounted : goal.returns-in-Ok-over-clause-mounted
returns-in-Ok-over-clause-mounted g c =
    opened g.F.Flash.state c.args.config c.args.flash c.in-Ok.device c.in-Ok.ensures.mounted
    g.R.CommitRule.protocol c.in-Ok-over.store c.requires.takes c.requires.check c.in-Ok-over.ensures.keys
    c.in-Ok-over.ensures.opened c.config.ensures.always

pub returns-in-Err-over-clause-failed : goal.returns-in-Err-over-clause-failed
returns-in-Err-over-clause-failed g c =
    rw (c.close.ensures, c.not_opened.ensures)
    (fails_to_open g.F.Flash.state c.args.config c.args.flash c.in-Ok.device c.in-Ok.ensures.mounted
    c.in-Err-over.device c.in-Err-over.error c.in-Err-over.ensures.cause c.in-Err-over.ensures.back)

pub returns-in-Err-clause-failed : goal.returns-in-Err-clause-failed
returns-in-Err-clause-failed g c =
    subst (FailsToMount (IsWhy c.args.config (g.F.Flash.state c.args.flash)) (g.F.Flash.state c.args.flash)
    (g.F.Flash.state c.in-Err.flash)) (sym c.refused_device.ensures)
    (refused c.args.config (g.F.Flash.state c.args.flash) (g.F.Flash.state c.in-Err.flash) c.in-Err.error
    c.in-Err.ensures.failed)

-- nothing else is said of a mount that met a fault
nothing_met : {W : Type 0} (why : NotMounted W) → IfFault (Unit {0}) why
nothing_met fails.Fault = tt
nothing_met (fails.Refused why) = tt

pub returns-in-Err-over-clause-met : goal.returns-in-Err-over-clause-met
returns-in-Err-over-clause-met g c = nothing_met c.not_opened.result

pub returns-in-Err-clause-met : goal.returns-in-Err-clause-met
returns-in-Err-clause-met g c = nothing_met c.refused_device.result
