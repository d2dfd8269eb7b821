use Rattle.desk_tasks.proofs.Retirements.{retires_idle}
use Rattle.desk_tasks.proofs.retiring.retire.Goals as goal

pub returns-in-Ok-clause-retires : goal.returns-in-Ok-clause-retires
returns-in-Ok-clause-retires g c =
    retires_idle c.args.device.now c.retire.new.self c.args.block.0 g.R.CommitRule.protocol c.requires.idle
    c.config.ensures.stands c.config.ensures.rule
    c.device_invariant.ensures c.in-Ok.ensures
