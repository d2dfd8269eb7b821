use Rattle.cut_replay.proofs.CommandCosts.{step_costs, step_direct}
use Rattle.cut_replay.proofs.Single.{step_serves}
use Rattle.cut_replay.proofs.calls.step.Goals as goal

pub returns-clause-serves : goal.returns-clause-serves
returns-clause-serves g c =
    step_serves g.F.Flash.state g.R.CommitRule.protocol c.args.device.now c.step-answer.new.self _ c.args.tag
    c.step-answer.result c.step_reply.result c.requires
    c.device_facts.ensures.always
    c.step-answer.ensures.steps c.step-answer.ensures.exits c.step-answer.ensures.sure c.step-answer.ensures.unknown
    (step_costs g.F.Flash.state g.R.CommitRule.protocol c.args.device.now c.step-answer.new.self c.requires c.args.tag
    c.step-answer.result c.config.ensures.stands c.step-answer.ensures)
    (step_direct g.F.Flash.state g.R.CommitRule.protocol c.args.device.now c.step-answer.new.self c.requires c.args.tag
    c.step-answer.result c.config.ensures.stands c.step-answer.ensures)
    c.step-answer.ensures c.step_reply.ensures
