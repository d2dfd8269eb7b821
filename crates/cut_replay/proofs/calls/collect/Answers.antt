use Rattle.cut_replay.proofs.CollectionCosts.{collect_costs, known_config}
use Rattle.cut_replay.proofs.Single.{collect_serves}
use Rattle.cut_replay.proofs.calls.collect.Goals as goal

pub returns-clause-serves : goal.returns-clause-serves
returns-clause-serves g c =
    collect_serves g.F.Flash.state g.R.CommitRule.protocol c.args.device.now c.collect-answer.new.self
    _ _ _ c.collect-answer.result c.collect_reply.result
    c.requires c.device_facts.ensures.always
    c.collect-answer.ensures.collects c.collect-answer.ensures.exits c.collect-answer.ensures.sure
    c.collect-answer.ensures.tables
    c.collect-answer.ensures.nothing
    (collect_costs g.F.Flash.state c.args.device.now c.collect-answer.new.self c.args.device.now.config
    (known_config g.F.Flash.state g.R.CommitRule.protocol c.args.device.now c.requires) c.collect-answer.result
    c.collect-answer.ensures.tables c.collect-answer.ensures.breaks)
    c.collect-answer.ensures c.collect_reply.ensures
