use Rattle.cut_replay.proofs.Single.{abort_serves}
use Rattle.cut_replay.proofs.calls.abort.Goals as goal

pub returns-clause-serves : goal.returns-clause-serves
returns-clause-serves g c =
    abort_serves g.F.Flash.state g.R.CommitRule.protocol c.args.device.now c.abort-answer.new.self _ c.args.tag
    c.abort-answer.result c.abort_reply.result
    c.requires c.device_facts.ensures.always
    c.abort-answer.ensures.aborts c.abort-answer.ensures.exits c.abort-answer.ensures.moment c.abort-answer.ensures.sure
    c.abort-answer.ensures.unknown
    c.abort-answer.ensures c.abort_reply.ensures
