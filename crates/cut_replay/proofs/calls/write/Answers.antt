use Rattle.cut_replay.proofs.Common.{length}
use Rattle.cut_replay.proofs.Telling.{write_serves, told_opened, told_refused}
use Rattle.cut_replay.proofs.Unspent.{knows_spent}
use Rattle.cut_replay.proofs.calls.write.Goals as goal

pub returns-in-Ok-clause-serves : goal.returns-in-Ok-clause-serves
returns-in-Ok-clause-serves g c =
    write_serves g.F.Flash.state c.args.device.now c.submit-answer.new.self c.args.tag c.args.batch.now
    c.submit-answer.result _
    c.submit-answer.ensures
    (told_opened c.args.tag (length c.args.batch.now.entries) c.len.result c.in-Ok.field-0 c.submit-answer.result
    c.len.ensures c.in-Ok.is)
    (knows_spent g.F.Flash.state g.R.CommitRule.protocol c.args.device.now c.args.tag c.args.batch.now
    c.requires.always c.config.ensures.stands)

pub returns-in-Err-clause-serves : goal.returns-in-Err-clause-serves
returns-in-Err-clause-serves g c =
    write_serves g.F.Flash.state c.args.device.now c.submit-answer.new.self c.args.tag c.args.batch.now
    c.submit-answer.result _
    c.submit-answer.ensures
    (told_refused c.args.tag (length c.args.batch.now.entries) c.in-Err.refusal c.submit-answer.result
    c.submit_reply.result
    (c.submit_reply.ensures (length c.args.batch.now.entries)) c.in-Err.is)
    (knows_spent g.F.Flash.state g.R.CommitRule.protocol c.args.device.now c.args.tag c.args.batch.now
    c.requires.always c.config.ensures.stands)
