use Rattle.std.proofs.Common.{◌∙◌, sym}
use Rattle.durable_folder.proofs.Learning.{rests_then}
use Rattle.program_base.specs.Refusals.{image_refused}
use Rattle.program_base.specs.Statuses.{code}
use Rattle.view_command_line.specs.Request.{request_by}
use Rattle.view_command_line.proofs.Endings.{ends, ends_refused}
use Rattle.view_command_line.proofs.call.run.Goals as goal

pub returns-in-Ok-clause-ends : goal.returns-in-Ok-clause-ends
returns-in-Ok-clause-ends g c =
    let work = c.in-Ok.ensures.works in
    ends (request_by c.args.words.now) (g.D.Desk.state c.args.desk.now) (g.D.Desk.state c.work.new.desk)
    (g.D.Desk.state c.say.new.desk)
    work.0.0 c.deref.result.now 0 (code c.say.result) work.0.1 work.1 (c.deref.ensures.value ∙ work.0.3) (sym work.0.2)
    c.say.ensures.speaks

pub returns-in-Err-Refused-clause-ends : goal.returns-in-Err-Refused-clause-ends
returns-in-Err-Refused-clause-ends g c =
    let work = rw c.in-Err-Refused.field-0-is at c.in-Err-Refused.ensures.works in
    ends_refused (request_by c.args.words.now) (g.D.Desk.state c.args.desk.now) (g.D.Desk.state c.work.new.desk)
    (g.D.Desk.state c.refuse.new.desk)
    (image_refused c.in-Err-Refused.refusal) c.line.result (code c.status.result) (code c.refuse.result)
    work.0 work.1 c.line.ensures c.status.ensures c.refuse.ensures.refuses

pub returns-in-Ok-clause-disk : goal.returns-in-Ok-clause-disk
returns-in-Ok-clause-disk g c =
    rests_then (g.D.Desk.disk c.args.desk.now) (g.D.Desk.disk c.work.new.desk) (g.D.Desk.disk c.say.new.desk)
    c.in-Ok.ensures.disk
    c.say.ensures.disk

pub returns-in-Err-Refused-clause-disk : goal.returns-in-Err-Refused-clause-disk
returns-in-Err-Refused-clause-disk g c =
    rests_then (g.D.Desk.disk c.args.desk.now) (g.D.Desk.disk c.work.new.desk) (g.D.Desk.disk c.refuse.new.desk)
    c.in-Err-Refused.ensures.disk
    c.refuse.ensures.disk

pub returns-in-Err-Fault-clause-disk : goal.returns-in-Err-Fault-clause-disk
returns-in-Err-Fault-clause-disk g c =
    rests_then (g.D.Desk.disk c.args.desk.now) (g.D.Desk.disk c.work.new.desk) (g.D.Desk.disk c.desk_fault.new.desk)
    c.in-Err-Fault.ensures.disk
    c.desk_fault.ensures.disk

pub returns-in-Err-Memory-clause-disk : goal.returns-in-Err-Memory-clause-disk
returns-in-Err-Memory-clause-disk g c =
    rests_then (g.D.Desk.disk c.args.desk.now) (g.D.Desk.disk c.work.new.desk) (g.D.Desk.disk c.no_memory.new.desk)
    c.in-Err-Memory.ensures.disk
    c.no_memory.ensures.disk
