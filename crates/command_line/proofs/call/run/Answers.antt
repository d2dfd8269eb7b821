use Rattle.std.proofs.Common.{inl, inr, sym}
use Rattle.program_base.specs.Statuses.{code}
use Rattle.desk_tasks.specs.Stops.{output_of, refused}
use Rattle.desk_tasks.proofs.Weakening.{comes_seen}
use Rattle.command_line.specs.Words.{request_by}
use Rattle.command_line.proofs.DiskEndings.{ends_put, ends_rested, ends_unput}
use Rattle.command_line.proofs.Endings.{ends_delivered, ends_stopped}
use Rattle.command_line.proofs.call.run.Goals as goal

pub returns-in-Ok-clause-ends : goal.returns-in-Ok-clause-ends
returns-in-Ok-clause-ends g c =
    let task = request_by c.args.words.now in
    let old = g.D.Desk.state c.args.desk.now in
    let mid = g.D.Desk.state c.work.new.desk in
    let work = c.in-Ok.ensures.works in
    ends_delivered task old mid (g.D.Desk.state c.deliver.new.desk) work.0 (output_of c.in-Ok.product) 0
    (code c.deliver.result)
    (comes_seen task old mid (g.D.Desk.disk c.args.desk.now) work.0 work.1) work.3 (sym work.2)
    c.deliver.ensures.delivers

pub returns-in-Err-Refused-clause-ends : goal.returns-in-Err-Refused-clause-ends
returns-in-Err-Refused-clause-ends g c =
    let task = request_by c.args.words.now in
    let old = g.D.Desk.state c.args.desk.now in
    let mid = g.D.Desk.state c.work.new.desk in
    ends_stopped task old mid (g.D.Desk.state c.refuse.new.desk) c.in-Err-Refused.refusal c.line.result
    (code c.status.result) (code c.refuse.result)
    (comes_seen task old mid (g.D.Desk.disk c.args.desk.now) (refused c.in-Err-Refused.refusal)
    (rw c.in-Err-Refused.field-0-is at c.in-Err-Refused.ensures.works))
    c.line.ensures c.status.ensures
    c.refuse.ensures.refuses

pub returns-in-Ok-clause-disk : goal.returns-in-Ok-clause-disk
returns-in-Ok-clause-disk g c =
    let work = c.in-Ok.ensures.works in
    ends_put g.D.Desk.state g.D.Desk.disk (request_by c.args.words.now) c.args.desk.now c.work.new.desk
    c.deliver.new.desk
    work.0 (output_of c.in-Ok.product) (code c.deliver.result) work.1 work.3 work.2 c.in-Ok.ensures.disk
    c.deliver.ensures.disk

pub returns-in-Err-Refused-clause-disk : goal.returns-in-Err-Refused-clause-disk
returns-in-Err-Refused-clause-disk g c =
    ends_unput g.D.Desk.state g.D.Desk.disk (request_by c.args.words.now) c.args.desk.now c.work.new.desk
    c.refuse.new.desk
    c.in-Err-Refused.refusal c.line.result (code c.status.result) (code c.refuse.result)
    (rw c.in-Err-Refused.field-0-is at c.in-Err-Refused.ensures.works) c.line.ensures c.status.ensures
    c.refuse.ensures.refuses
    c.in-Err-Refused.ensures.disk c.refuse.ensures.disk

pub returns-in-Err-Fault-clause-disk : goal.returns-in-Err-Fault-clause-disk
returns-in-Err-Fault-clause-disk g c =
    ends_rested g.D.Desk.state g.D.Desk.disk (request_by c.args.words.now) c.args.desk.now c.work.new.desk
    c.desk_fault.new.desk
    (code c.desk_fault.result) (inl c.desk_fault.ensures.told.0) c.in-Err-Fault.ensures.disk c.desk_fault.ensures.disk

pub returns-in-Err-Memory-clause-disk : goal.returns-in-Err-Memory-clause-disk
returns-in-Err-Memory-clause-disk g c =
    ends_rested g.D.Desk.state g.D.Desk.disk (request_by c.args.words.now) c.args.desk.now c.work.new.desk
    c.no_memory.new.desk
    (code c.no_memory.result) (inr c.no_memory.ensures.told.0) c.in-Err-Memory.ensures.disk c.no_memory.ensures.disk
