use Rattle.durable_folder.proofs.Learning.{rests_then}
use Rattle.program_base.proofs.saying.say.Goals as goal

pub returns-in-Err-Failed-clause-disk : goal.returns-in-Err-Failed-clause-disk
returns-in-Err-Failed-clause-disk g c =
    rests_then (g.D.Desk.disk c.args.desk.now) (g.D.Desk.disk c.say.new.self) (g.D.Desk.disk c.desk_fault.new.desk)
    c.in-Err-Failed.ensures.disk
    c.desk_fault.ensures.disk

pub returns-in-Err-Memory-clause-disk : goal.returns-in-Err-Memory-clause-disk
returns-in-Err-Memory-clause-disk g c =
    rests_then (g.D.Desk.disk c.args.desk.now) (g.D.Desk.disk c.say.new.self) (g.D.Desk.disk c.no_memory.new.desk)
    c.in-Err-Memory.ensures.disk
    c.no_memory.ensures.disk
