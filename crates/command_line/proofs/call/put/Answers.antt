use Rattle.durable_folder.proofs.Learning.{rests_same}
use Rattle.command_line.proofs.call.put.Goals as goal

pub returns-in-None-clause-disk : goal.returns-in-None-clause-disk
returns-in-None-clause-disk g c = rw c.in-None.is (rests_same (g.D.Desk.disk c.args.desk.now))
