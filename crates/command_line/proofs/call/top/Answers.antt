use Rattle.command_line.proofs.Endings.{exact, leaves_files, only_fault}
use Rattle.command_line.proofs.call.top.Goals as goal

pub returns-clause-ends : goal.returns-clause-ends
returns-clause-ends g c = rw c.code.ensures c.run.ensures.ends

pub returns-clause-exact : goal.returns-clause-exact
returns-clause-exact g c = rw c.code.ensures (exact _ _ _ _ c.run.ensures.ends)

pub returns-clause-fault : goal.returns-clause-fault
returns-clause-fault g c = rw c.code.ensures (only_fault _ _ _ _ c.run.ensures.ends)

pub returns-clause-files : goal.returns-clause-files
returns-clause-files g c = rw c.code.ensures (leaves_files _ _ _ _ c.run.ensures.ends)

pub returns-clause-disk : goal.returns-clause-disk
returns-clause-disk g c = rw c.code.ensures c.run.ensures.disk
