use Rattle.view_command_line.proofs.Endings.{files_kept, only_fault}
use Rattle.view_command_line.proofs.call.top.Goals as goal

pub returns-clause-ends : goal.returns-clause-ends
returns-clause-ends g c = rw c.code.ensures c.run.ensures.ends

pub returns-clause-fault : goal.returns-clause-fault
returns-clause-fault g c = rw c.code.ensures (only_fault _ _ _ _ c.run.ensures.ends)

pub returns-clause-files : goal.returns-clause-files
returns-clause-files g c = files_kept _ _ _ _ c.run.ensures.ends
