use Rattle.host_protocol.proofs.FileLemmas.{file_same, first_same}
use Rattle.host_protocol.proofs.theorems.files_tell_commands.Goals as goal

pub returns-clause-commands : goal.returns-clause-commands
returns-clause-commands c = file_same

pub returns-clause-line : goal.returns-clause-line
returns-clause-line c = first_same
