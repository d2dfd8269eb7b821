use Rattle.file_flash.proofs.Existing.{writes_exist, syncs_exist, reads_exist}
use Rattle.file_flash.proofs.theorems.calls_can_be_done.Goals as goal

pub returns-clause-writes : goal.returns-clause-writes
returns-clause-writes c = writes_exist

pub returns-clause-syncs : goal.returns-clause-syncs
returns-clause-syncs c = syncs_exist

pub returns-clause-reads : goal.returns-clause-reads
returns-clause-reads c = reads_exist
