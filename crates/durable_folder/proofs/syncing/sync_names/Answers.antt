use Rattle.durable_folder.proofs.Common.{rules}
use Rattle.durable_folder.proofs.Causing.{synced_fault}
use Rattle.durable_folder.proofs.Putting.{names_synced}
use Rattle.durable_folder.proofs.syncing.sync_names.Goals as goal

pub returns-clause-settles : goal.returns-clause-settles
returns-clause-settles g c = search (rules, names_synced)

pub returns-clause-fault : goal.returns-clause-fault
returns-clause-fault g c = search (rules, synced_fault)
