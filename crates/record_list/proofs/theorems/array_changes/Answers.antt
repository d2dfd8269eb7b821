use Rattle.record_list.proofs.OfChanges.Arrays.{partial_write_leaves_array, completing_write_takes_transaction, copy_leaves_array, block_loss_leaves_array}
use Rattle.record_list.proofs.theorems.array_changes.Goals as goal

pub returns-clause-partial_write : goal.returns-clause-partial_write
returns-clause-partial_write c = partial_write_leaves_array

pub returns-clause-completing_write : goal.returns-clause-completing_write
returns-clause-completing_write c = completing_write_takes_transaction

pub returns-clause-copy : goal.returns-clause-copy
returns-clause-copy c = copy_leaves_array

pub returns-clause-block_loss : goal.returns-clause-block_loss
returns-clause-block_loss c = block_loss_leaves_array
