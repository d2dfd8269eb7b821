use Rattle.record_list.proofs.OfChanges.LostTransactions.{lost_transaction}
use Rattle.record_list.proofs.theorems.lost_transactions.Goals as goal

pub returns : goal.returns
returns c = lost_transaction
