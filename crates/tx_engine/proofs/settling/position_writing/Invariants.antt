use Rattle.tx_engine.proofs.Common.{◌≡◌, ℕ, ◌<◌, false, get_or, no_transaction, is_writing}
use Rattle.tx_engine.proofs.settling.position_writing.Given as goal

abbrev pub invariant-loop-at : goal.invariant-loop-at
invariant-loop-at l = (k : ℕ) → k < l.at → is_writing l.page (get_or l.transactions.all k no_transaction) ≡ false
