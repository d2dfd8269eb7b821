use Rattle.tx_engine.proofs.Common.{◌≡◌, drop, is_spent, spent_page}
use Rattle.tx_engine.proofs.store.Store.spent_refusal.Given as goal

abbrev pub invariant-loop-at : goal.invariant-loop-at
invariant-loop-at g l = spent_page (is_spent l.self.noted.mentions) l.batch.entries
    ≡ spent_page (is_spent l.self.noted.mentions) (drop l.at l.batch.entries)
