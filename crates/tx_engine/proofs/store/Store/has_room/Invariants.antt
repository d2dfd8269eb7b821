use Rattle.tx_engine.proofs.Common.{◌≡◌, ℕ, ◌<◌}
use Rattle.die_alloc.specs.BlocksState.{IsFullIn}
use Rattle.tx_engine.proofs.store.Store.has_room.Given as goal

abbrev pub invariant-loop-die : goal.invariant-loop-die
invariant-loop-die g l =
    (l.self ≡ l.initial.self) × ((k : ℕ) → k < l.die → IsFullIn l.initial.self.table k)
