pub mod Planning
use Rattle.tx_engine.proofs.Common.{◌≡◌, ◌≤◌}
use Rattle.std.specs.Prelude.{vec_capacity}
use Rattle.tx_engine.proofs.batches.plan.Invariants.Planning.{PlannedTo}
use Rattle.tx_engine.proofs.batches.plan.Given as goal

abbrev pub invariant-loop-die : goal.invariant-loop-die
invariant-loop-die g l =
    (l.store ≡ l.initial.store) × PlannedTo l.initial.store.noted l.initial.store.table l.transactions
    l.jobs.items l.die
    × (vec_capacity l.initial.jobs ≤ vec_capacity l.jobs)
