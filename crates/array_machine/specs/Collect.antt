-- Collecting a block, and what a device tells of its array.
use Rattle.std.specs.Prelude.{◌≡◌, ◌⊎◌, Bool, length, count_by, is_some, Result, Ok, Err}
use Rattle.tx_types.specs.declared.stats.Stats.{Stats}
use Rattle.array_machine.specs.ArrayState.{ArrayState, pending_pages}
use Rattle.array_machine.specs.Step.{settled}
use Rattle.array_machine.specs.declared.answers.Collected.{Collected}
use Rattle.array_machine.specs.declared.answers.Fault.{Fault}

-- A block is collected, or there is none to collect, and the state settles. A fault leaves it as before or settled.
abbrev pub CollectsAs : Bool → ArrayState → ArrayState → Result Collected Fault → Type 0
CollectsAs there old new (Ok collected) = new ≡ settled there old
CollectsAs there old new (Err fault) = (new ≡ old) ⊎ (new ≡ settled there old)

abbrev pub Collects : ArrayState → ArrayState → Result Collected Fault → Type 0
Collects old new result = (there : Bool) × CollectsAs there old new result

-- the numbers that the array and the open transactions give; the others are those of the flash
pub record TellsStats (s : ArrayState) (told : Stats) : Type 0 where
  pub written : told.written ≡ count_by is_some s.pages
  pub tags : told.tags ≡ length s.entries
  pub pending : told.pending ≡ pending_pages s.entries
