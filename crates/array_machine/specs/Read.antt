-- Reading a page of the array.
use Rattle.std.specs.Prelude.{◌≡◌, ℕ, ◌<◌, ◌≤◌, List, None, Some, Result, Ok, Err, IsSome}
use Rattle.array_machine.specs.ArrayState.{Pages, page_at}
use Rattle.array_machine.specs.declared.answers.ReadAnswer.{ReadAnswer}
use Rattle.array_machine.specs.declared.answers.ReadAnswer.TheVariants as answer
use Rattle.array_machine.specs.declared.answers.ReadError.{ReadError}
use Rattle.array_machine.specs.declared.answers.ReadError.TheVariants as failed

-- a read of a page answers as the array has it; only a page that is not blank may meet a fault
abbrev pub ReadsPage : ℕ → Pages → ℕ → List ℕ → Result ReadAnswer ReadError → Type 0
ReadsPage logical pages page bytes (Ok answer.Blank) =
    (page < logical) × (page_at pages page ≡ None)
ReadsPage logical pages page bytes (Ok answer.Page) =
    (page < logical) × (page_at pages page ≡ Some bytes)
ReadsPage logical pages page bytes (Err failed.Range) = logical ≤ page
ReadsPage logical pages page bytes (Err failed.Fault) =
    (page < logical) × IsSome (page_at pages page)
