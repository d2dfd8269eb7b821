-- A few transactions that go on at once, and what the definitions say of them.
use Rattle.std.specs.Prelude.{◌≡◌, ℕ, false, [], ◌∷◌, None, Some}
use Rattle.tx_types.specs.Batch.{PageWrite}
use Rattle.array_machine.specs.ArrayState.{ArrayState, Entry, Pages, idle, new_entry, put}
use Rattle.array_machine.specs.Batches.{MayTakeEach, StepsAllAs}
use Rattle.array_machine.specs.Step.{IsAtLast}

-- a page with one byte
abbrev pub write : ℕ → ℕ → PageWrite
write page byte = record { page = page; value = Some (byte ∷ []) }

abbrev pub blank_pages : Pages
blank_pages = None ∷ None ∷ None ∷ []

-- a transaction of one page, and one of two
abbrev pub first : Entry
first = new_entry 1 (write 0 1 ∷ [])

abbrev pub second : Entry
second = new_entry 2 (write 1 2 ∷ write 2 3 ∷ [])

abbrev pub both_open : ArrayState
both_open = record { pages = blank_pages; entries = first ∷ second ∷ [] }

-- the first is done, and the second has a page left
abbrev pub second_open : ArrayState
second_open = record {
  pages = put blank_pages first.writes;
  entries = record second { done = 1 } ∷ [];
}

abbrev pub all_done : ArrayState
all_done = idle (put (put blank_pages first.writes) second.writes)

abbrev pub FirstTwoMove : Type 0
FirstTwoMove = StepsAllAs false both_open second_open (record { moved = 2; finished = 1 })

abbrev pub SecondMoves : Type 0
SecondMoves = StepsAllAs false second_open all_done (record { moved = 1; finished = 1 })

abbrev pub NoneMoves : Type 0
NoneMoves = StepsAllAs false all_done all_done (record { moved = 0; finished = 0 })

-- of two transactions at their last page the second may be taken without the first
abbrev pub SecondIsTaken : Type 0
SecondIsTaken =
    (pages : Pages) (a b : Entry) → IsAtLast a → IsAtLast b →
    MayTakeEach pages IsAtLast (a ∷ b ∷ []) (put pages b.writes)

-- of one with two pages left none is
abbrev pub UnfinishedStays : Type 0
UnfinishedStays = (new : Pages) → MayTakeEach blank_pages IsAtLast (second ∷ []) new → new ≡ blank_pages
