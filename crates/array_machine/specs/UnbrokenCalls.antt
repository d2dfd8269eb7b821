-- What the calls of the array machine give where nothing fails: functions of the state and of what is asked.
use Rattle.std.specs.Prelude.{◌≡◌, ℕ, ◌+◌, Bool, not, List, [], ◌∷◌, length, All, nat_lt, Option, None, Some, Result, Ok, Err, if◌then◌else◌}
use Rattle.array_machine.specs.ArrayState.{ArrayState, Entry, put, with_entry, without}
use Rattle.array_machine.specs.declared.mark.Mark.TheVariants.{Plain}
use Rattle.array_machine.specs.declared.answers.Aborted.{Aborted}
use Rattle.array_machine.specs.declared.answers.Aborted.TheVariants as aborted
use Rattle.array_machine.specs.declared.answers.Progress.{Progress}
use Rattle.array_machine.specs.declared.answers.Progress.TheVariants as progress
use Rattle.array_machine.specs.declared.answers.StepError.{StepError}
use Rattle.array_machine.specs.declared.answers.StepError.TheVariants as failed

-- no open transaction is in doubt or whole
abbrev pub AllPlain : ArrayState → Type 0
AllPlain s = All (λ e. e.mark ≡ Plain) s.entries

-- the transaction has a page more to write after the next one
abbrev pub has_more : Entry → Bool
has_more e = nat_lt (e.done + 1) (length e.writes)

-- a transaction is done: it goes, and the array has all its pages
abbrev pub taken : ℕ → Entry → ArrayState → ArrayState
taken tag e s = record { pages = put s.pages e.writes; entries = without tag s.entries }

-- the answer to a step of the transaction that was found
abbrev pub step_answer : Option Entry → Result Progress StepError
step_answer None = Err failed.Unknown
step_answer (Some e) =
    if has_more e then Ok (progress.Wrote (e.done + 1) (length e.writes)) else Ok progress.Done

-- and the state that it leaves
abbrev pub stepped : Option Entry → ℕ → ArrayState → ArrayState
stepped None tag s = s
stepped (Some e) tag s =
    if has_more e then record s {
      entries =
          with_entry tag (record e { done = e.done + 1 }) s.entries;
    } else taken tag e s

-- each of these transactions takes a step, in turn
abbrev pub stepped_each : List Entry → ArrayState → ArrayState
stepped_each [] s = s
stepped_each (e ∷ es) s = stepped_each es (stepped (Some e) e.tag s)

-- with its next page the transaction goes
abbrev pub is_ending : Entry → Bool
is_ending e = not (has_more e)

-- the answer to the last of the steps of a transaction, and the state that they leave
abbrev pub finish_answer : Option Entry → Result Progress StepError
finish_answer None = Err failed.Unknown
finish_answer (Some e) = Ok progress.Done

abbrev pub finished : Option Entry → ℕ → ArrayState → ArrayState
finished None tag s = s
finished (Some e) tag s = taken tag e s

-- the answer to an abort, and the state that it leaves
abbrev pub abort_answer : Option Entry → Result Aborted StepError
abort_answer None = Err failed.Unknown
abort_answer (Some e) = Ok aborted.Gone

abbrev pub aborted_from : Option Entry → ℕ → ArrayState → ArrayState
aborted_from None tag s = s
aborted_from (Some e) tag s = record s { entries = without tag s.entries }
