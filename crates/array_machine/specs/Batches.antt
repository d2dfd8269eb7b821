-- Going on with several transactions at once, and what is left of them where that met a fault or a power cut.
use Rattle.std.specs.Prelude.{◌≡◌, ◌⊎◌, ◌↔◌, ◌≤◌, Bool, true, false, List, [], ◌∷◌, length, take, count_by, Some}
use Rattle.array_machine.specs.ArrayState.{ArrayState, Entry, Pages, entry_of, put}
use Rattle.array_machine.specs.Step.{settled, IsAtLast, GoesOn}
use Rattle.array_machine.specs.declared.answers.Moved.{Moved}
use Rattle.array_machine.specs.declared.answers.Progress.{Progress}
use Rattle.array_machine.specs.declared.answers.Progress.TheVariants as progress

-- the transaction went with this step
abbrev pub is_done : Progress → Bool
is_done (progress.Wrote done all) = false
is_done progress.Done = true

-- these open transactions each go on by one step, in turn, with these answers
abbrev pub GoInTurn : ArrayState → List Entry → List Progress → ArrayState → Type 0
GoInTurn old [] [] new = new ≡ old
GoInTurn old (e ∷ es) (p ∷ ps) new =
    (entry_of e.tag old.entries ≡ Some e)
    × ((mid : ArrayState) × GoesOn old e.tag e p mid × GoInTurn mid es ps new)
GoInTurn old _ _ new = ⊥

-- The state settles, and this many of the open transactions, the first ones in the order of their opening, each go on
-- by one step. None does exactly where none is open.
pub record StepsAllAs (there : Bool) (old new : ArrayState) (answer : Moved) : Type 0 where
  pub each : List Progress
  pub go :
      let mid = settled there old in
      GoInTurn mid (take answer.moved mid.entries) each new
  pub within : answer.moved ≤ length old.entries
  pub finished : answer.finished ≡ count_by is_done each
  pub none : (answer.moved ≡ 0) ↔ (old.entries ≡ [])

abbrev pub StepsAll : ArrayState → ArrayState → Moved → Type 0
StepsAll old new answer = (there : Bool) × StepsAllAs there old new answer

-- the array where each of these transactions that is of this kind was taken or not, by itself
abbrev pub MayTakeEach : Pages → (Entry → Type 0) → List Entry → Pages → Type 0
MayTakeEach old Q [] new = new ≡ old
MayTakeEach old Q (e ∷ es) new =
    MayTakeEach old Q es new ⊎ (Q e × MayTakeEach (put old e.writes) Q es new)

-- What is left where going on with several transactions met a fault, or power was cut: no transaction is open. What was
-- in doubt was there or not, and then each transaction at its last page was taken or not, by itself.
abbrev pub CutLeavesEach : ArrayState → ArrayState → Type 0
CutLeavesEach old new =
    (there : Bool) × MayTakeEach (settled there old).pages IsAtLast old.entries new.pages
    × (new.entries ≡ [])
