-- A step of a device that is ready for it takes one program at most, and no erase.
use Rattle.std.specs.Prelude.{◌≡◌, ◌⊎◌, ℕ, ◌+◌, ◌≤◌, List, [], ◌∷◌, Some, Result, OnOk}
use Rattle.flash_model.specs.Flash.{FlashState}
use Rattle.flash_model.specs.Moves.{Does}
use Rattle.flash_model.specs.Operations.{moment_of, program}
use Rattle.collector.specs.Preserves.{IsThere}
use Rattle.collector.specs.declared.unsure.Unsure.TheVariants as unsure
use Rattle.array_machine.specs.ArrayState.{Entry}
use Rattle.array_machine.specs.declared.answers.Progress.{Progress}
use Rattle.array_machine.specs.declared.answers.StepError.{StepError}
use Rattle.open_table.specs.OpenTransactionsState.{Naming, name_at}
use Rattle.tx_engine.specs.DeviceCalls.{StepsDevice}
use Rattle.tx_engine.specs.DeviceState.{DeviceState}
use Rattle.tx_engine.specs.Readying.{IsReadyToWrite}
use Rattle.tx_engine.specs.Writing.{open_of}

-- One program at most was done, and no erase. Where the step answered nothing was done, or one program.
pub record TakesOneProgram {F : Type 0} (state : F → FlashState) (old new : DeviceState F)
    (result : Result Progress StepError) : Type 0 where
  pub programs : (state new.flash).programs ≤ (state old.flash).programs + 1
  pub erases : (state new.flash).erases ≡ (state old.flash).erases
  pub does : OnOk result (
      (moment_of (state new.flash) ≡ moment_of (state old.flash))
      ⊎ ((at : ℕ) × (bytes : List ℕ) × (spare_area : List ℕ)
      × Does (state old.flash).shape (moment_of (state old.flash)) (program at bytes spare_area ∷ [])
      (moment_of (state new.flash))))

-- So does each step of a settled device that is ready for the next page of the transaction.
abbrev pub ReadyStepLaw : {F : Type 0} → (F → FlashState) → Type 0
ReadyStepLaw {F} state =
    (old new : DeviceState F) (tag : ℕ) (result : Result Progress StepError) (e : Entry) (x : Naming) →
    open_of old tag ≡ Some (e, x) → old.unsure ≡ unsure.Nothing →
    ((IsThere old.noted (name_at x e.done) → ⊥) → IsReadyToWrite old.noted old.table (name_at x e.done)) →
    StepsDevice state old new tag result → TakesOneProgram state old new result
