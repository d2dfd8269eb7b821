-- Making ready for the next page of an open transaction: what is cleared away and collected before it is written.
use Rattle.std.specs.Prelude.{◌≡◌, ◌≢◌, ◌⊎◌, ℕ, [], Bool, true, false, MatchOption, Result, Ok, Err, IfSome, OnOk, OnErr}
use Rattle.std.specs.Result.{is_err}
use Rattle.tx_types.specs.declared.record.Link.{Link}
use Rattle.flash_model.specs.declared.flash.Broken.{Broken}
use Rattle.flash_model.specs.Flash.{FlashState}
use Rattle.judged_records.specs.IndexState.{IndexState}
use Rattle.die_alloc.specs.BlocksState.{BlocksState, IsFull}
use Rattle.collector.specs.Going.{blocks_to_go}
use Rattle.collector.specs.Preserves.{IsThere}
use Rattle.collector.specs.declared.unsure.Unsure.TheVariants as unsure
use Rattle.array_machine.specs.ArrayState.{ArrayState, entry_of}
use Rattle.array_machine.specs.Step.{settled}
use Rattle.array_machine.specs.declared.answers.StepError.{StepError}
use Rattle.array_machine.specs.declared.answers.StepError.TheVariants as failed
use Rattle.open_table.specs.OpenTransactionsState.{OpenTransactionsState, name_due}
use Rattle.tx_engine.specs.Breaking.{StepBreaks, WritingBreaks}
use Rattle.tx_engine.specs.DeviceState.{DeviceState}
use Rattle.tx_engine.specs.Exits.{Exits, SettlesOrNot, VersionsRise, WorksSince, is_there, settled_writes}
use Rattle.tx_engine.specs.Settling.{IsLeft}
use Rattle.tx_engine.specs.StoreState.{StoreState}
use Rattle.tx_engine.specs.Tables.{device_in}
use Rattle.tx_engine.specs.Writing.{next_of}

-- No record must go before this name is programmed, and a block has room: that takes one program and no erase.
pub record IsReadyToWrite (n : IndexState) (t : BlocksState) (name : Link) : Type 0 where
  pub none : blocks_to_go n name.page name.version ≡ 0
  pub room : IsFull t → ⊥

-- Room was made for a name. Where that broke off it did so as the writing of its record does before the program.
pub record MakesRoom {F : Type 0} (state : F → FlashState) (S S' : StoreState F) (O : OpenTransactionsState)
    (name : Link) (result : Result (Unit {0}) Broken) : Type 0 where
  pub left : IsLeft state (device_in state S O) (device_in state S' O) (is_err result)
  pub sure : OnOk result (S'.unsure ≡ unsure.Nothing)
  pub ready : OnOk result (IsReadyToWrite S'.noted S'.table name)
  pub breaks : OnErr result (WritingBreaks state (device_in state S O) (device_in state S' O) name)

-- A settled device is ready for the next page of an open transaction, whose record is there, or may be written.
pub record ReadiesSettled {F : Type 0} (state : F → FlashState) (S S' : StoreState F) (O : OpenTransactionsState)
    (at : ℕ) (result : Result (Unit {0}) Broken) : Type 0 where
  pub left : IsLeft state (device_in state S O) (device_in state S' O) (is_err result)
  pub sure : OnOk result (S'.unsure ≡ unsure.Nothing)
  pub ready : OnOk result ((IsThere S'.noted (name_due O at) → ⊥) →
      IsReadyToWrite S'.noted S'.table (name_due O at))
  pub breaks : OnErr result (WritingBreaks state (device_in state S O) (device_in state S' O) (name_due O at))

-- the state settles, and no transaction goes on; a fault leaves it as before or settled
abbrev pub ReadyGives : ArrayState → ArrayState → Result (Unit {0}) StepError → ArrayState → Type 0
ReadyGives old mid (Ok done) new = new ≡ mid
ReadyGives old mid (Err failed.Unknown) new = ⊥
ReadyGives old mid (Err failed.Fault) new = (new ≡ old) ⊎ (new ≡ mid)

-- so where there is a transaction with the tag
abbrev pub ReadiesAs : Bool → ArrayState → ArrayState → ℕ → Result (Unit {0}) StepError → Type 0
ReadiesAs there old new tag result =
    MatchOption (entry_of tag old.entries) ((result ≡ Err failed.Unknown) × (new ≡ old))
    (λ e. ReadyGives old (settled there old) result new)

-- which versions rise: those of the transaction in doubt, where it settles
abbrev pub ReadyRises : {F : Type 0} → Bool → DeviceState F → DeviceState F → Result (Unit {0}) StepError → Type 0
ReadyRises there old new (Ok done) = VersionsRise old new (settled_writes there old.machine)
ReadyRises there old new (Err failed.Unknown) = VersionsRise old new []
ReadyRises there old new (Err failed.Fault) = SettlesOrNot there old new

abbrev pub is_ready_fault : Result (Unit {0}) StepError → Bool
is_ready_fault (Ok done) = false
is_ready_fault (Err failed.Unknown) = false
is_ready_fault (Err failed.Fault) = true

-- A device is ready for the next page of the transaction with a tag, if there is one: its record is there, or the next
-- step takes one program and no erase. Where a fault was met it broke off as a step does before its program.
pub record ReadiesDevice {F : Type 0} (state : F → FlashState) (old new : DeviceState F) (tag : ℕ)
    (result : Result (Unit {0}) StepError) : Type 0 where
  pub settles : ReadiesAs (is_there state old) old.machine new.machine tag result
  pub exits : Exits state old new (is_ready_fault result)
  pub rises : ReadyRises (is_there state old) old new result
  pub sure : OnOk result (new.unsure ≡ unsure.Nothing)
  pub unknown : result ≡ Err failed.Unknown → new ≡ old
  pub ready : OnOk result (IfSome (next_of new tag)
      (λ name. (IsThere new.noted name → ⊥) → IsReadyToWrite new.noted new.table name))
  pub since : result ≢ Err failed.Unknown → WorksSince state old new (is_ready_fault result)
  pub failed : result ≡ Err failed.Fault → StepBreaks state old new tag
