-- What each call of a device does: each has one clause.
use Rattle.std.specs.Prelude.{◌≡◌, ◌≢◌, ℕ, List, Result, Err, Ok, IfErr, IfOk, IfSome, OnOk, OnErr, sum_by, option_map}
use Rattle.std.specs.List.{range_with_len}
use Rattle.std.specs.Result.{is_err}
use Rattle.tx_types.specs.Batch.{PageWrite}
use Rattle.tx_types.specs.Config.{shape_of, blocks_of}
use Rattle.tx_types.specs.declared.config.Config.{Config}
use Rattle.tx_types.specs.declared.stats.Stats.{Stats}
use Rattle.flash_model.specs.Calls.{Carries}
use Rattle.flash_model.specs.Flash.{FlashState, blank, slot_at, counted_times}
use Rattle.flash_model.specs.Operations.{moment_of}
use Rattle.flash_model.specs.Retiring.{one_more}
use Rattle.judged_records.specs.IndexState.{IndexState}
use Rattle.collector.specs.declared.unsure.Unsure.TheVariants as unsure
use Rattle.collector.specs.Looking.{ReadsAtMost}
use Rattle.collector.specs.Matches.{AllOfBlock}
use Rattle.collector.specs.Preserves.{IsThere}
use Rattle.collector.specs.Settling.{slots_read}
use Rattle.collector.specs.Victim.{garbage_in}
use Rattle.array_machine.specs.declared.answers.Aborted.{Aborted}
use Rattle.array_machine.specs.declared.answers.Collected.{Collected}
use Rattle.array_machine.specs.declared.answers.Collected.TheVariants as collected
use Rattle.array_machine.specs.declared.answers.Fault.{Fault}
use Rattle.array_machine.specs.declared.answers.Progress.{Progress}
use Rattle.array_machine.specs.declared.answers.ReadAnswer.{ReadAnswer}
use Rattle.array_machine.specs.declared.answers.ReadError.{ReadError}
use Rattle.array_machine.specs.declared.answers.StepError.{StepError}
use Rattle.array_machine.specs.declared.answers.StepError.TheVariants as error
use Rattle.array_machine.specs.declared.answers.SubmitError.{SubmitError}
use Rattle.tx_engine.specs.Breaking.{CollectBreaks, StepBreaks}
use Rattle.array_machine.specs.Collect.{CollectsAs, TellsStats}
use Rattle.tx_engine.specs.Collections.{CollectsTables, HasNothingToCollect}
use Rattle.tx_engine.specs.Costs.{CostsStep}
use Rattle.tx_engine.specs.Exits.{AbortRises, CollectRises, Exits, StepRises, WorksSince, is_abort_fault, is_step_fault, is_there}
use Rattle.tx_engine.specs.Naming.{KeepsTables, is_spent, named_after}
use Rattle.tx_engine.specs.Opens.{FailsToMount, Mounts, ReadsUnmounted}
use Rattle.tx_engine.specs.Read.{ReadsFlash, is_read_fault, read_place}
use Rattle.array_machine.specs.Read.{ReadsPage}
use Rattle.tx_engine.specs.Retire.{AnswersRetire, RetireExits, RetireRises, RetireTables, RetiresAs, retire_refusal}
use Rattle.tx_engine.specs.LastWrite.{StepSince}
use Rattle.tx_engine.specs.Settling.{CollectFails, HasTables, settlement_of, with_settlement}
use Rattle.tx_engine.specs.DeviceState.{DeviceState, limits_of}
use Rattle.array_machine.specs.Step.{AbortsAs, StepsAs}
use Rattle.array_machine.specs.Submit.{Submits}
use Rattle.tx_engine.specs.Writing.{BringsPage, StepNotes, next_of, open_of}
use Rattle.tx_engine.specs.declared.device.MountError.{MountError}
use Rattle.tx_engine.specs.declared.device.retire.RetireError.{RetireError}

-- A transaction was opened, or refused. All stays but the array machine, the names, and the pins of what is opened.
pub record SubmitsDevice {F : Type 0} (old new : DeviceState F) (tag : ℕ) (writes : List PageWrite)
    (result : Result (Unit {0}) SubmitError) : Type 0 where
  pub submits : Submits (limits_of old.config) (is_spent old.noted.mentions) old.machine new.machine
      tag writes result
  pub named : new.namings ≡ named_after old.noted writes result old.namings
  pub keeps : KeepsTables old new

-- A flash was mounted, or it comes back as it was.
pub record MountsDevice {F : Type 0} (state : F → FlashState) (flash : F) (its : Config)
    (result : Result (DeviceState F) (F × MountError)) : Type 0 where
  pub mounted : IfOk result (Mounts state flash its)
  pub failed : IfErr result (λ e. FailsToMount state flash its e.0 e.1)
  pub reads : IfErr result (λ e. ReadsUnmounted state flash its e.0 e.1)
  pub started : IfErr result (λ e. (state e.0).started ≡ (state flash).started)

-- A transaction went on by a page, or a fault was met.
pub record StepsDevice {F : Type 0} (state : F → FlashState) (old new : DeviceState F) (tag : ℕ)
    (result : Result Progress StepError) : Type 0 where
  pub steps : StepsAs (is_there state old) old.machine new.machine tag result
  pub exits : Exits state old new (is_step_fault result)
  pub rises : StepRises (is_there state old) old new tag result
  pub sure : OnOk result (new.unsure ≡ unsure.Nothing)
  pub unknown : result ≡ Err error.Unknown → new ≡ old
  pub costs : CostsStep state old new tag
  -- What it did with the next page, by the tables that are known once the place was read whose contents were not known:
  -- nothing where its record is there, and else the record is written.
  pub found : IfSome (next_of old tag) (λ name.
      IsThere (settlement_of state old).noted name →
      moment_of (state new.flash) ≡ moment_of (state old.flash))
  pub brings : OnOk result (IfSome (open_of old tag) (λ (e, x). BringsPage state old new e x))
  pub fresh : StepNotes state old new tag result
  -- Where it failed: the place could not be read, or the writing of the record broke off, and the blocks are as they
  -- were known then.
  pub failed : result ≡ Err error.Fault → StepBreaks state old new tag
  -- What it did last: nothing, or the program of the record, by the tables that are known once the place was read.
  pub since : result ≢ Err error.Unknown →
      StepSince state old (with_settlement state old) new tag (is_step_fault result)

-- A transaction was given up, or it was too late for that, or a fault was met.
pub record AbortsDevice {F : Type 0} (state : F → FlashState) (old new : DeviceState F) (tag : ℕ)
    (result : Result Aborted StepError) : Type 0 where
  pub aborts : AbortsAs (is_there state old) old.machine new.machine tag result
  pub exits : Exits state old new (is_abort_fault result)
  pub moment : moment_of (state new.flash) ≡ moment_of (state old.flash)
  pub rises : AbortRises (is_there state old) old new result
  pub sure : OnOk result (new.unsure ≡ unsure.Nothing)
  pub tables : OnOk result (HasTables (settlement_of state old) new)
  pub reads : OnOk result ((state new.flash).reads
      ≡ counted_times (slots_read old.noted old.unsure) (state old.flash).reads)
  pub unknown : result ≡ Err error.Unknown → new ≡ old
  pub failed : OnErr result (new ≡ record old { flash = new.flash })
  pub first_failed : OnErr result
      (ReadsAtMost (slots_read old.noted old.unsure) (state old.flash).reads (state new.flash).reads)

-- The block with the most garbage was collected, or there was no garbage, or a fault was met.
pub record CollectsDevice {F : Type 0} (state : F → FlashState) (old new : DeviceState F)
    (result : Result Collected Fault) : Type 0 where
  pub collects : CollectsAs (is_there state old) old.machine new.machine result
  pub exits : Exits state old new (is_err result)
  pub rises : CollectRises (is_there state old) old new result
  pub sure : OnOk result (new.unsure ≡ unsure.Nothing)
  -- What it did to the tables that are known once the place is settled, and so to the flash.
  pub tables : IfOk result (CollectsTables (state old.flash) (state new.flash)
      (settlement_of state old).noted new.noted (settlement_of state old).table new.table)
  pub failed : OnErr result (CollectFails state old new)
  pub breaks : OnErr result (CollectBreaks state old new)
  pub nothing : result ≡ Ok collected.Nothing →
      HasNothingToCollect old.config.protocol old.config.logical (state new.flash).image
      new.machine.entries
  pub since : WorksSince state old new (is_err result)

-- all slots of a block are blank
abbrev pub IsBlankBlock : FlashState → IndexState → ℕ → Type 0
IsBlankBlock s n block = AllOfBlock n block (λ slot. slot_at s.image slot ≡ blank)

-- A block was replaced by a fresh one, or that was refused, or a fault was met.
pub record RetiresDevice {F : Type 0} (state : F → FlashState) (old new : DeviceState F) (block : ℕ)
    (result : Result (Unit {0}) RetireError) : Type 0 where
  pub refusal : AnswersRetire
      (retire_refusal (state old.flash).shape (state old.flash).extras block) old new result
  pub retires : RetiresAs (is_there state old) old.machine new.machine result
  pub exits : RetireExits state old new block result
  pub rises : RetireRises (is_there state old) old new result
  pub sure : OnOk result (new.unsure ≡ unsure.Nothing)
  -- What it did to the tables that are known once the place was read.
  pub tables : RetireTables state old new block result
  pub blank : OnOk result (IsBlankBlock (state new.flash) new.noted block)
  pub told : OnOk result
      ((state new.flash).extras ≡ option_map one_more (state old.flash).extras)

-- A page was read as the array has it, or a fault was met. Only the flash may have changed.
pub record ReadsDevice {F : Type 0} (state : F → FlashState) (old new : DeviceState F) (page : ℕ)
    (before into : List ℕ) (result : Result ReadAnswer ReadError) : Type 0 where
  pub reads : ReadsPage old.config.logical old.machine.pages page into result
  pub flash : ReadsFlash state (read_place old.noted old.unsure page) old.flash new.flash before
      into result
  pub moment : moment_of (state new.flash) ≡ moment_of (state old.flash)
  pub carries : Carries (state old.flash) (state new.flash) (is_read_fault result)
  pub stays : new ≡ record old { flash = new.flash }

-- The numbers of a device: those of its array machine, of its flash, and the garbage slots outside the spare.
pub record TellsDevice {F : Type 0} (state : F → FlashState) (s : DeviceState F)
    (told : Stats) : Type 0 where
  pub machine : TellsStats s.machine told
  pub programs : told.programs ≡ (state s.flash).programs
  pub erases : told.erases ≡ (state s.flash).erases
  pub garbage : told.garbage ≡ sum_by (garbage_in s.noted s.table)
      (range_with_len 0 (blocks_of (shape_of s.config)))

-- The flash of a device was armed, and nothing else changed.
pub record ArmsDevice {F : Type 0} (old new : DeviceState F) (Armed : Type 0) : Type 0 where
  pub arms : Armed
  pub stays : new ≡ record old { flash = new.flash }

-- What a flash shows is as before, and nothing else of the device changed.
pub record FlushesDevice {F : Type 0} (state : F → FlashState) (old new : DeviceState F) : Type 0 where
  pub same : state new.flash ≡ state old.flash
  pub stays : new ≡ record old { flash = new.flash }
