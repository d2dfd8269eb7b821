-- Settling a device, and noting the next record of an open transaction.
use Rattle.std.specs.Prelude.{◌≡◌, ◌⊎◌, ℕ, ◌+◌, ◌<◌, ◌==◌, ◌&&◌, not, Bool, true, false, List, [], length, Some, Result, Ok, Err, if◌then◌else◌}
use Rattle.tx_types.specs.Batch.{PageWrite}
use Rattle.tx_types.specs.declared.record.Link.{Link}
use Rattle.flash_model.specs.Flash.{FlashState}
use Rattle.flash_model.specs.Operations.{moment_of}
use Rattle.flash_model.specs.declared.flash.Broken.{Broken}
use Rattle.collector.specs.Looking.{ReadsAtMost}
use Rattle.collector.specs.Preserves.{IsThere, Preserves}
use Rattle.collector.specs.Settling.{Settlement, settlement, slots_read}
use Rattle.collector.specs.declared.unsure.Unsure.TheVariants as unsure
use Rattle.array_machine.specs.ArrayState.{ArrayState, Entry, put, with_entry, without}
use Rattle.array_machine.specs.declared.mark.Mark.TheVariants.{Plain, Doubt, Whole}
use Rattle.array_machine.specs.declared.mark.Mark.{Mark}
use Rattle.array_machine.specs.declared.answers.Progress.{Progress}
use Rattle.array_machine.specs.declared.answers.Progress.TheVariants as progress
use Rattle.open_table.specs.OpenTransactionsState.{OpenTransactionsState, TransactionState, transaction_at, with_transaction, with_mark, with_noted_count, name_at}
use Rattle.judged_records.specs.IndexState.{IndexState, current_of}
use Rattle.tx_engine.specs.Exits.{Exits, VersionsRise, WorksSince, settled_writes, done_writes}
use Rattle.tx_engine.specs.DeviceState.{DeviceState, Stands}
use Rattle.array_machine.specs.Step.{settled, IsAtLast, GoesOn}

-- what is known of a device once the place was read whose contents are not known
abbrev pub settlement_of : {F : Type 0} → (F → FlashState) → DeviceState F → Settlement
settlement_of state s = settlement s.noted s.table (state s.flash).image s.unsure

-- a device with the tables that are known then
abbrev pub with_settlement : {F : Type 0} → (F → FlashState) → DeviceState F → DeviceState F
with_settlement state s =
    record s { noted = (settlement_of state s).noted; table = (settlement_of state s).table }

-- A device has the tables that are known then, save for what is pinned.
pub record HasTables {F : Type 0} (found : Settlement) (s : DeviceState F) : Type 0 where
  pub noted : s.noted ≡ record found.noted { pins = s.noted.pins }
  pub table : s.table ≡ found.table

-- The place could not be read: all is as before but the flash. Nothing was programmed or erased, and no more slots were
-- read than the place has.
pub record StaysUnread {F : Type 0} (state : F → FlashState) (old new : DeviceState F) : Type 0 where
  pub stays : new ≡ record old { flash = new.flash }
  pub moment : moment_of (state new.flash) ≡ moment_of (state old.flash)
  pub reads : ReadsAtMost (slots_read old.noted old.unsure) (state old.flash).reads
      (state new.flash).reads

-- no record is noted of a name that had none, but for this name
abbrev pub AddsOnly : Link → IndexState → IndexState → Type 0
AddsOnly own old new = (name : Link) → IsThere new name → IsThere old name ⊎ (name ≡ own)

-- one record more of a transaction is noted: with its last one it is whole
abbrev pub with_next : TransactionState → TransactionState
with_next o =
    if o.naming.noted_count + 1 == length o.entry.writes
    then with_mark (with_noted_count o (o.naming.noted_count + 1)) Whole
    else with_noted_count o (o.naming.noted_count + 1)

-- whether the transaction writes this page next
abbrev pub is_writing : ℕ → TransactionState → Bool
is_writing page o = (name_at o.naming o.entry.done).page == page

-- A device that settled: the array machine did, the versions rose that it takes in, and nothing is unsure.
pub record IsSettled {F : Type 0} (there : Bool) (old new : DeviceState F) : Type 0 where
  pub machine : new.machine ≡ settled there old.machine
  pub rises : VersionsRise old new (settled_writes there old.machine)
  pub sure : new.unsure ≡ unsure.Nothing

-- What making room leaves: the device stands for the same array, no version changed, and what is noted is kept.
pub record IsLeft {F : Type 0} (state : F → FlashState) (old new : DeviceState F)
    (broken : Bool) : Type 0 where
  pub stands : Stands state new
  pub machine : new.machine ≡ old.machine
  pub exits : Exits state old new broken
  pub versions : (page : ℕ) → page < old.config.logical →
      current_of new.noted page ≡ current_of old.noted page
  pub kept : Preserves old.noted new.noted
  pub since : WorksSince state old new broken

-- whether the transaction writes its last page next
abbrev pub is_at_last : Entry → Bool
is_at_last e = e.done + 1 == length e.writes

-- the place of the name that a transaction links its next record to: the next name, or the first one
abbrev pub link_place : Entry → ℕ
link_place e = if is_at_last e then 0 else e.done + 1

-- what the array takes with the next page of a transaction: all its pages with the last one
abbrev pub next_writes : Entry → List PageWrite
next_writes e = if is_at_last e then e.writes else []

-- The next page of a transaction was written: the array has all its pages with the last one.
pub record WritesNext {F : Type 0} (old new : DeviceState F) (e : Entry) : Type 0 where
  pub pages : new.machine.pages ≡ put old.machine.pages (next_writes e)
  pub rises : VersionsRise old new (next_writes e)

-- It was not: the array is as it was, and the transaction may be in doubt where its last page was being written.
pub record WriteFails {F : Type 0} (old new : DeviceState F) (before after : OpenTransactionsState)
    (at : ℕ) : Type 0 where
  pub pages : new.machine.pages ≡ old.machine.pages
  pub rises : VersionsRise old new []
  pub kept : Preserves old.noted new.noted
  pub opens : (after ≡ before)
      ⊎ (IsAtLast (transaction_at before at).entry
      × (after ≡ with_transaction before at (with_mark (transaction_at before at) Doubt)))

-- How an open transaction of a settled device goes on: it writes a page or is done, or a fault leaves it plain, or in
-- doubt.
abbrev pub Advances : ArrayState → ℕ → Entry → Result Progress Broken → ArrayState → Type 0
Advances s tag e (Ok progress) new = GoesOn s tag e progress new
Advances s tag e (Err broken) new =
    (e.mark ≡ Plain)
    × ((new ≡ s) ⊎
    (IsAtLast e ×
    (new ≡ record s { entries = with_entry tag (record e { mark = Doubt }) s.entries })))

-- which versions rise where it does: those of its pages where it is done and was not whole before
abbrev pub AdvanceRises : {F : Type 0} → DeviceState F → DeviceState F → Entry → Result Progress Broken →
    Type 0
AdvanceRises old new e (Ok progress) = VersionsRise old new (done_writes (Some e) (Ok progress))
AdvanceRises old new e (Err broken) = VersionsRise old new []

abbrev pub is_whole : Mark → Bool
is_whole Plain = false
is_whole Doubt = false
is_whole Whole = true

-- whether the next page of a transaction is to be written: it is not whole, and no record more is noted than pages were
-- written
abbrev pub must_program : TransactionState → Bool
must_program o = not (is_whole o.entry.mark) && (o.naming.noted_count == o.entry.done)

-- a transaction goes on without the flash: it is whole, or its next page is noted
abbrev pub CountsOn : TransactionState → Type 0
CountsOn o = (o.entry.mark ≡ Whole) ⊎ ((o.entry.mark ≡ Plain) × (o.entry.done < o.naming.noted_count))

-- It goes on so: a page more is written, or it was whole and is done.
abbrev pub Counts : ArrayState → ℕ → Entry → Progress → ArrayState → Type 0
Counts s tag e (progress.Wrote done all) new = GoesOn s tag e (progress.Wrote done all) new
Counts s tag e progress.Done new =
    (e.mark ≡ Whole) × (new ≡ record s { entries = without tag s.entries })

-- A collection that failed: the place could not be read; or the blocks are as they were known then, and what was noted
-- then is kept.
abbrev pub CollectFails : {F : Type 0} → (F → FlashState) → DeviceState F → DeviceState F → Type 0
CollectFails state old new =
    StaysUnread state old new
    ⊎ ((new.table ≡ (settlement_of state old).table)
    × Preserves (settlement_of state old).noted new.noted)
