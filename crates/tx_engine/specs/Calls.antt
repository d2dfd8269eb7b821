-- What the calls of a device among themselves ask for and do: each has one clause.
use Rattle.std.specs.Prelude.{◌≡◌, ◌≢◌, ◌↔◌, ◌<◌, ℕ, false, None, is_none, List, length, map, remove, All, Contains, Result, Ok, IfOk, OnOk, OnErr}
use Rattle.std.specs.Result.{is_err}
use Rattle.tx_types.specs.declared.config.Protocol.{Protocol}
use Rattle.tx_types.specs.declared.record.Link.{Link}
use Rattle.tx_types.specs.declared.config.Slot.{Slot}
use Rattle.tx_types.specs.declared.record.Rec.{Rec}
use Rattle.flash_model.specs.declared.flash.Broken.{Broken}
use Rattle.flash_model.specs.Flash.{FlashState, counted_times}
use Rattle.flash_model.specs.Operations.{moment_of}
use Rattle.record_list.specs.Records.{name_of}
use Rattle.record_list.specs.Transaction.{back_version}
use Rattle.judged_records.specs.Notes.{found_in}
use Rattle.judged_records.specs.IndexState.{IndexState, block_to_go, current_of, mention_of, pinned_names}
use Rattle.die_alloc.specs.BlocksState.{IsFull}
use Rattle.collector.specs.declared.unsure.Unsure.TheVariants as unsure
use Rattle.collector.specs.BreakingOff.{RoomBreaksOff}
use Rattle.collector.specs.Calls.{EvictsBlocksToGo, AllocatesSlot}
use Rattle.collector.specs.Looking.{ReadsAtMost}
use Rattle.collector.specs.Preserves.{IsThere, Preserves}
use Rattle.collector.specs.Settling.{settlement, slots_read}
use Rattle.collector.specs.StoreParts.{IsSure, StoreParts}
use Rattle.array_machine.specs.declared.answers.Collected.{Collected}
use Rattle.array_machine.specs.declared.answers.Collected.TheVariants as collected
use Rattle.array_machine.specs.declared.answers.Progress.{Progress}
use Rattle.array_machine.specs.declared.answers.Progress.TheVariants as progress
use Rattle.tx_engine.specs.Breaking.{WritingBreaks}
use Rattle.tx_engine.specs.Collections.{CollectsTables, HasNothingToCollect}
use Rattle.tx_engine.specs.Costs.{StepCosts}
use Rattle.tx_engine.specs.Exits.{Exits, is_there}
use Rattle.tx_engine.specs.LastWrite.{StepWorks}
use Rattle.open_table.specs.OpenTransactionsState.{OpenTransactionsState, HasLimitsOf, HasPlace, IsDueAt, bytes_due, entries_of, name_due, transaction_at, with_done, with_transaction, name_at, write_at}
use Rattle.tx_engine.specs.Settling.{AddsOnly, Advances, AdvanceRises, Counts, CountsOn, IsLeft, IsSettled, WriteFails, WritesNext, link_place, with_next}
use Rattle.tx_engine.specs.DeviceState.{Stands}
use Rattle.tx_engine.specs.StoreState.{StoreState, CanWrite, store_in}
use Rattle.tx_engine.specs.Tables.{device_in}
use Rattle.tx_engine.specs.Writing.{TakesSlot, WritesRecord, due_record}

-- A settled device: it stands, under the rule of this protocol, and no place is unsure.
pub record IsReady {F : Type 0} (state : F → FlashState) (p : Protocol) (S : StoreState F)
    (O : OpenTransactionsState) : Type 0 where
  pub stands : Stands state (device_in state S O)
  pub rule : S.noted.config.protocol ≡ p
  pub sure : S.unsure ≡ unsure.Nothing

-- An open transaction of it may go on: its pages are as long as those of the flash.
pub record CanAdvance {F : Type 0} (state : F → FlashState) (p : Protocol) (S : StoreState F)
    (O : OpenTransactionsState) (i : ℕ) : Type 0 where
  pub ready : IsReady state p S O
  pub at : i < length O.all
  pub size : O.page_bytes ≡ S.noted.config.page_bytes

-- An open transaction of it may be closed.
pub record CanClose {F : Type 0} (state : F → FlashState) (p : Protocol) (S : StoreState F)
    (O : OpenTransactionsState) (i : ℕ) : Type 0 where
  pub ready : IsReady state p S O
  pub at : i < length O.all

-- An open transaction of it goes on without the flash.
pub record CanCount {F : Type 0} (state : F → FlashState) (p : Protocol) (S : StoreState F)
    (O : OpenTransactionsState) (i : ℕ) : Type 0 where
  pub ready : IsReady state p S O
  pub at : i < length O.all
  pub counts : CountsOn (transaction_at O i)

-- The next page of an open transaction of it is to be written.
pub record IsReadyFor {F : Type 0} (state : F → FlashState) (p : Protocol) (S : StoreState F)
    (O : OpenTransactionsState) (i : ℕ) : Type 0 where
  pub ready : IsReady state p S O
  pub due : IsDueAt O i

-- and it is as long as those of the flash
pub record CanWriteNext {F : Type 0} (state : F → FlashState) (p : Protocol) (S : StoreState F)
    (O : OpenTransactionsState) (i : ℕ) : Type 0 where
  pub ready : IsReady state p S O
  pub due : IsDueAt O i
  pub size : O.page_bytes ≡ S.noted.config.page_bytes

-- and no record must go before
pub record IsClearFor {F : Type 0} (state : F → FlashState) (p : Protocol) (S : StoreState F)
    (O : OpenTransactionsState) (i : ℕ) : Type 0 where
  pub ready : IsReady state p S O
  pub due : IsDueAt O i
  pub clear : block_to_go S.noted (name_due O i).page (name_due O i).version ≡ None

-- The next record of an open transaction may be programmed with its page.
pub record CanProgram (p : Protocol) (a : StoreParts) (O : OpenTransactionsState) (i : ℕ) (slot : Slot)
    (rec : Rec) : Type 0 where
  pub next : HasPlace O i (transaction_at O i).entry.done
  pub sure : IsSure p a
  pub can : CanWrite a slot rec (bytes_due O i)

-- The pages of an open transaction may be pinned: each has a name, above all mentions of the page.
pub record CanPin (n : IndexState) (O : OpenTransactionsState) (i : ℕ) : Type 0 where
  pub at : i < length O.all
  pub range : All (λ name. name.page < n.config.logical) (transaction_at O i).naming.names
  pub above : All (λ name. mention_of n name.page < name.version) (transaction_at O i).naming.names
  pub named : length (transaction_at O i).naming.names ≡ length (transaction_at O i).entry.writes

-- The pages of an open transaction, each of which has a name, may be pinned no more.
pub record CanUnpin (n : IndexState) (O : OpenTransactionsState) (i : ℕ) : Type 0 where
  pub at : i < length O.all
  pub range : All (λ name. name.page < n.config.logical) (transaction_at O i).naming.names
  pub named : length (transaction_at O i).naming.names ≡ length (transaction_at O i).entry.writes

-- It became known what a broken operation left, and what that makes of the open transactions. After a failed read all
-- is as before but the count of reads.
pub record SettlesDevice {F : Type 0} (state : F → FlashState) (S S' : StoreState F)
    (O O' : OpenTransactionsState) (result : Result (Unit {0}) Broken) : Type 0 where
  pub stands : Stands state (device_in state S' O')
  pub settles : OnOk result (IsSettled (is_there state (device_in state S O))
      (device_in state S O) (device_in state S' O'))
  pub tables : OnOk result (
      let found = settlement S.noted S.table (state S.flash).image S.unsure in
      (S'.noted ≡ found.noted) × (S'.table ≡ found.table))
  pub failed : OnErr result ((S' ≡ record S { flash = S'.flash }) × (O' ≡ O))
  pub idle : S.unsure ≡ unsure.Nothing → (is_err result ≡ false) × (S' ≡ S) × (O' ≡ O)
  pub limits : HasLimitsOf O O'
  pub exits : Exits state (device_in state S O) (device_in state S' O') (is_err result)
  pub moment : moment_of (state S'.flash) ≡ moment_of (state S.flash)
  pub reads : OnOk result ((state S'.flash).reads
      ≡ counted_times (slots_read S.noted S.unsure) (state S.flash).reads)
  pub first_failed : OnErr result
      (ReadsAtMost (slots_read S.noted S.unsure) (state S.flash).reads (state S'.flash).reads)
  pub names : map (λ o. o.naming.names) O'.all ≡ map (λ o. o.naming.names) O.all

-- A settled device collected, or found nothing to collect.
pub record CollectsSettled {F : Type 0} (state : F → FlashState) (S S' : StoreState F) (O : OpenTransactionsState)
    (result : Result Collected Broken) : Type 0 where
  pub left : IsLeft state (device_in state S O) (device_in state S' O) (is_err result)
  pub tables : IfOk result
      (CollectsTables (state S.flash) (state S'.flash) S.noted S'.noted S.table S'.table)
  pub stays : OnErr result (S'.table ≡ S.table)
  pub broken : OnErr result
      (RoomBreaksOff S.noted S.table (state S.flash) (state S'.flash) S'.noted S'.unsure)
  pub sure : OnOk result (S'.unsure ≡ unsure.Nothing)
  pub nothing : result ≡ Ok collected.Nothing →
      HasNothingToCollect S'.noted.config.protocol S'.noted.config.logical
      (state S'.flash).image (entries_of O)

-- The records went that had to before this name is programmed.
pub record ClearsFor {F : Type 0} (state : F → FlashState) (p : Protocol) (S S' : StoreState F)
    (O : OpenTransactionsState) (name : Link) (result : Result (Unit {0}) Broken) : Type 0 where
  pub left : IsLeft state (device_in state S O) (device_in state S' O) (is_err result)
  pub clears : EvictsBlocksToGo p (store_in state S) (store_in state S') name.page name.version result
  pub idle : block_to_go S.noted name.page name.version ≡ None →
      (is_err result ≡ false) × (S' ≡ S)

-- A slot was found for this name. Where a block has room the flash stays.
pub record FindsFor {F : Type 0} (state : F → FlashState) (p : Protocol) (S S' : StoreState F)
    (O : OpenTransactionsState) (name : Link) (result : Result Slot Broken) : Type 0 where
  pub left : IsLeft state (device_in state S O) (device_in state S' O) (is_err result)
  pub finds : AllocatesSlot p (store_in state S) (store_in state S') result
  pub clear : block_to_go S'.noted name.page name.version ≡ None
  pub direct : (IsFull S.table → ⊥) → (is_err result ≡ false) × (S'.flash ≡ S.flash)
  pub slot : IfOk result (TakesSlot S.noted S.table S'.noted S'.table)

-- The next record of a transaction: it has the name of the next page, and is linked to the name after it, or to the
-- first one.
pub record IsRecordDue (n : IndexState) (O : OpenTransactionsState) (at : ℕ) (rec : Rec) : Type 0 where
  pub named : name_of rec ≡ name_due O at
  pub next : rec.next ≡ name_at (transaction_at O at).naming (link_place (transaction_at O at).entry)
  pub back : rec.back ≡ back_version n.config.protocol (found_in n.notes) n.config.logical rec.page
  pub counts : rec.count ≡ length (transaction_at O at).entry.writes
  pub discard : rec.discard
      ≡ is_none (write_at (transaction_at O at).entry (transaction_at O at).entry.done).value

-- The next page of a transaction was written, and its record is noted. Where it was not the transaction may be in
-- doubt.
pub record WritesPage {F : Type 0} (state : F → FlashState) (S S' : StoreState F) (O O' : OpenTransactionsState)
    (at : ℕ) (result : Result (Unit {0}) Broken) : Type 0 where
  pub stands : Stands state (device_in state S' O')
  pub written : OnOk result
      (WritesNext (device_in state S O) (device_in state S' O') (transaction_at O at).entry)
  pub next : OnOk result (O' ≡ with_transaction O at (with_next (transaction_at O at)))
  pub sure : OnOk result (S'.unsure ≡ unsure.Nothing)
  pub failed : OnErr result
      (WriteFails (device_in state S O) (device_in state S' O') O O' at)
  pub exits : Exits state (device_in state S O) (device_in state S' O') (is_err result)
  pub costs : StepCosts state (device_in state S O) (device_in state S' O')
      (name_due O at)
  pub writes : OnOk result (WritesRecord state (device_in state S O) (device_in state S' O')
      (due_record S.noted.config.page_bytes (transaction_at O at).entry (transaction_at O at).naming))
  pub fresh : OnOk result (AddsOnly
      (name_due O at) S.noted S'.noted)
  pub breaks : OnErr result (WritingBreaks state (device_in state S O) (device_in state S' O')
      (name_due O at))
  pub since : StepWorks state (device_in state S O) (device_in state S' O') (transaction_at O at).entry
      (transaction_at O at).naming (is_err result)

-- what is open where the transaction at an index counted a page, or was whole and went
abbrev pub counted_on : OpenTransactionsState → ℕ → Progress → OpenTransactionsState
counted_on O i (progress.Wrote done all) = with_transaction O i (with_done (transaction_at O i) done)
counted_on O i progress.Done = record O { all = remove O.all i }

-- A transaction went on by a page that is noted, or it was whole and is done. The flash stays.
pub record CountsNext {F : Type 0} (state : F → FlashState) (S S' : StoreState F) (O O' : OpenTransactionsState)
    (at : ℕ) (progress : Progress) : Type 0 where
  pub stands : Stands state (device_in state S' O')
  pub counts : Counts (device_in state S O).machine (transaction_at O at).entry.tag
      (transaction_at O at).entry progress (device_in state S' O').machine
  pub exits : Exits state (device_in state S O) (device_in state S' O') false
  pub versions : (page : ℕ) → current_of S'.noted page ≡ current_of S.noted page
  pub stays : S' ≡ record S { noted = record S.noted { pins = S'.noted.pins } }
  pub sure : S'.unsure ≡ unsure.Nothing
  pub limits : HasLimitsOf O O'
  pub opens : O' ≡ counted_on O at progress

-- A transaction of a settled device went on: its next page was written where it was not noted, and counted.
pub record AdvancesTo {F : Type 0} (state : F → FlashState) (S S' : StoreState F) (O O' : OpenTransactionsState)
    (at : ℕ) (result : Result Progress Broken) : Type 0 where
  pub stands : Stands state (device_in state S' O')
  pub advances : Advances (device_in state S O).machine (transaction_at O at).entry.tag
      (transaction_at O at).entry result (device_in state S' O').machine
  pub exits : Exits state (device_in state S O) (device_in state S' O') (is_err result)
  pub rises : AdvanceRises (device_in state S O) (device_in state S' O')
      (transaction_at O at).entry result
  pub sure : OnOk result (S'.unsure ≡ unsure.Nothing)
  pub limits : HasLimitsOf O O'
  pub costs : StepCosts state (device_in state S O) (device_in state S' O')
      (name_due O at)
  pub found : IsThere S.noted (name_due O at) →
      S' ≡ record S { noted = record S.noted { pins = S'.noted.pins } }
  pub writes : OnOk result (
      (IsThere S.noted (name_due O at) → ⊥) →
      WritesRecord state (device_in state S O) (device_in state S' O')
      (due_record S.noted.config.page_bytes (transaction_at O at).entry (transaction_at O at).naming))
  pub fresh : OnOk result (AddsOnly
      (name_due O at) S.noted S'.noted)
  pub kept : OnErr result (Preserves S.noted S'.noted)
  pub breaks : OnErr result (WritingBreaks state (device_in state S O) (device_in state S' O')
      (name_due O at))
  pub since : StepWorks state (device_in state S O) (device_in state S' O') (transaction_at O at).entry
      (transaction_at O at).naming (is_err result)

-- The pages of a transaction are pinned no more.
pub record Unpins {F : Type 0} (S S' : StoreState F) (names : List Link) : Type 0 where
  pub pins : S' ≡ record S { noted = record S.noted { pins = S'.noted.pins } }
  pub pages : length S'.noted.pins ≡ length S.noted.pins
  pub gone : (name : Link) → Contains (pinned_names S'.noted.pins) name
      ↔ (Contains (pinned_names S.noted.pins) name × All (λ own. own.page ≢ name.page) names)

-- A transaction went, and its pages are pinned no more.
pub record Closes {F : Type 0} (state : F → FlashState) (S S' : StoreState F) (O O' : OpenTransactionsState)
    (at : ℕ) : Type 0 where
  pub stands : Stands state (device_in state S' O')
  pub gone : O' ≡ record O { all = remove O.all at }
  pub pins : S' ≡ record S { noted = record S.noted { pins = S'.noted.pins } }
