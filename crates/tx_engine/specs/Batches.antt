-- Several programs at once: which open transactions go on with one each, in which slots, and what that leaves.
use Rattle.std.specs.Prelude.{◌≡◌, ◌≢◌, ◌⊎◌, ℕ, ◌&&◌, Bool, true, List, [], ◌∷◌, ◌++◌, length, map, take, take_while, filter_map}
use Rattle.std.specs.Prelude.{is_none, not, Result, Ok, IfOk, OnErr, if◌then◌else◌}
use Rattle.std.specs.List.{zip, flat_map, range_with_len}
use Rattle.tx_types.specs.Batch.{PageWrite, bytes_in}
use Rattle.tx_types.specs.declared.config.Protocol.{Protocol}
use Rattle.tx_types.specs.declared.config.Shape.{Shape}
use Rattle.tx_types.specs.declared.config.Slot.{Slot}
use Rattle.tx_types.specs.declared.record.Rec.{Rec}
use Rattle.flash_model.specs.Calls.{Carries}
use Rattle.flash_model.specs.declared.outcome.Outcome.{Outcome}
use Rattle.flash_model.specs.Flash.{FlashState, Contents, counted_times}
use Rattle.flash_model.specs.Moves.{Does, FlashMovesTogether}
use Rattle.flash_model.specs.Operations.{BreaksIn, Load, fire, left_each, moment_of}
use Rattle.page_record.specs.Spelling.{spelling}
use Rattle.record_list.specs.Records.{is_present}
use Rattle.record_list.specs.Transaction.{back_version}
use Rattle.judged_records.specs.Images.{IsSoundImage, array_in}
use Rattle.judged_records.specs.Notes.{found_in}
use Rattle.judged_records.specs.IndexState.{IndexState, block_to_go, programmed}
use Rattle.die_alloc.specs.BlocksState.{BlocksState, with_slot}
use Rattle.die_alloc.specs.NextSlot.{next_slot_in}
use Rattle.collector.specs.Settling.{slots_read}
use Rattle.collector.specs.declared.unsure.Unsure.TheVariants as unsure
use Rattle.array_machine.specs.Batches.{StepsAllAs, CutLeavesEach, MayTakeEach}
use Rattle.array_machine.specs.declared.answers.Fault.{Fault}
use Rattle.array_machine.specs.declared.answers.Moved.{Moved}
use Rattle.array_machine.specs.declared.answers.Progress.{Progress}
use Rattle.array_machine.specs.ArrayState.{Entry, Pages, idle, put}
use Rattle.tx_engine.specs.DeviceCalls.{StepsDevice}
use Rattle.tx_engine.specs.Exits.{ExitsTogether, MentionsAtMost, VersionsRise, is_there, plain_writes, settled_writes}
use Rattle.tx_engine.specs.Held.{AddsNoHeldIn}
use Rattle.tx_engine.specs.LastWrite.{StepSince}
use Rattle.open_table.specs.OpenTransactionsState.{TransactionState, name_at, write_at}
use Rattle.tx_engine.specs.Settling.{is_at_last, is_whole, link_place, with_settlement}
use Rattle.tx_engine.specs.DeviceState.{DeviceState}
use Rattle.array_machine.specs.Step.{settled, IsAtLast}
use Rattle.tx_engine.specs.Writing.{WritesNothing}
use Rattle.tx_engine.specs.declared.jobs.Job.{Job}

-- the open transactions of a device, each with the names that it writes, in the order of their opening
abbrev pub transactions_of : {F : Type 0} → DeviceState F → List TransactionState
transactions_of s = map (λ (e, x). record { entry = e; naming = x }) (zip s.machine.entries s.namings)

-- the record that a transaction writes next
abbrev pub record_due : IndexState → TransactionState → Rec
record_due n o =
    let name = name_at o.naming o.entry.done in
    record {
      page = name.page;
      version = name.version;
      next = name_at o.naming (link_place o.entry);
      back = back_version n.config.protocol (found_in n.notes) n.config.logical name.page;
      count = length o.entry.writes;
      discard = is_none (write_at o.entry o.entry.done).value;
    }

-- a transaction is not whole, the record of its next page is not there, and none must go before
abbrev pub is_ready : IndexState → TransactionState → Bool
is_ready n o =
    let name = name_at o.naming o.entry.done in
    (not (is_whole o.entry.mark) && not (is_present (found_in n.notes) name))
    && is_none (block_to_go n name.page name.version)

-- the slots that are programmed next in these dies, of those that have room
abbrev pub slots_next : BlocksState → List ℕ → List Slot
slots_next t dies = filter_map (next_slot_in t) dies

-- The first transactions that are ready, each with the slot of a die of its own: the first one in the lowest die that
-- has room, and as many as there are such dies at most.
abbrev pub chosen_from : IndexState → BlocksState → List ℕ → List TransactionState → List (Slot × TransactionState)
chosen_from n t dies os = zip (slots_next t dies) (take_while (is_ready n) os)

abbrev pub chosen_in : IndexState → BlocksState → List TransactionState → List (Slot × TransactionState)
chosen_in n t os = chosen_from n t (range_with_len 0 t.shape.dies) os

-- those of a device, by the tables that are known once the place was read whose contents were not known
abbrev pub chosen_of : {F : Type 0} → (F → FlashState) → DeviceState F → List (Slot × TransactionState)
chosen_of state s =
    let known = with_settlement state s in
    chosen_in known.noted known.table (transactions_of
    (record known { machine = settled (is_there state s) s.machine }))

-- the program of a transaction's next page in a slot: the slot and the record
abbrev pub jobs_of : IndexState → List (Slot × TransactionState) → List Job
jobs_of n chosen = map (λ (at, o). record { slot = at; rec = record_due n o }) chosen

-- the program of a transaction's next page in a slot, with all that is programmed
abbrev pub load_due : IndexState → Slot → TransactionState → Load
load_due n at o = record {
  at = at.0;
  bytes = bytes_in n.config.page_bytes (write_at o.entry o.entry.done);
  spare_area = spelling n.config.protocol (record_due n o);
}

abbrev pub loads_of : IndexState → List (Slot × TransactionState) → List Load
loads_of n chosen = map (λ (at, o). load_due n at o) chosen

-- each of these records is noted
abbrev pub noted_each : IndexState → List Job → IndexState
noted_each n [] = n
noted_each n (job ∷ jobs) = noted_each (programmed n job.slot.0 job.rec) jobs

-- each of their slots is used
abbrev pub used_each : BlocksState → List Job → BlocksState
used_each t [] = t
used_each t (job ∷ jobs) = used_each (with_slot t job.slot.0) jobs

-- what the array takes where a settled transaction goes on by a step: all its pages with the last one
abbrev pub taken_writes : Entry → List PageWrite
taken_writes e = if is_at_last e then plain_writes e else []

-- the array where each of them did, in turn
abbrev pub takes_each : Pages → List Entry → Pages
takes_each pages [] = pages
takes_each pages (e ∷ es) = takes_each (put pages (taken_writes e)) es

-- The chosen transactions were written by one fire, which is all that was done to the flash, and their records are
-- noted. Slots were read to settle alone.
pub record WritesAtOnce {F : Type 0} (state : F → FlashState) (old new : DeviceState F)
    (chosen : List (Slot × TransactionState)) : Type 0 where
  pub does :
      let known = with_settlement state old in
      Does (state old.flash).shape (moment_of (state old.flash)) (fire (loads_of known.noted chosen) ∷ [])
      (moment_of (state new.flash))
  pub noted :
      let known = with_settlement state old in
      new.noted ≡ record (noted_each known.noted (jobs_of known.noted chosen)) { pins = new.noted.pins }
  pub table :
      let known = with_settlement state old in
      new.table ≡ used_each known.table (jobs_of known.noted chosen)
  pub reads : (state new.flash).reads
      ≡ counted_times (slots_read old.noted old.unsure) (state old.flash).reads

-- the first open transaction, if there is one, took a step
abbrev pub StepsFirst : {F : Type 0} → (F → FlashState) → DeviceState F → DeviceState F → Moved → List Entry → Type 0
StepsFirst state old new answer [] = Unit {0}
StepsFirst state old new answer (e ∷ es) =
    (answer.moved ≡ 1) × ((progress : Progress) × StepsDevice state old new e.tag (Ok progress))

-- Whatever each program that is started together leaves of an image: it is sound, and of these transactions each that
-- is at its last page was taken or not, by itself.
pub record MayLeaveEach (protocol : Protocol) (logical : ℕ) (shape : Shape) (image : List Contents)
    (loads : List Load) (pages : Pages) (entries : List Entry) : Type 0 where
  pub sound : (hows : List Outcome) → length hows ≡ length loads →
      IsSoundImage protocol logical shape (left_each image loads hows)
  pub array : (hows : List Outcome) → length hows ≡ length loads →
      MayTakeEach pages IsAtLast entries (array_in protocol logical (left_each image loads hows))

-- so it is of the chosen transactions of a device, once its state settled
abbrev pub ChosenMayLeave : {F : Type 0} → (F → FlashState) → DeviceState F → Type 0
ChosenMayLeave state old =
    MayLeaveEach old.config.protocol old.config.logical (state old.flash).shape (state old.flash).image
    (loads_of (with_settlement state old).noted (chosen_of state old))
    (settled (is_there state old) old.machine).pages old.machine.entries

-- Open transactions went on, as many as it says. Where some were chosen, all of them and no others were written at
-- once; where none was, the first one took a step.
pub record MovesDevice {F : Type 0} (state : F → FlashState) (old new : DeviceState F)
    (answer : Moved) : Type 0 where
  pub steps : StepsAllAs (is_there state old) old.machine new.machine answer
  pub exits : ExitsTogether state old new
  pub sure : new.unsure ≡ unsure.Nothing
  pub rises : VersionsRise old new (settled_writes (is_there state old) old.machine
      ++ flat_map taken_writes (take answer.moved (settled (is_there state old) old.machine).entries))
  pub together : chosen_of state old ≢ [] →
      (answer.moved ≡ length (chosen_of state old)) × WritesAtOnce state old new (chosen_of state old)
  pub alone : chosen_of state old ≡ [] → StepsFirst state old new answer old.machine.entries
  pub nothing : old.machine.entries ≡ [] →
      (moment_of (state new.flash) ≡ moment_of (state old.flash)) × WritesNothing state old new
  pub leaves : chosen_of state old ≢ [] → ChosenMayLeave state old

-- A fault was met, and the device is not used any more. The image is sound, and its array is what a cut may leave.
-- Where some transactions were chosen, nothing was done to the flash but their fire, if it was started.
pub record DropsDevice {F : Type 0} (state : F → FlashState) (old new : DeviceState F) : Type 0 where
  pub dropped : new.dropped ≡ true
  pub config : new.config ≡ old.config
  pub sound : IsSoundImage old.config.protocol old.config.logical (state new.flash).shape
      (state new.flash).image
  pub array : CutLeavesEach old.machine
      (idle (array_in old.config.protocol old.config.logical (state new.flash).image))
  pub mentions : MentionsAtMost old.noted old.namings (state new.flash).image
  pub held : AddsNoHeldIn old.config.protocol old.config.logical (state old.flash).image (state new.flash).image
  pub moves : FlashMovesTogether (state old.flash) (state new.flash) true
  pub carries : Carries (state old.flash) (state new.flash) true
  pub torn : chosen_of state old ≢ [] →
      (moment_of (state new.flash) ≡ moment_of (state old.flash))
      ⊎ BreaksIn (state old.flash).shape (moment_of (state old.flash))
      (fire (loads_of (with_settlement state old).noted (chosen_of state old)))
      (moment_of (state new.flash))
  -- Nothing was done, or this fire was tried. Where none was chosen a step was broken off.
  pub leaves : chosen_of state old ≢ [] →
      (moment_of (state new.flash) ≡ moment_of (state old.flash)) ⊎ ChosenMayLeave state old
  pub alone : chosen_of state old ≡ [] →
      (moment_of (state new.flash) ≡ moment_of (state old.flash))
      ⊎ ((tag : ℕ) × StepSince state old (with_settlement state old) new tag true)

-- Open transactions of a device went on together, or a fault was met.
pub record StepsAllDevice {F : Type 0} (state : F → FlashState) (old new : DeviceState F)
    (result : Result Moved Fault) : Type 0 where
  pub moves : IfOk result (MovesDevice state old new)
  pub dropped : OnErr result (DropsDevice state old new)
