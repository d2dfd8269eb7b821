-- What a step writes next, what it did with it, and in which slot.
use Rattle.std.specs.Prelude.{false, ◌≡◌, ◌⊎◌, ℕ, [], ◌∷◌, length, None, Option, Some, find, Result, Ok, Err, IfSome}
use Rattle.std.specs.List.{zip}
use Rattle.std.specs.Option.{option_map}
use Rattle.tx_types.specs.declared.config.Slot.{Slot}
use Rattle.tx_types.specs.declared.record.Link.{Link}
use Rattle.tx_types.specs.declared.record.Rec.{Rec}
use Rattle.flash_model.specs.Flash.{FlashState, complete, slot_at, counted_times}
use Rattle.flash_model.specs.Moves.{Does, Moves}
use Rattle.flash_model.specs.Operations.{Moment, moment_of, program}
use Rattle.page_record.specs.Spelling.{spelling}
use Rattle.record_list.specs.Records.{name_of}
use Rattle.record_list.specs.Transaction.{back_version}
use Rattle.record_list.specs.Written.{PageText}
use Rattle.judged_records.specs.Notes.{found_in}
use Rattle.judged_records.specs.IndexState.{IndexState, block_to_go, programmed}
use Rattle.die_alloc.specs.BlocksState.{BlocksState, IsFull, with_slot}
use Rattle.die_alloc.specs.NextSlot.{next_slot, after_next_slot}
use Rattle.collector.specs.Collecting.{CollectsForRoom}
use Rattle.collector.specs.Going.{blocks_to_go, EvictsAll}
use Rattle.collector.specs.Preserves.{IsThere, Preserves}
use Rattle.collector.specs.Settling.{slots_read}
use Rattle.array_machine.specs.ArrayState.{Entry, has_tag}
use Rattle.tx_engine.specs.Settling.{AddsOnly, HasTables, StaysUnread, link_place, settlement_of, with_settlement}
use Rattle.tx_engine.specs.DeviceState.{DeviceState, text_in}
use Rattle.open_table.specs.OpenTransactionsState.{Naming, name_at, write_at}
use Rattle.array_machine.specs.declared.answers.Progress.{Progress}
use Rattle.array_machine.specs.declared.answers.StepError.{StepError}

-- the open transaction with a tag and the names that it writes, if there is one
abbrev pub open_of : {F : Type 0} → DeviceState F → ℕ → Option (Entry × Naming)
open_of s tag = find (λ (e, x). has_tag tag e) (zip s.machine.entries s.namings)

-- the name that it writes next
abbrev pub next_of : {F : Type 0} → DeviceState F → ℕ → Option Link
next_of s tag = option_map (λ (e, x). name_at x e.done) (open_of s tag)

-- The record of the next page was there already: the tables are the settled ones but for the pins, and no slot was read
-- but to settle.
pub record WritesNothing {F : Type 0} (state : F → FlashState) (old new : DeviceState F) : Type 0 where
  pub tables : HasTables (settlement_of state old) new
  pub reads : (state new.flash).reads
      ≡ counted_times (slots_read old.noted old.unsure) (state old.flash).reads

-- A slot is found for a record: where a block has room it is the next one, and else the next one after a collection.
pub record TakesSlot (n : IndexState) (t : BlocksState) (n' : IndexState) (t' : BlocksState)
    (at : Slot) : Type 0 where
  pub direct : (IsFull t → ⊥) → (next_slot t ≡ Some at) × (n' ≡ n) × (t' ≡ after_next_slot t)
  pub collects : IsFull t → CollectsForRoom n t n' t' at

-- what the record of the next page of a transaction is to say: its name, its link, how many pages the transaction has,
-- and of the page
pub record DueRecord : Type 0 where
  pub name : Link
  pub link : Link
  pub count : ℕ
  pub text : PageText

abbrev pub due_record : ℕ → Entry → Naming → DueRecord
due_record page_bytes e x = record {
  name = name_at x e.done;
  link = name_at x (link_place e);
  count = length e.writes;
  text = text_in page_bytes (write_at e e.done);
}

-- A settled device wrote a record. First the records went that had to, block after block, the lowest first: where none
-- had to, nothing was done. Then a slot was found. There the record was programmed that is asked for, with the bytes of
-- its page, and it is noted there. That program came last. Where nothing had to go and a block had room, it is all that
-- was done to the flash.
pub record WritesRecord {F : Type 0} (state : F → FlashState) (known new : DeviceState F)
    (asked : DueRecord) : Type 0 where
  pub cleared : IndexState
  pub cleared_table : BlocksState
  pub kept : Preserves known.noted cleared
  pub turns : EvictsAll asked.name.page asked.name.version known.noted known.table cleared cleared_table
  pub idle : blocks_to_go known.noted asked.name.page asked.name.version ≡ 0 →
      (cleared ≡ known.noted) × (cleared_table ≡ known.table)
  pub clear : block_to_go cleared asked.name.page asked.name.version ≡ None
  pub open_noted : IndexState
  pub open_table : BlocksState
  pub at : Slot
  pub slot : TakesSlot cleared cleared_table open_noted open_table at
  pub rec : Rec
  pub named : name_of rec ≡ asked.name
  pub linked : rec.next ≡ asked.link
  pub counted : rec.count ≡ asked.count
  pub flag : rec.discard ≡ asked.text.discard
  pub back : rec.back
      ≡ back_version open_noted.config.protocol
      (found_in open_noted.notes) open_noted.config.logical asked.name.page
  pub before : Moment
  pub moves : Moves (state known.flash).shape (moment_of (state known.flash)) false before
  pub direct : blocks_to_go known.noted asked.name.page asked.name.version ≡ 0 → (IsFull known.table → ⊥) →
      before ≡ moment_of (state known.flash)
  pub does : Does (state known.flash).shape before
      (program at.0 asked.text.bytes (spelling open_noted.config.protocol rec) ∷ [])
      (moment_of (state new.flash))
  pub image : slot_at (state new.flash).image at.0
      ≡ complete asked.text.bytes (spelling open_noted.config.protocol rec)
  pub noted : new.noted ≡ record (programmed open_noted at.0 rec) { pins = new.noted.pins }
  pub table : new.table ≡ with_slot open_table at.0

-- what a step did that answered, of a transaction with these names: the record of its next page was there, or was
-- written
pub record BringsPage {F : Type 0} (state : F → FlashState) (old new : DeviceState F) (e : Entry)
    (x : Naming) : Type 0 where
  pub there : IsThere (settlement_of state old).noted (name_at x e.done) →
      WritesNothing state old new
  pub absent : (IsThere (settlement_of state old).noted (name_at x e.done) → ⊥) →
      WritesRecord state (with_settlement state old) new (due_record old.config.page_bytes e x)

-- Which records a step notes: that of its next page at most. Where it failed the place could not be read, or what was
-- known then is kept, and no record is new.
abbrev pub StepNotes : {F : Type 0} → (F → FlashState) → DeviceState F → DeviceState F → ℕ →
    Result Progress StepError → Type 0
StepNotes state old new tag (Ok progress) =
    IfSome (next_of old tag) (λ name. AddsOnly name (settlement_of state old).noted new.noted)
StepNotes state old new tag (Err e) =
    StaysUnread state old new ⊎ Preserves (settlement_of state old).noted new.noted
