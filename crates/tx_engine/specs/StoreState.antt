-- A flash with the tables that match it, and what its calls keep.
use Rattle.std.specs.Prelude.{◌≡◌, ◌⊎◌, ℕ, ◌+◌, ◌≤◌, List, [], ◌∷◌, length, slice_set, Result, OnOk, OnErr}
use Rattle.std.specs.Result.{is_err}
use Rattle.tx_types.specs.declared.config.Protocol.{Protocol}
use Rattle.tx_types.specs.declared.config.Slot.{Slot}
use Rattle.tx_types.specs.declared.record.Rec.{Rec}
use Rattle.flash_model.specs.declared.flash.Broken.{Broken}
use Rattle.flash_model.specs.Flash.{FlashState, complete, slot_at}
use Rattle.flash_model.specs.Calls.{Carries}
use Rattle.flash_model.specs.Moves.{Does, FlashMoves}
use Rattle.flash_model.specs.Operations.{BreaksIn, CanDo, moment_of, program}
use Rattle.page_record.specs.Spelling.{CanBeSpelled, spelling}
use Rattle.judged_records.specs.ImageChanges.{TextsStay, TextsCome}
use Rattle.judged_records.specs.IndexState.{IndexState, programmed}
use Rattle.die_alloc.specs.BlocksState.{BlocksState, IsFirstFree, with_slot}
use Rattle.collector.specs.declared.unsure.Unsure.{Unsure}
use Rattle.collector.specs.declared.unsure.Unsure.TheVariants as unsure
use Rattle.collector.specs.Matches.{Matches, CanTakeOwn}
use Rattle.collector.specs.StoreParts.{StoreParts, store_parts}

-- a flash, what is noted of its slots, what is kept of its blocks, and the place whose contents are not known
pub record StoreState (F : Type 0) : Type 0 where
  pub flash : F
  pub noted : IndexState
  pub table : BlocksState
  pub unsure : Unsure

-- the parts of a store, with the state of its flash
abbrev pub store_in : {F : Type 0} → (F → FlashState) → StoreState F → StoreParts
store_in state s = store_parts (state s.flash) s.noted s.table s.unsure

-- the tables match the flash, under the rule of this protocol
pub record IsStoreState {F : Type 0} (state : F → FlashState) (protocol : Protocol)
    (s : StoreState F) : Type 0 where
  pub matches : Matches (state s.flash) s.noted s.table s.unsure
  pub rule : s.noted.config.protocol ≡ protocol

-- what writing a record asks for: the slot is the first free one of its block, and its transaction asks for the record
pub record CanWrite (a : StoreParts) (at : Slot) (rec : Rec) (bytes : List ℕ) : Type 0 where
  pub free : IsFirstFree a.table at.0
  pub own : CanTakeOwn a.noted a.table rec
  pub spelled : CanBeSpelled a.noted.config.protocol rec
  pub page : length bytes ≡ a.noted.config.page_bytes

-- a record was programmed and noted: the slot has it with these bytes, and each name that was there has its text still
pub record WritesStored (old new : StoreParts) (at : ℕ) (rec : Rec) (bytes : List ℕ) : Type 0 where
  pub noted : new.noted ≡ programmed old.noted at rec
  pub table : new.table ≡ with_slot old.table at
  pub unsure : new.unsure ≡ unsure.Nothing
  pub image : new.flash.image
      ≡ slice_set old.flash.image at (complete bytes (spelling old.noted.config.protocol rec))
  pub does : Does old.flash.shape (moment_of old.flash)
      (program at bytes (spelling old.noted.config.protocol rec) ∷ []) (moment_of new.flash)
  pub stay : TextsStay old.noted.config.protocol old.flash.image new.flash.image
  pub come : TextsCome old.noted.config.protocol new.flash.image rec bytes

-- its program was broken: it is not known whether the slot has it, and what was there has its text still
pub record WriteBreaks (old new : StoreParts) (at : Slot) (rec : Rec) (bytes : List ℕ) : Type 0 where
  pub noted : new.noted ≡ old.noted
  pub table : new.table ≡ old.table
  pub unsure : new.unsure ≡ unsure.Own at rec
  pub slot : (its spare : List ℕ) → slot_at new.flash.image at.0 ≡ complete its spare →
      its ≡ bytes
  pub can : CanDo old.flash.shape old.flash.image
      (program at.0 bytes (spelling old.noted.config.protocol rec))
  pub torn : (moment_of new.flash ≡ moment_of old.flash)
      ⊎ BreaksIn old.flash.shape (moment_of old.flash)
      (program at.0 bytes (spelling old.noted.config.protocol rec)) (moment_of new.flash)
  pub stay : TextsStay old.noted.config.protocol old.flash.image new.flash.image

-- The record of an open transaction is written. The tables match the flash, done or broken.
pub record WritesOwn (old new : StoreParts) (at : Slot) (rec : Rec) (bytes : List ℕ)
    (result : Result (Unit {0}) Broken) : Type 0 where
  pub matches : Matches new.flash new.noted new.table new.unsure
  pub config : new.noted.config ≡ old.noted.config
  pub written : OnOk result (WritesStored old new at.0 rec bytes)
  pub broken : OnErr result (WriteBreaks old new at rec bytes)
  pub moves : FlashMoves old.flash new.flash (is_err result)
  pub carries : Carries old.flash new.flash (is_err result)
  pub costs : (new.flash.programs ≤ old.flash.programs + 1)
      × (new.flash.erases ≡ old.flash.erases)
