-- Where the writing of a record breaks off, and how the blocks are kept then.
use Rattle.std.specs.Prelude.{◌≡◌, ◌⊎◌, ℕ, false, IfSome}
use Rattle.tx_types.specs.declared.config.Slot.{Slot}
use Rattle.tx_types.specs.declared.record.Link.{Link}
use Rattle.tx_types.specs.declared.record.Rec.{Rec}
use Rattle.flash_model.specs.Flash.{FlashState, counted_times}
use Rattle.flash_model.specs.Moves.{FlashMoves}
use Rattle.flash_model.specs.Operations.{moment_of}
use Rattle.record_list.specs.Records.{name_of}
use Rattle.judged_records.specs.IndexState.{IndexState}
use Rattle.die_alloc.specs.BlocksState.{BlocksState}
use Rattle.collector.specs.BreakingOff.{ClearingBreaks, RoomBreaksOff}
use Rattle.collector.specs.Going.{EvictsAll}
use Rattle.collector.specs.Settling.{slots_read}
use Rattle.collector.specs.declared.unsure.Unsure.{Unsure}
use Rattle.collector.specs.declared.unsure.Unsure.TheVariants as unsure
use Rattle.tx_engine.specs.Settling.{StaysUnread, settlement_of, with_settlement}
use Rattle.tx_engine.specs.DeviceState.{DeviceState}
use Rattle.tx_engine.specs.Writing.{TakesSlot, next_of}

-- The records had gone that had to, and room was being made: the blocks are those of that moment.
pub record SeekingBreaks (old new : FlashState) (known_noted new_noted : IndexState)
    (known_table new_table : BlocksState) (name : Link) (u : Unsure) : Type 0 where
  pub cleared : IndexState
  pub turns : EvictsAll name.page name.version known_noted known_table cleared new_table
  pub between : FlashState
  pub moves : FlashMoves old between false
  pub breaks : RoomBreaksOff cleared new_table between new new_noted u

-- The slot was found, and the program of the record was broken: it is not known what the slot holds. Slots are noted
-- and blocks are kept as they were when it was found.
pub record RecordBreaks (known_noted new_noted : IndexState) (known_table new_table : BlocksState)
    (name : Link) (u : Unsure) : Type 0 where
  pub cleared : IndexState
  pub cleared_table : BlocksState
  pub turns : EvictsAll name.page name.version known_noted known_table cleared cleared_table
  pub at : Slot
  pub slot : TakesSlot cleared cleared_table new_noted new_table at
  pub rec : Rec
  pub named : name_of rec ≡ name
  pub place : u ≡ unsure.Own at rec

-- the writing of a record breaks off: while the records go that have to, or while its slot is sought, or in its program
abbrev pub WritingBreaks : {F : Type 0} → (F → FlashState) → DeviceState F → DeviceState F → Link → Type 0
WritingBreaks state known new name =
    ClearingBreaks name.page name.version (state known.flash) (state new.flash)
    known.noted known.table new.noted new.table new.unsure
    ⊎ (SeekingBreaks (state known.flash) (state new.flash) known.noted new.noted known.table
    new.table name new.unsure
    ⊎ RecordBreaks known.noted new.noted known.table new.table name new.unsure)

-- a step that fails: the place could not be read, or the writing of its record broke off
abbrev pub StepBreaks : {F : Type 0} → (F → FlashState) → DeviceState F → DeviceState F → ℕ → Type 0
StepBreaks state old new tag =
    StaysUnread state old new
    ⊎ IfSome (next_of old tag) (WritingBreaks state (with_settlement state old) new)

-- The place was read, each of its slots once. Then this broke off, which speaks of the flash as the reads left it.
pub record BreaksThen {F : Type 0} (state : F → FlashState) (old : DeviceState F)
    (Broke : FlashState → Type 0) : Type 0 where
  pub between : FlashState
  pub shape : between.shape ≡ (state old.flash).shape
  pub moment : moment_of between ≡ moment_of (state old.flash)
  pub reads : between.reads
      ≡ counted_times (slots_read old.noted old.unsure) (state old.flash).reads
  pub breaks : Broke between

-- By the tables that are known once the place was read the erase of the spare was broken, or the collection of the
-- block with the most garbage broke off.
abbrev pub RoundBreaks : {F : Type 0} → (F → FlashState) → DeviceState F → DeviceState F → Type 0
RoundBreaks state old new =
    BreaksThen state old
    (λ between. RoomBreaksOff (settlement_of state old).noted (settlement_of state old).table
    between (state new.flash) new.noted new.unsure)

-- a collection that fails: the place could not be read, or what came then broke off
abbrev pub CollectBreaks : {F : Type 0} → (F → FlashState) → DeviceState F → DeviceState F → Type 0
CollectBreaks state old new = StaysUnread state old new ⊎ RoundBreaks state old new
