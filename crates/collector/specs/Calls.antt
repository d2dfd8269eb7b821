-- What the calls of the collector keep and do: each has one clause.
use Rattle.std.specs.Prelude.{◌≡◌, ◌≢◌, ℕ, ◌+◌, ◌<◌, ◌≤◌, IsSome, Bool, true, false, None, [], length, Result, Err, Ok, IfOk, OnOk, OnErr}
use Rattle.std.specs.Bool.{OnFalse}
use Rattle.std.specs.Result.{is_err}
use Rattle.tx_types.specs.Config.{shape_of, slots_of, blocks_of}
use Rattle.tx_types.specs.declared.config.Block.{Block}
use Rattle.tx_types.specs.declared.config.Protocol.{Protocol}
use Rattle.tx_types.specs.declared.config.Slot.{Slot}
use Rattle.tx_types.specs.declared.record.Rec.{Rec}
use Rattle.flash_model.specs.declared.flash.Broken.{Broken}
use Rattle.flash_model.specs.Calls.{Carries, Erases}
use Rattle.flash_model.specs.Flash.{FlashState, counted_times}
use Rattle.flash_model.specs.Moves.{Does, FlashMoves}
use Rattle.flash_model.specs.Operations.{moment_of}
use Rattle.judged_records.specs.Notes.{note_at, rec_of}
use Rattle.judged_records.specs.IndexState.{IndexState, block_to_go, copied, erased, with_spare}
use Rattle.die_alloc.specs.BlocksState.{BlocksState, IsFull, IsFirstFree}
use Rattle.collector.specs.declared.unsure.Unsure.TheVariants as unsure
use Rattle.collector.specs.BreakingOff.{BreaksOff, CleaningBreaks, ClearingBreaks, CopiesBreakOff, CopyBreaksOff, RoomBreaksOff}
use Rattle.collector.specs.Collecting.{cleaning, collected, collecting, swapped, needed_slots, noted_cleaned}
use Rattle.collector.specs.Collecting.{CopiesDone, CopyDone, CollectsForRoom, HasUnneeded}
use Rattle.collector.specs.Going.{CostsAtMost, CostsBroken, CostsCopying, HasNoNewRecord, IsEvicted, EvictsAll, blocks_to_go}
use Rattle.collector.specs.Matches.{Matches, CanSpare, IsFilledBy, IsNextOfSpare}
use Rattle.collector.specs.Preserves.{Preserves, KeepsArray}
use Rattle.collector.specs.SinceErase.{FlashWorksSinceErase}
use Rattle.collector.specs.StoreParts.{StoreParts}
use Rattle.collector.specs.Victim.{IsVictim, HasNoGarbage}

-- What each call that programs and erases keeps, done or broken. The place that it leaves unsure is none of an open
-- transaction's records.
pub record Keeps (p : Protocol) (a b : StoreParts) (broken : Bool) : Type 0 where
  pub matches : Matches b.flash b.noted b.table b.unsure
  pub preserves : Preserves a.noted b.noted
  pub array : KeepsArray p a.noted.config.logical a.flash.image b.flash.image
  pub sure : OnFalse broken (b.unsure ≡ unsure.Nothing)
  pub others : (at : Slot) (rec : Rec) → b.unsure ≡ unsure.Own at rec → ⊥
  pub records : HasNoNewRecord a.noted b.noted
  pub moves : FlashMoves a.flash b.flash broken
  pub carries : Carries a.flash b.flash broken
  pub since : FlashWorksSinceErase p a.noted.config.logical a.flash b.flash broken

-- The spare is made all blank.
pub record Cleans (p : Protocol) (a b : StoreParts) (result : Result (Unit {0}) Broken) : Type 0 where
  pub keeps : Keeps p a b (is_err result)
  -- after Ok the spare is all blank, by one erase or none, and all else is as before
  pub done : OnOk result (Does a.flash.shape (moment_of a.flash)
      (cleaning a.noted a.flash.image a.table.spare) (moment_of b.flash))
  pub noted : OnOk result (b.noted ≡ erased a.noted a.table.spare)
  -- after a broken erase the tables are as before
  pub broken : OnErr result (CleaningBreaks a.noted a.flash b.flash a.table.spare)
  pub torn : OnErr result ((b.unsure ≡ unsure.SpareErase) × (b.noted ≡ a.noted))
  pub blocks : b.table ≡ a.table
  pub reads : b.flash.reads ≡ a.flash.reads
  pub programs : b.flash.programs ≡ a.flash.programs
  pub erases : b.flash.erases ≤ a.flash.erases + 1

-- a slot holds a record, and the other is the next blank one of the spare
pub record CanCopy (n : IndexState) (t : BlocksState) (from to : ℕ) : Type 0 where
  pub source : IsSome (rec_of (note_at n.notes from))
  pub exists : from < slots_of (shape_of n.config)
  pub next : IsNextOfSpare n t.spare to

-- The record of a slot is copied to another.
pub record CopiesRecord (p : Protocol) (a b : StoreParts) (from to : Slot)
    (result : Result (Unit {0}) Broken) : Type 0 where
  pub keeps : Keeps p a b (is_err result)
  pub done : OnOk result (CopyDone a.noted a.flash b.flash from.0 to.0)
  pub noted : OnOk result (b.noted ≡ copied a.noted from.0 to.0)
  pub stays : OnErr result (b.noted ≡ a.noted)
  pub broken : OnErr result (CopyBreaksOff a.noted a.flash b.flash from to b.unsure)
  pub counts : OnErr result
      ((b.flash.programs ≡ a.flash.programs) × (b.flash.erases ≡ a.flash.erases))

-- What is needed in a block is copied to the blank spare.
pub record CopiesNeeded (p : Protocol) (a b : StoreParts) (block : ℕ)
    (result : Result ℕ Broken) : Type 0 where
  pub keeps : Keeps p a b (is_err result)
  pub copied : IfOk result
      (CopiesDone a.noted b.noted a.flash b.flash a.table.spare block)
  pub broken : OnErr result
      (CopiesBreakOff a.noted a.flash b.flash [] a.table.spare block b.noted b.unsure)
  -- fewer copies than slots where a slot is not needed
  pub costs : HasUnneeded a.noted block →
      CostsCopying a.noted.config.pages_per_block a.flash b.flash

-- what is wanted in a block has slots outside it, and this many slots of the spare are used
pub record CanErase (n : IndexState) (t : BlocksState) (block used : ℕ) : Type 0 where
  pub exists : block < blocks_of (shape_of n.config)
  pub not_spare : block ≢ t.spare
  pub spared : CanSpare n block
  pub filled : IsFilledBy n t.spare used

-- A block is erased whose needed records were copied, and is the spare then.
pub record ErasesVictim (p : Protocol) (a b : StoreParts) (block : Block) (used : ℕ)
    (result : Result (Unit {0}) Broken) : Type 0 where
  pub keeps : Keeps p a b (is_err result)
  pub erases : Erases a.flash b.flash block.0 result
  pub noted : OnOk result (b.noted ≡ with_spare (erased a.noted block.0) block.0)
  pub blocks : OnOk result (b.table ≡ swapped a.table block.0 used)
  pub torn : OnErr result ((b.unsure ≡ unsure.VictimErase block) × (b.noted ≡ a.noted)
      × (b.table ≡ a.table))

-- A block is collected of which the spare is blank: its copies break off, or it is erased after them.
pub data CollectsClean (p : Protocol) (a b : StoreParts) (block : Block)
    (result : Result (Unit {0}) Broken) : Type 0 where
  stops_copying : (broken : Broken) → is_err result ≡ true →
      CopiesNeeded p a b block.0 (Err broken) → b.table ≡ a.table → CollectsClean p a b block result
  comes_to_erase : (between : StoreParts) (used : ℕ) → CopiesNeeded p a between block.0 (Ok used) →
      between.table ≡ a.table → ErasesVictim p between b block used result →
      CollectsClean p a b block result

-- a block is not the spare, and a slot of it is not needed
pub record CanCollect (n : IndexState) (t : BlocksState) (block : ℕ) : Type 0 where
  pub exists : block < blocks_of (shape_of n.config)
  pub not_spare : block ≢ t.spare
  pub unneeded : HasUnneeded n block

-- A block is collected.
pub record Collects (p : Protocol) (a b : StoreParts) (block : ℕ)
    (result : Result (Unit {0}) Broken) : Type 0 where
  pub keeps : Keeps p a b (is_err result)
  -- after Ok exactly these operations were done, and the tables say so
  pub done : OnOk result (Does a.flash.shape (moment_of a.flash)
      (collecting a.noted a.flash.image a.table.spare block) (moment_of b.flash))
  pub noted : OnOk result (b.noted ≡ collected a.noted a.table.spare block)
  pub blocks : OnOk result (b.table ≡ swapped a.table block
      (length (needed_slots (noted_cleaned a.noted a.table.spare) block)))
  pub reads : OnOk result (b.flash.reads ≡ counted_times
      (length (needed_slots (noted_cleaned a.noted a.table.spare) block)) a.flash.reads)
  -- After a broken operation a front part of the operations was done, and the tables say so. The blocks are kept as
  -- they were, and what was broken is not counted.
  pub broken : OnErr result
      (BreaksOff a.noted a.flash b.flash a.table.spare block b.noted b.unsure)
  pub stays : OnErr result (b.table ≡ a.table)
  pub costs : OnErr result (CostsBroken a.noted.config.pages_per_block a.flash b.flash)
  -- done or broken, the costs are those of one collection at most
  pub at_most : CostsAtMost a.noted.config.pages_per_block 1 a.flash b.flash

-- The block with the most garbage was collected, once the spare was blank.
pub record CollectsOne (old new : FlashState) (n n' : IndexState) (t t' : BlocksState) : Type 0 where
  pub victim : ℕ
  pub is_victim : IsVictim (noted_cleaned n t.spare) t victim
  pub does : Does old.shape (moment_of old) (collecting n old.image t.spare victim) (moment_of new)
  pub noted : n' ≡ collected n t.spare victim
  pub table : t' ≡ swapped t victim (length (needed_slots (noted_cleaned n t.spare) victim))

-- The spare was made blank, and there is no garbage.
pub record CollectsNothing (old new : FlashState) (n n' : IndexState) (t t' : BlocksState) : Type 0 where
  pub none : HasNoGarbage (noted_cleaned n t.spare) t
  pub does : Does old.shape (moment_of old) (cleaning n old.image t.spare) (moment_of new)
  pub noted : n' ≡ noted_cleaned n t.spare
  pub table : t' ≡ t

-- whether there was any garbage
abbrev pub CollectsIfAny : StoreParts → StoreParts → Bool → Type 0
CollectsIfAny a b true = CollectsOne a.flash b.flash a.noted b.noted a.table b.table
CollectsIfAny a b false = CollectsNothing a.flash b.flash a.noted b.noted a.table b.table

-- The spare is made blank, and the block with the most garbage is collected, if there is any: the old spare has room
-- then.
pub record CollectsVictim (p : Protocol) (a b : StoreParts) (result : Result Bool Broken) : Type 0 where
  pub keeps : Keeps p a b (is_err result)
  pub done : IfOk result (CollectsIfAny a b)
  pub room : IfOk result (λ any. any ≡ true → IsFull b.table → ⊥)
  pub stays : OnErr result (b.table ≡ a.table)
  pub broken : OnErr result
      (RoomBreaksOff a.noted a.table a.flash b.flash b.noted b.unsure)
  pub costs : CostsAtMost a.noted.config.pages_per_block 1 a.flash b.flash

-- A block is erased where it is the spare, and else collected.
pub record Evicts (p : Protocol) (a b : StoreParts) (block : ℕ)
    (result : Result (Unit {0}) Broken) : Type 0 where
  pub keeps : Keeps p a b (is_err result)
  pub treated : OnOk result (IsEvicted a.noted a.table block b.noted b.table)
  pub broken : OnErr result
      (BreaksOff a.noted a.flash b.flash a.table.spare block b.noted b.unsure)
  pub stays : OnErr result (b.table ≡ a.table)
  pub costs : CostsAtMost a.noted.config.pages_per_block 1 a.flash b.flash

-- Each block that holds a record which must go is evicted, the lowest first, as the tables then are; then there is
-- none.
pub record EvictsBlocksToGo (p : Protocol) (a b : StoreParts) (page below : ℕ)
    (result : Result (Unit {0}) Broken) : Type 0 where
  pub keeps : Keeps p a b (is_err result)
  pub cleared : OnOk result (block_to_go b.noted page below ≡ None)
  pub turns : OnOk result (EvictsAll page below a.noted a.table b.noted b.table)
  -- Else one was being evicted in its turn, which broke off as a collection does: the blocks are kept as they were
  -- then.
  pub broken : OnErr result
      (ClearingBreaks page below a.flash b.flash a.noted a.table b.noted b.table b.unsure)
  pub costs : CostsAtMost a.noted.config.pages_per_block (blocks_to_go a.noted page below)
      a.flash b.flash

-- A slot is found. Where no block has room the block with the most garbage is collected once the spare is blank. After
-- a broken operation the blocks are kept as they were.
pub record AllocatesSlot (p : Protocol) (a b : StoreParts) (result : Result Slot Broken) : Type 0 where
  pub keeps : Keeps p a b (is_err result)
  pub free : IfOk result (λ at. IsFirstFree b.table at.0)
  pub collects : IsFull a.table → IfOk result
      (CollectsForRoom a.noted a.table b.noted b.table)
  pub stays : OnErr result (b.table ≡ a.table)
  pub broken : OnErr result
      (RoomBreaksOff a.noted a.table a.flash b.flash b.noted b.unsure)
  pub costs : CostsAtMost a.noted.config.pages_per_block 1 a.flash b.flash
  -- what need not go before a program need not go afterwards
  pub still_clear : (page below : ℕ) → block_to_go a.noted page below ≡ None →
      block_to_go b.noted page below ≡ None
