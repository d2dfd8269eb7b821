-- Retiring a block: what is needed in it is copied to the spare, as where it is collected, and then it is replaced by a
-- fresh one. The spare is replaced at once.
use Rattle.std.specs.Prelude.{◌≡◌, ◌≢◌, ◌⊎◌, ℕ, ◌*◌, ◌==◌, Bool, true, List, [], ◌++◌, length, if◌then◌else◌, Result, OnOk, OnErr}
use Rattle.std.specs.Bool.{OnFalse}
use Rattle.std.specs.Result.{is_err}
use Rattle.tx_types.specs.declared.config.Block.{Block}
use Rattle.tx_types.specs.declared.config.Protocol.{Protocol}
use Rattle.tx_types.specs.declared.config.Slot.{Slot}
use Rattle.tx_types.specs.declared.record.Rec.{Rec}
use Rattle.flash_model.specs.declared.flash.Broken.{Broken}
use Rattle.flash_model.specs.Flash.{FlashState, Contents, counted_times}
use Rattle.flash_model.specs.Moves.{FlashMoves}
use Rattle.flash_model.specs.Operations.{Operation}
use Rattle.flash_model.specs.Retiring.{CarriesRetiring, IsNotReplaced, IsReplaced, Retires, RetiresAfter, RetiresTorn, StartsRetiring}
use Rattle.judged_records.specs.IndexState.{IndexState, erased, with_spare}
use Rattle.collector.specs.declared.unsure.Unsure.{Unsure}
use Rattle.collector.specs.declared.unsure.Unsure.TheVariants as unsure
use Rattle.collector.specs.BreakingOff.{BreaksOff}
use Rattle.collector.specs.Collecting.{cleaning, copies, swapped, needed_slots, noted_cleaned}
use Rattle.collector.specs.Going.{HasNoNewRecord, IsEvicted}
use Rattle.collector.specs.Matches.{Matches}
use Rattle.collector.specs.Preserves.{Preserves, KeepsArray}
use Rattle.collector.specs.StoreParts.{StoreParts}

-- the slots that are copied before a block is replaced: none of the spare
abbrev pub moved_slots : IndexState → ℕ → ℕ → List ℕ
moved_slots n spare block =
    if block == spare then [] else needed_slots (noted_cleaned n spare) block

-- the operations that come before a block is replaced: none for the spare, and else those that collect the block, but
-- its erase
abbrev pub retiring_first : IndexState → List Contents → ℕ → ℕ → List Operation
retiring_first n image spare block =
    if block == spare then []
    else cleaning n image spare
    ++ copies n.config.page_bytes image (spare * n.config.pages_per_block)
    (needed_slots (noted_cleaned n spare) block)

-- What stays of the tables and of the array, done or broken. The place that is left unsure is none of an open
-- transaction's records.
pub record KeepsStore (p : Protocol) (a b : StoreParts) (broken : Bool) : Type 0 where
  pub matches : Matches b.flash b.noted b.table b.unsure
  pub preserves : Preserves a.noted b.noted
  pub array : KeepsArray p a.noted.config.logical a.flash.image b.flash.image
  pub sure : OnFalse broken (b.unsure ≡ unsure.Nothing)
  pub others : (at : Slot) (rec : Rec) → b.unsure ≡ unsure.Own at rec → ⊥
  pub records : HasNoNewRecord a.noted b.noted

-- What a call keeps that may replace a block: the flash carries on but for the blocks replaced (`CarriesRetiring`),
-- where the other calls do operations only.
pub record KeepsRetiring (p : Protocol) (a b : StoreParts) (broken : Bool) : Type 0 where
  pub tables : KeepsStore p a b broken
  pub carries : CarriesRetiring a.flash b.flash broken

-- The spare is replaced: it is all blank then. Where that was broken it is not known whether it was.
pub record RetiresSpare (p : Protocol) (a b : StoreParts) (result : Result (Unit {0}) Broken) : Type 0 where
  pub keeps : KeepsRetiring p a b (is_err result)
  pub retires : Retires a.flash b.flash a.table.spare result
  pub noted : OnOk result (b.noted ≡ erased a.noted a.table.spare)
  pub torn : OnErr result ((b.unsure ≡ unsure.SpareErase) × (b.noted ≡ a.noted))
  pub blocks : b.table ≡ a.table

-- A block is replaced whose needed records were copied, and is the spare then.
pub record RetiresVictim (p : Protocol) (a b : StoreParts) (block : Block) (used : ℕ)
    (result : Result (Unit {0}) Broken) : Type 0 where
  pub keeps : KeepsRetiring p a b (is_err result)
  pub retires : Retires a.flash b.flash block.0 result
  pub noted : OnOk result (b.noted ≡ with_spare (erased a.noted block.0) block.0)
  pub blocks : OnOk result (b.table ≡ swapped a.table block.0 used)
  pub torn : OnErr result ((b.unsure ≡ unsure.VictimErase block) × (b.noted ≡ a.noted)
      × (b.table ≡ a.table))

-- no block was replaced, and none was tried: operations alone were done, of which the last may be broken
abbrev pub RetiresNone : FlashState → FlashState → Type 0
RetiresNone old new = FlashMoves old new true × (new.extras ≡ old.extras)

-- the replacement of the spare was broken, which is counted as started where power was on, and nothing came before it
pub record SpareBreaks (n : IndexState) (old new : FlashState) (spare : ℕ) (n' : IndexState)
    (u : Unsure) : Type 0 where
  pub left : IsNotReplaced old new ⊎ IsReplaced old new spare
  pub started : StartsRetiring old new
  pub reads : new.reads ≡ old.reads
  pub noted : n' ≡ n
  pub place : u ≡ unsure.SpareErase

-- the replacement of another block was broken exactly where it is not known what that block holds
abbrev pub EndsRetiring : FlashState → FlashState → ℕ → Unsure → Type 0
EndsRetiring old new block unsure.Nothing = RetiresNone old new
EndsRetiring old new block (unsure.Own at rec) = RetiresNone old new
EndsRetiring old new block (unsure.Copy from to) = RetiresNone old new
EndsRetiring old new block unsure.SpareErase = RetiresNone old new
EndsRetiring old new block (unsure.VictimErase b) = RetiresTorn old new block

-- Retiring a block breaks off, and this place is unsure then: for the spare in its replacement, and else where
-- collecting the block breaks off, with the replacement in the place of the last erase.
abbrev pub RetiringBreaks : IndexState → FlashState → FlashState → ℕ → ℕ → IndexState → Unsure → Type 0
RetiringBreaks n old new spare block n' u =
    (block ≡ spare → SpareBreaks n old new spare n' u)
    × (block ≢ spare → BreaksOff n old new spare block n' u × EndsRetiring old new block u)

-- A block is retired.
pub record RetiresBlock (p : Protocol) (a b : StoreParts) (block : ℕ)
    (result : Result (Unit {0}) Broken) : Type 0 where
  pub keeps : KeepsRetiring p a b (is_err result)
  -- after Ok exactly these operations were done, and then the block was replaced
  pub done : OnOk result (RetiresAfter a.flash b.flash
      (retiring_first a.noted a.flash.image a.table.spare block) block)
  -- the tables say so, as where the block is collected, or erased where it is the spare
  pub noted : OnOk result (IsEvicted a.noted a.table block b.noted b.table)
  pub reads : OnOk result (b.flash.reads
      ≡ counted_times (length (moved_slots a.noted a.table.spare block)) a.flash.reads)
  -- after a broken operation or replacement a front part was done, and the blocks are kept as they were
  pub broken : OnErr result
      (RetiringBreaks a.noted a.flash b.flash a.table.spare block b.noted b.unsure)
  pub stays : OnErr result (b.table ≡ a.table)
