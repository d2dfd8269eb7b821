-- Retiring a block of a device: when it is refused, what it makes of the array, and what it leaves.
use Rattle.std.specs.Prelude.{◌≡◌, ◌⊎◌, ℕ, ◌<◌, ◌==◌, nat_lt, Bool, true, false, [], Option, None, Some, IfNone, length, Result, Ok, Err, if◌then◌else◌}
use Rattle.tx_types.specs.Config.{shape_of, blocks_of}
use Rattle.tx_types.specs.declared.config.Protocol.{Protocol}
use Rattle.tx_types.specs.declared.config.Shape.{Shape}
use Rattle.flash_model.specs.declared.flash.Broken.{Broken}
use Rattle.flash_model.specs.Flash.{FlashState, Extras, counted_times}
use Rattle.flash_model.specs.Retiring.{CarriesRetiring, MayRetire, RetiresAfter, RetiresTorn}
use Rattle.judged_records.specs.IndexState.{current_of}
use Rattle.collector.specs.Going.{IsEvicted}
use Rattle.collector.specs.Preserves.{Preserves}
use Rattle.collector.specs.Retiring.{RetiresBlock, RetiresNone, RetiringBreaks, moved_slots, retiring_first}
use Rattle.collector.specs.Settling.{slots_read}
use Rattle.collector.specs.StoreParts.{IsSure}
use Rattle.array_machine.specs.ArrayState.{ArrayState}
use Rattle.tx_engine.specs.Breaking.{BreaksThen}
use Rattle.tx_engine.specs.Calls.{IsReady}
use Rattle.tx_engine.specs.Exits.{ExitsTables, VersionsRise, SettlesOrNot, settled_writes}
use Rattle.tx_engine.specs.Held.{AddsNoHeldIn}
use Rattle.open_table.specs.OpenTransactionsState.{OpenTransactionsState}
use Rattle.tx_engine.specs.Settling.{StaysUnread, settlement_of}
use Rattle.tx_engine.specs.DeviceState.{DeviceState, Stands}
use Rattle.array_machine.specs.Step.{settled}
use Rattle.tx_engine.specs.StoreState.{StoreState, store_in}
use Rattle.tx_engine.specs.Tables.{device_in}
use Rattle.tx_engine.specs.declared.device.retire.RetireError.{RetireError}
use Rattle.tx_engine.specs.declared.device.retire.RetireError.TheVariants as failed

-- no block is left: as many were retired as the flash allows
abbrev pub worn : Option Extras → Option RetireError
worn None = None
worn (Some extras) =
    if extras.retired == extras.allowance then Some (failed.Worn extras.allowance) else None

-- the refusal of a block, if there is one: first that it does not exist, and then that none is left
abbrev pub retire_refusal : Shape → Option Extras → ℕ → Option RetireError
retire_refusal shape extras block =
    if nat_lt block (blocks_of shape) then worn extras else Some failed.Range

-- the block was retired, or there was a fault
abbrev pub IsDoneOrFault : Result (Unit {0}) RetireError → Type 0
IsDoneOrFault (Ok done) = Unit {0}
IsDoneOrFault (Err failed.Range) = ⊥
IsDoneOrFault (Err (failed.Worn allowance)) = ⊥
IsDoneOrFault (Err failed.Fault) = Unit {0}

-- where there is a refusal it is the answer, and nothing changes; else the block is retired, or there is a fault
abbrev pub AnswersRetire : {F : Type 0} → Option RetireError → DeviceState F → DeviceState F →
    Result (Unit {0}) RetireError → Type 0
AnswersRetire None old new result = IsDoneOrFault result
AnswersRetire (Some refusal) old new result = (result ≡ Err refusal) × (new ≡ old)

-- A block is retired, and the state settles. A fault leaves it as before or settled, and a refusal as before.
abbrev pub RetiresAs : Bool → ArrayState → ArrayState → Result (Unit {0}) RetireError → Type 0
RetiresAs there old new (Ok done) = new ≡ settled there old
RetiresAs there old new (Err failed.Range) = new ≡ old
RetiresAs there old new (Err (failed.Worn allowance)) = new ≡ old
RetiresAs there old new (Err failed.Fault) = (new ≡ old) ⊎ (new ≡ settled there old)

-- which versions rise: those of the transaction in doubt, where it settles
abbrev pub RetireRises : {F : Type 0} → Bool → DeviceState F → DeviceState F →
    Result (Unit {0}) RetireError → Type 0
RetireRises there old new (Ok done) = VersionsRise old new (settled_writes there old.machine)
RetireRises there old new (Err failed.Range) = VersionsRise old new []
RetireRises there old new (Err (failed.Worn allowance)) = VersionsRise old new []
RetireRises there old new (Err failed.Fault) = SettlesOrNot there old new

abbrev pub is_retire_fault : Result (Unit {0}) RetireError → Bool
is_retire_fault (Ok done) = false
is_retire_fault (Err failed.Range) = false
is_retire_fault (Err (failed.Worn allowance)) = false
is_retire_fault (Err failed.Fault) = true

-- What was done to the flash. After Ok these operations, by the tables that are known once the place is settled, and
-- then the block was replaced. After a fault operations of which the last may be broken, or all of them and then a
-- replacement that broke.
abbrev pub RetireEnds : {F : Type 0} → (F → FlashState) → DeviceState F → DeviceState F → ℕ →
    Result (Unit {0}) RetireError → Type 0
RetireEnds state old new block (Ok done) =
    let found = settlement_of state old in
    RetiresAfter (state old.flash) (state new.flash)
    (retiring_first found.noted (state old.flash).image found.table.spare block) block
RetireEnds state old new block (Err failed.Range) = new.flash ≡ old.flash
RetireEnds state old new block (Err (failed.Worn allowance)) = new.flash ≡ old.flash
RetireEnds state old new block (Err failed.Fault) =
    RetiresNone (state old.flash) (state new.flash)
    ⊎ RetiresTorn (state old.flash) (state new.flash) block

-- what retiring a block keeps of what is known, what it did to the flash, what the flash carries over, and that no
-- record is held which was not, but for those that came into force
pub record RetireExits {F : Type 0} (state : F → FlashState) (old new : DeviceState F) (block : ℕ)
    (result : Result (Unit {0}) RetireError) : Type 0 where
  pub tables : ExitsTables old new
  pub ends : RetireEnds state old new block result
  pub carries : CarriesRetiring (state old.flash) (state new.flash) (is_retire_fault result)
  pub held : AddsNoHeldIn old.config.protocol old.config.logical (state old.flash).image (state new.flash).image

-- What retiring a block does to the tables that are known once the place was read, each of its slots once: as where the
-- block is collected, or erased where it is the spare. Each slot that is copied is read once.
pub record RetiresKnown {F : Type 0} (state : F → FlashState) (old new : DeviceState F)
    (block : ℕ) : Type 0 where
  pub treated : IsEvicted (settlement_of state old).noted (settlement_of state old).table block
      new.noted new.table
  pub reads : (state new.flash).reads ≡ counted_times
      (length (moved_slots (settlement_of state old).noted (settlement_of state old).table.spare block))
      (counted_times (slots_read old.noted old.unsure) (state old.flash).reads)

-- The place was read, and by the tables that are known then retiring the block broke off. The blocks are as they were
-- known, and what was noted then is kept.
pub record RetiringFails {F : Type 0} (state : F → FlashState) (old new : DeviceState F)
    (block : ℕ) : Type 0 where
  pub breaks : BreaksThen state old (λ between.
      RetiringBreaks (settlement_of state old).noted between (state new.flash)
      (settlement_of state old).table.spare block new.noted new.unsure)
  pub table : new.table ≡ (settlement_of state old).table
  pub kept : Preserves (settlement_of state old).noted new.noted

-- What becomes of the tables. After a fault the place could not be read, or it was read and then retiring the block
-- broke off.
abbrev pub RetireTables : {F : Type 0} → (F → FlashState) → DeviceState F → DeviceState F → ℕ →
    Result (Unit {0}) RetireError → Type 0
RetireTables state old new block (Ok done) = RetiresKnown state old new block
RetireTables state old new block (Err failed.Range) = new ≡ old
RetireTables state old new block (Err (failed.Worn allowance)) = new ≡ old
RetireTables state old new block (Err failed.Fault) =
    StaysUnread state old new ⊎ RetiringFails state old new block

-- What is left of a settled device: it stands for the same array, no version changed, and what is noted is kept.
pub record LeavesTables {F : Type 0} (state : F → FlashState) (old new : DeviceState F) : Type 0 where
  pub stands : Stands state new
  pub machine : new.machine ≡ old.machine
  pub tables : ExitsTables old new
  pub versions : (page : ℕ) → page < old.config.logical →
      current_of new.noted page ≡ current_of old.noted page
  pub kept : Preserves old.noted new.noted
  pub held : AddsNoHeldIn old.config.protocol old.config.logical (state old.flash).image (state new.flash).image

-- The refusal of a block, if there is one. Where there is none the block exists, and may be retired.
pub record RefusesRetiring (s : FlashState) (block : ℕ) (result : Option RetireError) : Type 0 where
  pub refusal : result ≡ retire_refusal s.shape s.extras block
  pub exists : IfNone result (block < blocks_of s.shape)
  pub left : IfNone result (MayRetire s)

-- The tables match the flash and no place is unsure, and a block exists and may be retired.
pub record CanRetire {F : Type 0} (state : F → FlashState) (p : Protocol) (s : StoreState F)
    (block : ℕ) : Type 0 where
  pub sure : IsSure p (store_in state s)
  pub exists : block < blocks_of (shape_of s.noted.config)
  pub left : MayRetire (state s.flash)

-- a block of a settled device exists and may be retired
pub record CanRetireSettled {F : Type 0} (state : F → FlashState) (p : Protocol) (S : StoreState F)
    (O : OpenTransactionsState) (block : ℕ) : Type 0 where
  pub ready : IsReady state p S O
  pub exists : block < blocks_of (shape_of S.noted.config)
  pub left : MayRetire (state S.flash)

-- A settled device retired a block.
pub record RetiresSettled {F : Type 0} (state : F → FlashState) (p : Protocol) (S S' : StoreState F)
    (O : OpenTransactionsState) (block : ℕ) (result : Result (Unit {0}) Broken) : Type 0 where
  pub left : LeavesTables state (device_in state S O) (device_in state S' O)
  pub retires : RetiresBlock p (store_in state S) (store_in state S') block result
