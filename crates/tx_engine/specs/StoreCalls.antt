-- What the calls of a store ask for and do: each has one clause.
use Rattle.std.specs.Prelude.{◌≡◌, ℕ, false, List, Option, None, Some, Result, Ok, IfOk, IfErr, IfSome, IfNone, OnErr}
use Rattle.std.specs.Option.{option_map}
use Rattle.std.specs.Result.{is_err}
use Rattle.tx_types.specs.declared.config.Config.{Config}
use Rattle.tx_types.specs.declared.config.Protocol.{Protocol}
use Rattle.tx_types.specs.declared.config.Slot.{Slot}
use Rattle.tx_types.specs.declared.record.Link.{Link}
use Rattle.flash_model.specs.declared.flash.Broken.{Broken}
use Rattle.flash_model.specs.Flash.{FlashState}
use Rattle.judged_records.specs.IndexState.{block_to_go}
use Rattle.die_alloc.specs.BlocksState.{IsFull}
use Rattle.die_alloc.specs.NextSlot.{next_slot, after_next_slot}
use Rattle.collector.specs.declared.unsure.Settled.{Settled}
use Rattle.collector.specs.declared.unsure.Settled.TheVariants as found
use Rattle.collector.specs.declared.unsure.Unsure.TheVariants as unsure
use Rattle.collector.specs.Calls.{EvictsBlocksToGo, AllocatesSlot}
use Rattle.collector.specs.Going.{IsNextName}
use Rattle.collector.specs.Known.{page_known}
use Rattle.collector.specs.Settling.{Settles}
use Rattle.collector.specs.StoreParts.{IsSure}
use Rattle.tx_engine.specs.Opens.{StoresOpened, FailsToMount, ReadsUnmounted}
use Rattle.tx_engine.specs.Read.{ShowsKnown, read_place}
use Rattle.tx_engine.specs.StoreState.{StoreState, IsStoreState, store_in}
use Rattle.tx_engine.specs.declared.device.MountError.{MountError}

-- A flash was opened, or it comes back.
pub record OpensStore {F : Type 0} (state : F → FlashState) (p : Protocol) (flash : F) (its : Config)
    (result : Result (StoreState F) (F × MountError)) : Type 0 where
  pub opened : IfOk result (λ s. StoresOpened state flash its s)
  pub stored : IfOk result (IsStoreState state p)
  pub failed : IfErr result (λ e. FailsToMount state flash its e.0 e.1)
  pub reads : IfErr result (λ e. ReadsUnmounted state flash its e.0 e.1)
  pub started : IfErr result (λ e. (state e.0).started ≡ (state flash).started)

-- The slot from which a page is read shows its bytes; there is none where the page is blank.
pub record PlacesPage {F : Type 0} (state : F → FlashState) (s : StoreState F) (page : ℕ)
    (result : Option Slot) : Type 0 where
  pub none : IfNone result (page_known s.noted (state s.flash).image page ≡ None)
  pub place : IfSome result (λ at. ShowsKnown (state s.flash) s.noted page at.0)
  pub slot : option_map (λ at. at.0) result ≡ read_place s.noted s.unsure page

-- It became known what a broken operation left, if there was one. After a failed read all is as before but the flash.
pub record SettlesStored {F : Type 0} (state : F → FlashState) (old new : StoreState F)
    (result : Result Settled Broken) : Type 0 where
  pub settles : Settles (store_in state old) (store_in state new) result
  pub failed : OnErr result (new ≡ record old { flash = new.flash })
  pub idle : old.unsure ≡ unsure.Nothing → (result ≡ Ok found.Other) × (new ≡ old)

-- The tables match the flash and no place is unsure, and a transaction in progress writes this name next.
pub record CanClear {F : Type 0} (state : F → FlashState) (p : Protocol) (s : StoreState F)
    (name : Link) : Type 0 where
  pub sure : IsSure p (store_in state s)
  pub next : (names : List Link) × IsNextName s.noted names name

-- The records went that had to before this version of a page is programmed. Where none had to nothing was done.
pub record ClearsStored {F : Type 0} (state : F → FlashState) (p : Protocol) (old new : StoreState F)
    (page below : ℕ) (result : Result (Unit {0}) Broken) : Type 0 where
  pub clears : EvictsBlocksToGo p (store_in state old) (store_in state new) page below result
  pub idle : block_to_go old.noted page below ≡ None → (result ≡ Ok tt) × (new ≡ old)

-- and one that writes some name next
pub record CanFind {F : Type 0} (state : F → FlashState) (p : Protocol)
    (s : StoreState F) : Type 0 where
  pub sure : IsSure p (store_in state s)
  pub next : (names : List Link) × (name : Link) × IsNextName s.noted names name

-- A slot was found. Where a block has room only the cursor moved.
pub record FindsStored {F : Type 0} (state : F → FlashState) (p : Protocol) (old new : StoreState F)
    (result : Result Slot Broken) : Type 0 where
  pub finds : AllocatesSlot p (store_in state old) (store_in state new) result
  pub direct : (IsFull old.table → ⊥) →
      IfOk result (λ at. Some at ≡ next_slot old.table) × (is_err result ≡ false)
      × (new ≡ record old { table = after_next_slot old.table })

-- The flash was armed, and nothing else changed.
pub record ArmsStored {F : Type 0} (old new : StoreState F) (Armed : Type 0) : Type 0 where
  pub arms : Armed
  pub stays : new ≡ record old { flash = new.flash }

-- What a flash shows is as before, and nothing else changed.
pub record FlushesStored {F : Type 0} (state : F → FlashState) (old new : StoreState F) : Type 0 where
  pub same : state new.flash ≡ state old.flash
  pub stays : new ≡ record old { flash = new.flash }
