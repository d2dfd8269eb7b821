-- How many programs and erases a step takes.
use Rattle.std.specs.Prelude.{◌≡◌, ℕ, ◌+◌, ◌-◌, ◌*◌, ◌≤◌, IfSome}
use Rattle.tx_types.specs.Config.{shape_of, blocks_of}
use Rattle.tx_types.specs.declared.config.Config.{Config}
use Rattle.tx_types.specs.declared.config.Protocol.{Protocol}
use Rattle.tx_types.specs.declared.config.Protocol.TheVariants.{Scc, Bpcc}
use Rattle.flash_model.specs.Flash.{FlashState}
use Rattle.die_alloc.specs.BlocksState.{IsFull}
use Rattle.collector.specs.Going.{blocks_to_go}
use Rattle.tx_types.specs.declared.record.Link.{Link}
use Rattle.tx_engine.specs.Settling.{with_settlement}
use Rattle.tx_engine.specs.DeviceState.{DeviceState}
use Rattle.tx_engine.specs.Writing.{next_of}

-- how many blocks may hold records that must go before a page is written: where records have back versions, none
abbrev pub most_to_go : Protocol → ℕ → ℕ
most_to_go Scc blocks = blocks
most_to_go Bpcc blocks = 0

-- how many blocks are collected for a page at most: each that may hold such a record, and one for room
abbrev pub most_collected : Config → ℕ
most_collected its = most_to_go its.protocol (blocks_of (shape_of its)) + 1

-- The counts rise at most by one collection for each block that holds a record which must go, by one collection
-- more, and by one program.
pub record StepCosts {F : Type 0} (state : F → FlashState) (old new : DeviceState F)
    (name : Link) : Type 0 where
  pub programs : (state new.flash).programs
      ≤ (state old.flash).programs + (blocks_to_go old.noted name.page name.version + 1) *
      (old.config.pages_per_block - 1) + 1
  pub erases : (state new.flash).erases ≤ (state old.flash).erases + 2 *
      (blocks_to_go old.noted name.page name.version + 1)
  -- where nothing must go and a block has room, one program is all
  pub direct : blocks_to_go old.noted name.page name.version ≡ 0 → (IsFull old.table → ⊥) →
      ((state new.flash).programs ≤ (state old.flash).programs + 1)
      × ((state new.flash).erases ≡ (state old.flash).erases)

-- the costs of a step, by the tables that are known once the place was read whose contents were not known
abbrev pub CostsStep : {F : Type 0} → (F → FlashState) → DeviceState F → DeviceState F → ℕ → Type 0
CostsStep state old new tag =
    IfSome (next_of old tag) (StepCosts state (with_settlement state old) new)
