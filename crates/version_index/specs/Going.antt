-- The numbers whose records must go before a version of a page is programmed.
use Rattle.std.specs.Prelude.{◌≡◌, ℕ, ◌/◌, ◌<◌, ◌≤◌, ◌⊎◌, List, Option, Some, None, IsSome, IsSomeAnd}
use Rattle.std.specs.List.{AllPairs, slice_get}
use Rattle.tx_types.specs.declared.config.Block.{Block}
use Rattle.slot_tables.specs.declared.slots.SlotUse.TheVariants.{Holds}
use Rattle.slot_tables.specs.TablesState.{TablesState, use_at, record_at, numbers_at, number_at, WaitsBelow}

-- a record waits, and is below this version
abbrev pub IsWaitingBelow : TablesState → ℕ → ℕ → Type 0
IsWaitingBelow k below x =
    IsSome (number_at k.waits x) × IsSomeAnd (record_at k.records x) (λ r. r.version < below)

-- it is the newest of this page
abbrev pub IsTopBelow : TablesState → ℕ → ℕ → ℕ → Type 0
IsTopBelow k page below x =
    (slice_get (numbers_at k.pages page) 0 ≡ Some x) × IsWaitingBelow k below x

-- it must go: it is the newest of the page, waits and is below, or it waits for the page at a version below
abbrev pub Goes : TablesState → ℕ → ℕ → ℕ → Type 0
Goes k page below x = IsTopBelow k page below x ⊎ WaitsBelow k page below x

-- the lowest slot that holds such a number
pub record IsLowestOf (k : TablesState) (Such : ℕ → Type 0) (at : ℕ) : Type 0 where
  pub number : ℕ
  pub holds : use_at k.slots at ≡ Holds number
  pub such : Such number
  pub lowest : (other x : ℕ) → use_at k.slots other ≡ Holds x → Such x → at ≤ other

-- if there is one
abbrev pub IsLowestIn : TablesState → (ℕ → Type 0) → Option ℕ → Type 0
IsLowestIn k Such None = (at x : ℕ) → use_at k.slots at ≡ Holds x → Such x → ⊥
IsLowestIn k Such (Some at) = IsLowestOf k Such at

-- a slot holds such a number
abbrev pub SlotMustGo : TablesState → ℕ → ℕ → ℕ → Type 0
SlotMustGo k page below at = (x : ℕ) × (use_at k.slots at ≡ Holds x) × Goes k page below x

-- a block has such a slot
pub record BlockMustGo (k : TablesState) (page below block : ℕ) : Type 0 where
  pub at : ℕ
  pub inside : at / k.shape.pages_per_block ≡ block
  pub goes : SlotMustGo k page below at

-- the newest record of this page goes, and does not wait for the page at a version below
abbrev pub IsNewestBeside : TablesState → ℕ → ℕ → ℕ → Type 0
IsNewestBeside k page below x = IsTopBelow k page below x × (WaitsBelow k page below x → ⊥)

-- blocks stand in their order, each once
abbrev pub AreRising : List Block → Type 0
AreRising blocks = AllPairs (λ x y. x.0 < y.0) blocks
