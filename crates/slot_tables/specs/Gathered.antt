-- The blocks of the slots that hold some records.
use Rattle.std.specs.Prelude.{◌≡◌, ◌≢◌, ℕ, ◌/◌, ◌↔◌, List, [], map, if◌then◌else◌}
use Rattle.std.specs.List.{AllPairs, Contains, flat_map}
use Rattle.tx_types.specs.declared.config.Block.{Block}
use Rattle.slot_tables.specs.TablesState.{TablesState, copies_of, links_below, record_at}

-- the block of a slot, where a block has this many slots
abbrev pub block_at : ℕ → ℕ → Block
block_at size at = record { 0 = at / size }

-- the slots that hold the records of these numbers, those of one number after those of another
abbrev pub copies_of_all : TablesState → List ℕ → List ℕ
copies_of_all k = flat_map (copies_of k.slots)

-- the blocks of the slots of a record
abbrev pub blocks_of_copies : TablesState → ℕ → List Block
blocks_of_copies k number = map (block_at k.shape.pages_per_block) (copies_of k.slots number)

-- the slots of a record that links below this version
abbrev pub copies_below : TablesState → ℕ → ℕ → List ℕ
copies_below k below number =
    if links_below below (record_at k.records number) then copies_of k.slots number else []

-- these are the blocks of the slots that hold such records, one for each slot
pub record AreGathered (k : TablesState) (Such : ℕ → Type 0) (blocks : List Block) : Type 0 where
  pub numbers : List ℕ
  pub once : AllPairs (λ x y. x ≢ y) numbers
  pub such : (x : ℕ) → Contains numbers x ↔ Such x
  pub are : blocks ≡ map (block_at k.shape.pages_per_block) (copies_of_all k numbers)
