-- Making room for the next record of a transaction: which blocks hold records that must go before it, and what is known
-- of the pinned records beside it.
use Rattle.std.specs.Prelude.{◌≡◌, ◌≢◌, ◌⊎◌, ℕ, ◌+◌, ◌-◌, ◌*◌, ◌≤◌, false, Some, List, All, Any, Contains, count_by, length}
use Rattle.std.specs.List.{range_with_len}
use Rattle.tx_types.specs.Config.{shape_of, blocks_of}
use Rattle.tx_types.specs.declared.record.Link.{Link}
use Rattle.flash_model.specs.Flash.{FlashState}
use Rattle.record_list.specs.Records.{is_present}
use Rattle.record_list.specs.Transaction.{InProgress, ShareNoPage}
use Rattle.judged_records.specs.Notes.{found_in}
pub use Rattle.judged_records.specs.IndexState.{is_going}
use Rattle.judged_records.specs.IndexState.{IndexState, current_of, pinned_names, erased, block_to_go}
use Rattle.die_alloc.specs.BlocksState.{BlocksState}
use Rattle.collector.specs.Collecting.{collected, swapped, needed_slots, noted_cleaned}

-- how many blocks hold a record that must go before this version of a page is programmed
unfoldable pub blocks_to_go : IndexState → ℕ → ℕ → ℕ
blocks_to_go n page below =
    count_by (is_going n page below) (range_with_len 0 (blocks_of (shape_of n.config)))

-- a transaction in progress that has a name
pub record IsOfOther (n : IndexState) (names : List Link) (name : Link) : Type 0 where
  pub others : List Link
  pub in_progress : InProgress n.config.protocol (found_in n.notes) n.config.logical others
  pub apart : ShareNoPage names others
  pub named : Contains others name

-- a pinned name is current, or one of these, or of another transaction in progress, which shares no page with them
abbrev pub IsPinBeside : IndexState → List Link → Link → Type 0
IsPinBeside n names name =
    (current_of n name.page ≡ name.version) ⊎ (Contains names name ⊎ IsOfOther n names name)

-- A name that a transaction in progress writes next: it is absent. All names of the transaction are pinned, and what is
-- pinned beside them is current or of other transactions in progress.
pub record IsNextName (n : IndexState) (names : List Link) (name : Link) : Type 0 where
  pub in_progress : InProgress n.config.protocol (found_in n.notes) n.config.logical names
  pub named : Contains names name
  pub absent : is_present (found_in n.notes) name ≡ false
  pub pinned : All (λ own. Contains (pinned_names n.pins) own) names
  pub beside : All (IsPinBeside n names) (pinned_names n.pins)
  pub few : length (pinned_names n.pins) ≤ n.config.pending

-- the counts of a flash rose at most by the copies and the erases of this many collections
pub record CostsAtMost (pages_per_block collections : ℕ) (old new : FlashState) : Type 0 where
  pub programs : new.programs ≤ old.programs + collections * (pages_per_block - 1)
  pub erases : new.erases ≤ old.erases + collections * 2

-- a block was evicted: erased where it is the spare, and else collected
abbrev pub IsEvicted : IndexState → BlocksState → ℕ → IndexState → BlocksState → Type 0
IsEvicted n t block n' t' =
    (block ≡ t.spare → (n' ≡ erased n t.spare) × (t' ≡ t))
    × (block ≢ t.spare → (n' ≡ collected n t.spare block)
    × (t' ≡ swapped t block (length (needed_slots (noted_cleaned n t.spare) block))))

-- Blocks were evicted in turn, from these tables on, as many as the number says: each was the lowest that then held a
-- record which must go before this version of a page is programmed.
pub data EvictsInTurn (page below : ℕ) (n : IndexState) (t : BlocksState) : ℕ → IndexState → BlocksState →
    Type 0 where
  none : EvictsInTurn page below n t 0 n t
  one_more : (rounds : ℕ) → (n' n'' : IndexState) → (t' t'' : BlocksState) → (block : ℕ) →
      EvictsInTurn page below n t rounds n' t' →
      block_to_go n' page below ≡ Some block → IsEvicted n' t' block n'' t'' →
      EvictsInTurn page below n t (rounds + 1) n'' t''

-- Blocks were evicted in turn, no more than there were with such a record.
pub record EvictsAll (page below : ℕ) (n : IndexState) (t : BlocksState) (n' : IndexState)
    (t' : BlocksState) : Type 0 where
  pub rounds : ℕ
  pub most : rounds ≤ blocks_to_go n page below
  pub turns : EvictsInTurn page below n t rounds n' t'

-- each record that is noted afterwards was noted before
abbrev pub HasNoNewRecord : IndexState → IndexState → Type 0
HasNoNewRecord old new =
    All (λ f. Any (λ g. g.rec ≡ f.rec) (found_in old.notes)) (found_in new.notes)

-- copying what is needed in a block takes fewer programs than it has slots, and no erase
pub record CostsCopying (pages_per_block : ℕ) (old new : FlashState) : Type 0 where
  pub programs : new.programs ≤ old.programs + (pages_per_block - 1)
  pub erases : new.erases ≤ old.erases

-- a broken collection did at most the copies, and the erase of the spare
pub record CostsBroken (pages_per_block : ℕ) (old new : FlashState) : Type 0 where
  pub programs : new.programs ≤ old.programs + (pages_per_block - 1)
  pub erases : new.erases ≤ old.erases + 1
