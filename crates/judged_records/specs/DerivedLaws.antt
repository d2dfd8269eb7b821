-- The laws of what is derived from the noted records, for a protocol that keeps the commit laws.
use Rattle.std.specs.Prelude.{◌≡◌, ◌≢◌, ℕ, ◌+◌, ◌*◌, ◌/◌, ◌<◌, ◌==◌, true, false, ◌&&◌, ◌||◌, ◌↔◌, ◌⊎◌, List, slice_index, count_by, None, Some, IsSome, All}
use Rattle.std.specs.List.{range_with_len}
use Rattle.tx_types.specs.Config.{shape_of, slots_of, blocks_of}
use Rattle.tx_types.specs.declared.config.Protocol.{Protocol}
use Rattle.tx_types.specs.declared.config.Protocol.TheVariants.{Scc, Bpcc}
use Rattle.tx_types.specs.declared.record.Link.{Link}
use Rattle.tx_types.specs.declared.record.Rec.{Rec}
use Rattle.record_list.specs.Records.{newest, name_of, has_name, is_present}
use Rattle.record_list.specs.Written.{is_slot, is_outside, is_outside_spare}
use Rattle.judged_records.specs.declared.note.Note.TheVariants.{Blank, Holds}
use Rattle.judged_records.specs.Notes.{note_at, rec_of, found_in}
use Rattle.judged_records.specs.IndexState.{IndexState, IsNoted, IsNextRecord, CanLose, current_of, held_of, home_of, slot_off, needed_of, block_to_go, garbage_of}
use Rattle.judged_records.specs.IndexState.{is_blank, programmed, damaged_at, copied, erased, lost, pinned, with_spare}
use Rattle.judged_records.specs.Derived.{wanted_of, goes_of, AnswersForNone, AnswersForSome, IsNewlyLoose, IsNewestUncommitted, WaitsBelow, IsLowestSlot, HasNoSlot}
use Rattle.judged_records.specs.DerivedChanges.{NothingMoves, IsOpenWrite, IsWholeWrite, IsRound, IsRoundByIndex, IsDerivedAs, derived_of, once_whole, completes}

-- a record that a transaction in progress asks for is newer than each of its page, and would be loose and
-- wait
abbrev pub NextRecordLaw : Protocol → Type 0
NextRecordLaw protocol =
    (n : IndexState) (rec : Rec) → IsNoted protocol n → IsNextRecord n rec →
    (newest (found_in n.notes) rec.page < rec.version) × IsNewlyLoose n rec

-- it completes its cycle exactly where each name of its transaction is present
abbrev pub CompletesLaw : Protocol → Type 0
CompletesLaw protocol =
    (n : IndexState) (at : ℕ) (rec : Rec) (next : IsNextRecord n rec) → IsNoted protocol n →
    at < slots_of (shape_of n.config) → note_at n.notes at ≡ Blank →
    (completes (programmed n at rec) rec ≡ true)
    ↔ All (λ name. is_present (found_in (programmed n at rec).notes) name ≡ true) next.names

-- a record that does not complete its cycle
abbrev pub OpenWriteLaw : Protocol → Type 0
OpenWriteLaw protocol =
    (n : IndexState) (at : ℕ) (rec : Rec) → IsNextRecord n rec → IsNoted protocol n →
    at < slots_of (shape_of n.config) → note_at n.notes at ≡ Blank →
    completes (programmed n at rec) rec ≡ false →
    IsOpenWrite n (programmed n at rec) rec

-- the names of the cycle that a record completed, in the order of their links, and what is derived then
pub record IsCompleted (n m : IndexState) (names : List Link) (rec : Rec) : Type 0 where
  pub whole : IsWholeWrite n m names
  pub round : List Link
  pub is_round : IsRound m names (name_of rec) round
  pub judged : IsDerivedAs m (once_whole n.config.protocol round (derived_of n))

-- a round has its names by their indices
abbrev pub RoundLaw : Type 0
RoundLaw =
    (n : IndexState) (names : List Link) (start : Link) (round : List Link) →
    IsRound n names start round → IsRoundByIndex n start round

-- a record that completes its cycle
abbrev pub WholeWriteLaw : Protocol → Type 0
WholeWriteLaw protocol =
    (n : IndexState) (at : ℕ) (rec : Rec) (next : IsNextRecord n rec) → IsNoted protocol n →
    at < slots_of (shape_of n.config) → note_at n.notes at ≡ Blank →
    completes (programmed n at rec) rec ≡ true →
    IsCompleted n (programmed n at rec) next.names rec

-- a copy
abbrev pub CopyMovesLaw : Protocol → Type 0
CopyMovesLaw protocol =
    (n : IndexState) (from to : ℕ) → IsNoted protocol n → IsSome (rec_of (note_at n.notes from)) →
    to < slots_of (shape_of n.config) → note_at n.notes to ≡ Blank →
    NothingMoves n (copied n from to)

-- a slot that becomes damaged
abbrev pub DamageMovesLaw : Protocol → Type 0
DamageMovesLaw protocol =
    (n : IndexState) (at : ℕ) → IsNoted protocol n → at < slots_of (shape_of n.config) →
    note_at n.notes at ≡ Blank → NothingMoves n (damaged_at n at)

-- a name whose records go is not current, and answers for none
pub record IsGone (n : IndexState) (name : Link) : Type 0 where
  pub stale : current_of n name.page ≢ name.version
  pub free : AnswersForNone n name

-- what a block leaves that is without its records
pub record IsLossDerived (n m : IndexState) : Type 0 where
  pub nothing_moves : NothingMoves n m
  pub gone :
      All (λ f. is_present (found_in m.notes) (name_of f.rec) ≡ false → IsGone n (name_of f.rec))
      (found_in n.notes)

-- a block that is erased or lost
abbrev pub LossMovesLaw : Protocol → Type 0
LossMovesLaw protocol =
    (n : IndexState) (block : ℕ) → IsNoted protocol n → block < blocks_of (shape_of n.config) →
    CanLose n block → IsLossDerived n (erased n block) × IsLossDerived n (lost n block)

-- a pin, and another spare
abbrev pub PinMovesLaw : Type 0
PinMovesLaw = (n : IndexState) (page version : ℕ) → NothingMoves n (pinned n page version)

abbrev pub SpareMovesLaw : Type 0
SpareMovesLaw = (n : IndexState) (block : ℕ) → NothingMoves n (with_spare n block)

-- a record is held exactly where it answers for some
abbrev pub HeldReading : Protocol → Type 0
HeldReading protocol =
    (n : IndexState) → IsNoted protocol n →
    All (λ f. (held_of n f.rec ≡ true) ↔ AnswersForSome n (name_of f.rec)) (found_in n.notes)

-- it is wanted where it is current, held, or its page pinned at its version
abbrev pub WantedReading : Protocol → Type 0
WantedReading protocol =
    (n : IndexState) → IsNoted protocol n →
    All (λ f. wanted_of n f.rec
    ≡ ((f.rec.version == current_of n f.rec.page) || held_of n f.rec
    || (f.rec.version == slice_index n.pins f.rec.page))) (found_in n.notes)

-- a slot is needed where it is the home of a record that is wanted
pub record IsNeededBy (n : IndexState) : Type 0 where
  pub held :
      (at : ℕ) (rec : Rec) → note_at n.notes at ≡ Holds rec →
      needed_of n at ≡ (is_slot at (home_of n (name_of rec)) && wanted_of n rec)
  pub bare : (at : ℕ) → rec_of (note_at n.notes at) ≡ None → needed_of n at ≡ false

abbrev pub NeededReading : Type 0
NeededReading = (n : IndexState) → IsNeededBy n

-- Under Simple Cyclic Commit the newest record of a page must go where it is loose and below. So must the
-- records that wait for the page and link to it below. Under Back Pointer Cyclic Commit none must.
pub record IsGoing (n : IndexState) (page below : ℕ) : Type 0 where
  pub scc :
      n.config.protocol ≡ Scc →
      All (λ f. (goes_of n page below f.rec ≡ true)
      ↔ (IsNewestUncommitted n page below f.rec ⊎ WaitsBelow n page below f.rec)) (found_in n.notes)
  pub bpcc : n.config.protocol ≡ Bpcc → (r : Rec) → goes_of n page below r ≡ false

abbrev pub GoingReading : Protocol → Type 0
GoingReading protocol = (n : IndexState) (page below : ℕ) → IsNoted protocol n → IsGoing n page below

-- homes and the block that must go, by lowest slots
pub record IsLowest (n : IndexState) : Type 0 where
  pub home_outside :
      (name : Link) (at : ℕ) →
      IsLowestSlot n (λ f. has_name name f.rec && is_outside_spare (shape_of n.config) n.spare f.slot.0) at →
      home_of n name ≡ Some at
  pub home_inside :
      (name : Link) (at : ℕ) →
      HasNoSlot n (λ f. has_name name f.rec && is_outside_spare (shape_of n.config) n.spare f.slot.0) →
      IsLowestSlot n (λ f. has_name name f.rec) at → home_of n name ≡ Some at
  pub off :
      (name : Link) (block at : ℕ) →
      IsLowestSlot n (λ f. has_name name f.rec && is_outside (shape_of n.config) block f.slot.0) at →
      slot_off n block name ≡ Some at
  pub off_none :
      (name : Link) (block : ℕ) →
      HasNoSlot n (λ f. has_name name f.rec && is_outside (shape_of n.config) block f.slot.0) →
      slot_off n block name ≡ None
  pub to_go :
      (page below at : ℕ) → IsLowestSlot n (λ f. goes_of n page below f.rec) at →
      block_to_go n page below ≡ Some (at / n.config.pages_per_block)
  pub none_to_go :
      (page below : ℕ) → HasNoSlot n (λ f. goes_of n page below f.rec) →
      block_to_go n page below ≡ None

abbrev pub LowestReading : Type 0
LowestReading = (n : IndexState) → IsLowest n

-- each slot of a block that is not the spare is needed or garbage, or blank where the block is not shut
pub record IsGarbageOf (n : IndexState) (block : ℕ) : Type 0 where
  pub shut :
      garbage_of n block true
      + count_by (needed_of n) (range_with_len (block * n.config.pages_per_block) n.config.pages_per_block)
      ≡ n.config.pages_per_block
  pub part :
      garbage_of n block false
      + count_by (λ at. is_blank (note_at n.notes at))
      (range_with_len (block * n.config.pages_per_block) n.config.pages_per_block)
      + count_by (needed_of n) (range_with_len (block * n.config.pages_per_block) n.config.pages_per_block)
      ≡ n.config.pages_per_block

abbrev pub GarbageReading : Type 0
GarbageReading = (n : IndexState) (block : ℕ) → is_slot block n.spare ≡ false → IsGarbageOf n block
