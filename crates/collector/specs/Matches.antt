-- When the tables of a device match its flash.
use Rattle.std.specs.Prelude.{◌≡◌, ◌≢◌, ◌⊎◌, ℕ, ◌+◌, ◌*◌, ◌/◌, ◌<◌, ◌≤◌, true, false, List, All, Some}
use Rattle.tx_types.specs.Config.{shape_of, slots_of, blocks_of}
use Rattle.tx_types.specs.declared.record.Rec.{Rec}
use Rattle.flash_model.specs.Flash.{FlashState, IsFlash, Contents, blank, damaged, complete, slot_at}
use Rattle.page_record.specs.Spelling.{CanBeSpelled, spelling}
use Rattle.record_list.specs.Records.{is_present}
use Rattle.record_list.specs.Changes.{left}
use Rattle.record_list.specs.Counts.{HasCounts}
use Rattle.record_list.specs.Written.{is_outside, IsDispensable}
use Rattle.judged_records.specs.declared.note.Note.TheVariants.{Blank, Holds}
use Rattle.judged_records.specs.Images.{IsSoundImage}
use Rattle.judged_records.specs.Notes.{found_in, note_at, note_of}
use Rattle.judged_records.specs.IndexState.{IndexState, IsNoted, IsNextRecord, pinned_names, is_closed, is_shut_now}
use Rattle.die_alloc.specs.BlocksState.{BlocksState, IsBlocksState, IsFree, block_state}
use Rattle.collector.specs.declared.unsure.Unsure.{Unsure}
use Rattle.collector.specs.declared.unsure.Unsure.TheVariants as unsure
use Rattle.collector.specs.Known.{is_unsure}
use Rattle.collector.specs.Victim.{is_shut}

-- each slot of a block passes the test
abbrev pub AllOfBlock : IndexState → ℕ → (ℕ → Type 0) → Type 0
AllOfBlock n block P =
    (slot : ℕ) → slot < slots_of (shape_of n.config) → slot / n.config.pages_per_block ≡ block →
    P slot

-- a slot is noted as it reads
abbrev pub IsNotedAt : List Contents → IndexState → ℕ → Type 0
IsNotedAt image n slot = note_at n.notes slot ≡ note_of n.config.protocol (slot_at image slot)

-- what a broken erase leaves: the block as it is noted, or all its slots damaged, or all blank
abbrev pub IsErasing : List Contents → IndexState → ℕ → Type 0
IsErasing image n block =
    AllOfBlock n block (IsNotedAt image n)
    ⊎ (AllOfBlock n block (λ slot. slot_at image slot ≡ damaged)
    ⊎ AllOfBlock n block (λ slot. slot_at image slot ≡ blank))

-- each record that is noted in a block can be spelled
abbrev pub HasSpellings : IndexState → ℕ → Type 0
HasSpellings n block =
    AllOfBlock n block
    (λ slot. (rec : Rec) → note_at n.notes slot ≡ Holds rec →
    CanBeSpelled n.config.protocol rec)

-- what a broken program leaves: the slot blank, or damaged, or with what was asked for
abbrev pub IsProgramming : List Contents → ℕ → (Contents → Type 0) → Type 0
IsProgramming image at IsAskedFor =
    (slot_at image at ≡ blank) ⊎ ((slot_at image at ≡ damaged) ⊎ IsAskedFor (slot_at image at))

-- contents with the spelling of a record as their spare area
abbrev pub SpellsRecord : IndexState → Rec → Contents → Type 0
SpellsRecord n rec contents =
    (bytes : _) × (contents ≡ complete bytes (spelling n.config.protocol rec))

-- the first `filled` slots of a block hold records, and those after them are blank
pub record IsFilledBy (n : IndexState) (block filled : ℕ) : Type 0 where
  pub within : filled ≤ n.config.pages_per_block
  pub records :
      (k : ℕ) → k < filled →
      (rec : Rec) × (note_at n.notes (block * n.config.pages_per_block + k) ≡ Holds rec)
  pub tail :
      (k : ℕ) → filled ≤ k → k < n.config.pages_per_block →
      note_at n.notes (block * n.config.pages_per_block + k) ≡ Blank

-- the first slots of a block hold records, up to some slot
abbrev pub IsFilledTo : IndexState → ℕ → Type 0
IsFilledTo n block = (filled : ℕ) × IsFilledBy n block filled

-- the place whose contents are not known, what the tables have there, and what may be there
abbrev pub IsPlace : List Contents → IndexState → BlocksState → Unsure → Type 0
IsPlace image n t unsure.Nothing = Unit {0}
IsPlace image n t (unsure.Own at rec) =
    IsFree t at.0 × (note_at n.notes at.0 ≡ Blank) × CanBeSpelled n.config.protocol rec
    × IsProgramming image at.0 (SpellsRecord n rec)
IsPlace image n t (unsure.Copy from to) =
    (to.0 < slots_of (shape_of n.config)) × (to.0 / n.config.pages_per_block ≡ t.spare)
    × (note_at n.notes to.0 ≡ Blank)
    × (from.0 < slots_of (shape_of n.config)) × ((rec : Rec) × (note_at n.notes from.0 ≡ Holds rec))
    × IsProgramming image to.0 (λ contents. contents ≡ slot_at image from.0)
IsPlace image n t unsure.SpareErase = IsErasing image n t.spare × HasSpellings n t.spare
IsPlace image n t (unsure.VictimErase block) =
    (block.0 < blocks_of (shape_of n.config)) × (block.0 ≢ t.spare) × IsErasing image n block.0
    × IsFilledTo n t.spare × HasSpellings n block.0

-- each current, each held and each pinned present record has a slot outside the block
abbrev pub CanSpare : IndexState → ℕ → Type 0
CanSpare n block =
    IsDispensable n.config.protocol (found_in n.notes) n.config.logical (pinned_names n.pins)
    (shape_of n.config) block

-- the block that is being erased, where that is the collected one
abbrev pub VictimIsSpared : IndexState → Unsure → Type 0
VictimIsSpared n unsure.Nothing = Unit {0}
VictimIsSpared n (unsure.Own at rec) = Unit {0}
VictimIsSpared n (unsure.Copy from to) = Unit {0}
VictimIsSpared n unsure.SpareErase = Unit {0}
VictimIsSpared n (unsure.VictimErase block) = CanSpare n block.0

-- The spare is not closed, and a block but the spare is closed or has its last slot used exactly where it is shut.
pub record AreShut (n : IndexState) (t : BlocksState) : Type 0 where
  pub spare : is_closed n t.spare ≡ false
  pub others : (block : ℕ) → block < blocks_of (shape_of n.config) → block ≢ t.spare →
      is_shut_now n block ≡ is_shut (block_state t block)

-- The tables match the flash. Its image is sound; save for the one place whose contents are not known each slot is
-- noted as it reads; the records that are needed have slots outside the spare; free slots are noted as blank; and it is
-- noted which blocks are shut.
pub record Matches (s : FlashState) (n : IndexState) (t : BlocksState) (u : Unsure) : Type 0 where
  pub shape : s.shape ≡ shape_of n.config
  pub flash : IsFlash s
  pub sound : IsSoundImage n.config.protocol n.config.logical s.shape s.image
  pub noted : IsNoted n.config.protocol n
  pub counts : HasCounts (found_in n.notes)
  pub table : IsBlocksState t
  pub blocks : t.shape ≡ s.shape
  pub spare : n.spare ≡ Some t.spare
  pub sure : (slot : ℕ) → slot < slots_of s.shape → is_unsure s.shape t.spare u slot ≡ false →
      IsNotedAt s.image n slot
  pub place : IsPlace s.image n t u
  pub spared : CanSpare n t.spare
  pub victim : VictimIsSpared n u
  pub free : (slot : ℕ) → IsFree t slot → note_at n.notes slot ≡ Blank
  pub shut : AreShut n t

-- A record whose program was broken may be there: a transaction in progress asks for it, and each of its records that
-- is present has a slot outside the spare.
pub record CanTakeOwn (n : IndexState) (t : BlocksState) (rec : Rec) : Type 0 where
  pub next : IsNextRecord n rec
  pub outside : All (λ name. is_present (found_in n.notes) name ≡ true →
      is_present (left (is_outside (shape_of n.config) t.spare) (found_in n.notes)) name
      ≡ true) next.names

abbrev pub CanTake : IndexState → BlocksState → Unsure → Type 0
CanTake n t unsure.Nothing = Unit {0}
CanTake n t (unsure.Own at rec) = CanTakeOwn n t rec
CanTake n t (unsure.Copy from to) = Unit {0}
CanTake n t unsure.SpareErase = Unit {0}
CanTake n t (unsure.VictimErase block) = Unit {0}

-- a slot of the spare that is blank, as are all later ones of the block
pub record IsNextOfSpare (n : IndexState) (spare at : ℕ) : Type 0 where
  pub within : at < slots_of (shape_of n.config)
  pub in_spare : at / n.config.pages_per_block ≡ spare
  pub blank_on :
      (k : ℕ) → at ≤ k → k < spare * n.config.pages_per_block + n.config.pages_per_block →
      note_at n.notes k ≡ Blank
