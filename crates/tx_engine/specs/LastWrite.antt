-- A step that ends in the program of a record: what a loss of power may leave of it, where what waits is made durable
-- before each erase, follows from what is said here of the image before that program.
use Rattle.std.specs.Prelude.{◌≡◌, ◌⊎◌, ℕ, ◌<◌, Bool, true, false, List, map, All, Contains, Some}
use Rattle.tx_types.specs.Batch.{PageWrite}
use Rattle.tx_types.specs.Config.{blocks_of}
use Rattle.tx_types.specs.declared.config.Protocol.{Protocol}
use Rattle.tx_types.specs.declared.config.Shape.{Shape}
use Rattle.tx_types.specs.declared.record.Link.{Link}
use Rattle.tx_types.specs.declared.record.Rec.{Rec}
use Rattle.flash_model.specs.Flash.{FlashState, Contents, blank, slot_at}
use Rattle.flash_model.specs.Operations.{Operation, program, Moment, moment_of, CanDo, after, BreaksIn}
use Rattle.page_record.specs.Spelling.{spelling}
use Rattle.record_list.specs.Changes.{left}
use Rattle.record_list.specs.Records.{is_present}
use Rattle.record_list.specs.Written.{is_outside, value_of, value_at, IsRemovable}
use Rattle.judged_records.specs.Images.{records_in, written_in}
use Rattle.judged_records.specs.ImageChanges.{image_with, AsksFor}
use Rattle.collector.specs.SinceErase.{WorksSinceErase}
use Rattle.array_machine.specs.ArrayState.{Entry}
use Rattle.array_machine.specs.Step.{IsAtLast}
use Rattle.open_table.specs.OpenTransactionsState.{Naming}
use Rattle.tx_engine.specs.DeviceState.{DeviceState}
use Rattle.tx_engine.specs.Exits.{WorksSince}
use Rattle.tx_engine.specs.Writing.{open_of}

-- each of these names that is there says of its page what the transaction writes to it
abbrev pub SaysWrites : Protocol → List Contents → Entry → List Link → Type 0
SaysWrites protocol image e names =
    (name : Link) (w : PageWrite) → Contains names name → Contains e.writes w → w.page ≡ name.page →
    is_present (records_in protocol image) name ≡ true →
    value_at (written_in protocol image) name ≡ w.value

-- An open transaction with these names asks in this image for a record, which says what it writes, as those do that are
-- there. Where with it all its names are there, it is at its last page.
pub record AsksNext (protocol : Protocol) (logical : ℕ) (shape : Shape) (image : List Contents) (e : Entry)
    (names : List Link) (at : ℕ) (bytes : List ℕ) (rec : Rec) : Type 0 where
  pub asks : AsksFor protocol logical shape image names at rec
  pub pages : map (λ (name : Link). name.page) names ≡ map (λ (w : PageWrite). w.page) e.writes
  pub says : SaysWrites protocol image e names
  pub says_own : (w : PageWrite) → Contains e.writes w → w.page ≡ rec.page →
      value_of (record { discard = rec.discard; bytes = bytes }) ≡ w.value
  pub last : All (λ name. is_present (records_in protocol (image_with protocol image at bytes rec)) name ≡ true)
      names → IsAtLast e

-- Outside a block each current and each held record has a slot, and so have the names of a transaction that are there.
-- The slot that is to be programmed lies outside it too.
pub record LeavesBlock (protocol : Protocol) (logical : ℕ) (shape : Shape) (image : List Contents)
    (names : List Link) (at block : ℕ) : Type 0 where
  pub exists : block < blocks_of shape
  pub removable : IsRemovable protocol (records_in protocol image) logical shape block
  pub outside : (name : Link) → Contains names name → is_present (records_in protocol image) name ≡ true →
      is_present (left (is_outside shape block) (records_in protocol image)) name ≡ true
  pub slot : is_outside shape block at ≡ true

-- all slots of a block are blank
abbrev pub IsBlankIn : Shape → List Contents → ℕ → Type 0
IsBlankIn shape image block = (slot : ℕ) → is_outside shape block slot ≡ false → slot_at image slot ≡ blank

-- a program comes last: it is done, or it is broken or not started
abbrev pub EndsProgram : Shape → Moment → Operation → Bool → Moment → Type 0
EndsProgram shape old o false new = new ≡ after shape old o
EndsProgram shape old o true new = (new ≡ old) ⊎ BreaksIn shape old o new

-- A call ends in the program of the next record of an open transaction, which leaves the spare. Before it room may have
-- been made: either nothing was done, or the spare is all blank.
pub record WritesLast (protocol : Protocol) (logical : ℕ) (shape : Shape) (old : Moment) (old_spare : ℕ) (e : Entry)
    (names : List Link) (broken : Bool) (new : Moment) (new_spare : ℕ) : Type 0 where
  pub before : Moment
  pub works : WorksSinceErase protocol logical shape old false before
  pub room : ((before ≡ old) × (works.base ≡ old) × (new_spare ≡ old_spare)) ⊎ IsBlankIn shape before.image new_spare
  pub at : ℕ
  pub bytes : List ℕ
  pub rec : Rec
  pub next : AsksNext protocol logical shape before.image e names at bytes rec
  pub leaves : LeavesBlock protocol logical shape before.image names at new_spare
  pub can : CanDo shape before.image (program at bytes (spelling protocol rec))
  pub ends : EndsProgram shape before (program at bytes (spelling protocol rec)) broken new

-- from one state of a device to another, for the transaction with this entry
abbrev pub WritesLastOf : {F : Type 0} → (F → FlashState) → DeviceState F → DeviceState F → Entry → Naming → Bool →
    Type 0
WritesLastOf state old new e x broken =
    WritesLast old.config.protocol old.config.logical (state old.flash).shape (moment_of (state old.flash))
    old.table.spare e x.names broken (moment_of (state new.flash)) new.table.spare

-- A step that was answered left the moment of the flash, or ends so. One that was broken did, or completed no
-- transaction.
abbrev pub StepWorks : {F : Type 0} → (F → FlashState) → DeviceState F → DeviceState F → Entry → Naming → Bool → Type 0
StepWorks state old new e x false =
    ((moment_of (state new.flash) ≡ moment_of (state old.flash)) × (new.table.spare ≡ old.table.spare))
    ⊎ WritesLastOf state old new e x false
StepWorks state old new e x true = WorksSince state old new true ⊎ WritesLastOf state old new e x true

-- there is an open transaction with a tag, and so it is for it
pub record StepSince {F : Type 0} (state : F → FlashState) (old known new : DeviceState F) (tag : ℕ) (broken : Bool) :
    Type 0 where
  pub entry : Entry
  pub naming : Naming
  pub is_open : open_of old tag ≡ Some (entry, naming)
  pub works : StepWorks state known new entry naming broken
