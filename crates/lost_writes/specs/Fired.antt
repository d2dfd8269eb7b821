-- Records that were started and wait, each the next one of its transaction, and what a loss of power leaves of them.
use Rattle.std.specs.Prelude.{◌≡◌, ◌≢◌, ◌⊎◌, ℕ, ◌<◌, ◌==◌, Bool, true, ◌||◌, List, [], ◌∷◌, map, All, AllPairs, Contains}
use Rattle.std.specs.List.{list_any}
use Rattle.tx_types.specs.Batch.{PageWrite}
use Rattle.tx_types.specs.Config.{blocks_of}
use Rattle.tx_types.specs.declared.config.Protocol.{Protocol}
use Rattle.tx_types.specs.declared.config.Shape.{Shape}
use Rattle.tx_types.specs.declared.record.Link.{Link}
use Rattle.tx_types.specs.declared.record.Rec.{Rec}
use Rattle.flash_model.specs.Flash.{Contents}
use Rattle.record_list.specs.Changes.{KeepsCounted, left}
use Rattle.record_list.specs.Records.{name_of, is_present}
use Rattle.record_list.specs.Transaction.{ShareNoPage}
use Rattle.record_list.specs.Written.{is_outside, value_of, value_at}
use Rattle.judged_records.specs.Images.{records_in, written_in, array_in, IsSoundImage}
use Rattle.judged_records.specs.ImageChanges.{image_with, AsksFor}
use Rattle.array_machine.specs.ArrayState.{Entry}
use Rattle.array_machine.specs.Batches.{MayTakeEach}
use Rattle.host_protocol.specs.declared.command.Command.{Command}
use Rattle.array_runs.specs.Run.{MayComplete}
use Rattle.lost_writes.specs.Waiting.{IsLeftOf, is_spared}

-- a record that was started: the open transaction that asked for it, with the names that this writes, and the slot
pub record Fired : Type 0 where
  pub entry : Entry
  pub names : List Link
  pub at : ℕ
  pub bytes : List ℕ
  pub rec : Rec

-- the image with such a record, and with all of them
abbrev pub with_record : Protocol → List Contents → Fired → List Contents
with_record protocol image f = image_with protocol image f.at f.bytes f.rec

abbrev pub with_records : Protocol → List Contents → List Fired → List Contents
with_records protocol image [] = image
with_records protocol image (f ∷ fs) = with_records protocol (with_record protocol image f) fs

-- a slot waits as before, or has one of these records
abbrev pub waits_too : (ℕ → Bool) → List Fired → ℕ → Bool
waits_too waits fired slot = waits slot || list_any (λ f. f.at == slot) fired

-- each record of the transaction that is there says of its page what the transaction writes to it
abbrev pub SaysWrites : Protocol → List Contents → Fired → Type 0
SaysWrites protocol image f =
    (name : Link) (w : PageWrite) → Contains f.names name → Contains f.entry.writes w → w.page ≡ name.page →
    is_present (records_in protocol image) name ≡ true →
    value_at (written_in protocol image) name ≡ w.value

-- Each record of these names lies outside the block, or its name has another one there that does not wait.
abbrev pub AreOutside : Protocol → Shape → ℕ → (ℕ → Bool) → List Contents → List Link → Type 0
AreOutside protocol shape block waits image names =
    All (λ g. Contains names (name_of g.rec) →
    (is_outside shape block g.slot.0 ≡ true)
    ⊎ (is_present (left (is_spared waits shape block) (records_in protocol image)) (name_of g.rec) ≡ true))
    (records_in protocol image)

-- The transaction of a started record asks for it in this image. Its records say what it writes, and outside the block
-- each of its names that is there has one. Where with this record all its names are there, the transaction is of this
-- kind.
pub record IsFired (protocol : Protocol) (logical : ℕ) (shape : Shape) (Q : Entry → Type 0) (block : ℕ)
    (waits : ℕ → Bool) (image : List Contents) (f : Fired) : Type 0 where
  pub asks : AsksFor protocol logical shape image f.names f.at f.rec
  pub pages : map (λ (name : Link). name.page) f.names ≡ map (λ (w : PageWrite). w.page) f.entry.writes
  pub says : SaysWrites protocol image f
  pub says_own : (w : PageWrite) → Contains f.entry.writes w → w.page ≡ f.rec.page →
      value_of (record { discard = f.rec.discard; bytes = f.bytes }) ≡ w.value
  pub outside : AreOutside protocol shape block waits image f.names
  pub slot : is_outside shape block f.at ≡ true
  pub last : All (λ name. is_present (records_in protocol (with_record protocol image f)) name ≡ true) f.names →
      Q f.entry

-- two started records of transactions that share no page, in two slots
pub record AreApart (f g : Fired) : Type 0 where
  pub pages : ShareNoPage f.names g.names
  pub slots : f.at ≢ g.at

-- An image in which slots wait, where records were started that wait too. Outside the block each current and each held
-- record has a slot that does not wait.
pub record IsUnflushed (protocol : Protocol) (logical : ℕ) (shape : Shape) (Q : Entry → Type 0) (block : ℕ)
    (waits : ℕ → Bool) (image : List Contents) (fired : List Fired) : Type 0 where
  pub sound : IsSoundImage protocol logical shape image
  pub exists : block < blocks_of shape
  pub spared : KeepsCounted protocol (records_in protocol image) logical (is_spared waits shape block)
  pub each : All (IsFired protocol logical shape Q block waits image) fired
  pub apart : AllPairs AreApart fired

-- What is left is sound. Its array is that of the image, where each of these transactions that is of this kind was
-- taken or not, by itself.
pub record IsLeftWhole (protocol : Protocol) (logical : ℕ) (shape : Shape) (Q : Entry → Type 0)
    (image : List Contents) (entries : List Entry) (left : List Contents) : Type 0 where
  pub sound : IsSoundImage protocol logical shape left
  pub array : MayTakeEach (array_in protocol logical image) Q entries (array_in protocol logical left)

-- Whatever a loss leaves of the records that a command started, and of what waited before, each transaction is whole
-- or absent; only one that the command may complete is whole.
abbrev pub LostWritesLaw : Protocol → Type 0
LostWritesLaw protocol =
    (logical : ℕ) (shape : Shape) (c : Command) (block : ℕ) (waits : ℕ → Bool) (image : List Contents)
    (fired : List Fired) (left : List Contents) →
    IsUnflushed protocol logical shape (MayComplete c) block waits image fired →
    IsLeftOf (waits_too waits fired) (with_records protocol image fired) left →
    IsLeftWhole protocol logical shape (MayComplete c) image (map (λ f. f.entry) fired) left
