-- Finding out what a broken operation left: what is noted then, how the blocks stand, and the answer.
use Rattle.std.specs.Prelude.{◌≡◌, ℕ, ◌<◌, Bool, true, false, List, length, count_by, if◌then◌else◌, Result, IfOk, OnOk, OnErr}
use Rattle.std.specs.List.{list_all}
use Rattle.std.specs.Result.{is_err}
use Rattle.tx_types.specs.Config.{shape_of, blocks_of}
use Rattle.tx_types.specs.declared.config.Protocol.{Protocol}
use Rattle.flash_model.specs.declared.flash.Broken.{Broken}
use Rattle.flash_model.specs.declared.flash.Seen.{Seen}
use Rattle.flash_model.specs.declared.flash.Seen.TheVariants as seen
use Rattle.flash_model.specs.Calls.{Carries}
use Rattle.flash_model.specs.Flash.{FlashState, IsFlash, Contents, blank, damaged, complete, slot_at, counted_times}
use Rattle.flash_model.specs.Operations.{moment_of}
use Rattle.judged_records.specs.declared.note.Note.{Note}
use Rattle.judged_records.specs.declared.note.Note.TheVariants.{Blank, Damaged, Holds}
use Rattle.judged_records.specs.Notes.{note_at}
use Rattle.judged_records.specs.IndexState.{IndexState, IsNoted, programmed, damaged_at, copied, erased, lost, with_spare}
use Rattle.die_alloc.specs.BlocksState.{BlocksState, with_slot}
use Rattle.collector.specs.declared.reading.BlockReading.{BlockReading}
use Rattle.collector.specs.declared.unsure.Settled.{Settled}
use Rattle.collector.specs.declared.unsure.Settled.TheVariants.{Other, Present, Missing}
use Rattle.collector.specs.declared.unsure.Unsure.{Unsure}
use Rattle.collector.specs.declared.unsure.Unsure.TheVariants as unsure
use Rattle.collector.specs.Collecting.{slots_in, is_blank_block, swapped}
use Rattle.collector.specs.Looking.{Looks, ReadsAtMost}
use Rattle.collector.specs.Matches.{Matches, CanTake}
use Rattle.collector.specs.StoreParts.{StoreParts, StorePartsInvariant}

-- what is known once the place was read
pub record Settlement : Type 0 where
  pub noted : IndexState
  pub table : BlocksState
  pub answer : Settled

-- a slot reads as it is noted: blank, damaged or complete
abbrev pub reads_as : Note → Contents → Bool
reads_as Blank blank = true
reads_as Damaged damaged = true
reads_as (Holds rec) (complete bytes spare) = true
reads_as _ _ = false

-- two slots read alike
abbrev pub reads_alike : Seen → Seen → Bool
reads_alike seen.Blank seen.Blank = true
reads_alike seen.Damaged seen.Damaged = true
reads_alike seen.Complete seen.Complete = true
reads_alike _ _ = false

abbrev pub block_reads_as_noted : IndexState → List Contents → ℕ → Bool
block_reads_as_noted n image block =
    list_all (λ slot. reads_as (note_at n.notes slot) (slot_at image slot)) (slots_in n block)

-- what reading a block asks for
pub record CanReadBlock (p : Protocol) (s : FlashState) (n : IndexState) (block : ℕ)
    (page : List ℕ) : Type 0 where
  pub shape : s.shape ≡ shape_of n.config
  pub flash : IsFlash s
  pub noted : IsNoted p n
  pub exists : block < blocks_of (shape_of n.config)
  pub room : length page ≡ n.config.page_bytes

-- each slot of a block was read
pub record ReadsBlock (n : IndexState) (image : List Contents) (block : ℕ)
    (reading : BlockReading) : Type 0 where
  pub as_noted : reading.as_noted ≡ block_reads_as_noted n image block
  pub blank : reading.blank ≡ is_blank_block n image block

abbrev pub holds_record : Note → Bool
holds_record Blank = false
holds_record Damaged = false
holds_record (Holds rec) = true

-- how many slots of a block hold records
abbrev pub count_records : IndexState → ℕ → ℕ
count_records n block = count_by (λ slot. holds_record (note_at n.notes slot)) (slots_in n block)

-- the slot of a program of an open transaction's record: a damaged one is used too
abbrev pub own_settled : IndexState → BlocksState → ℕ → (IndexState → IndexState) → Contents → Settlement
own_settled n t at done blank = record { noted = n; table = t; answer = Missing }
own_settled n t at done damaged =
    record { noted = damaged_at n at; table = with_slot t at; answer = Missing }
own_settled n t at done (complete bytes spare) =
    record { noted = done n; table = with_slot t at; answer = Present }

-- the slot of a copy
abbrev pub copy_settled : IndexState → ℕ → ℕ → Contents → IndexState
copy_settled n from to blank = n
copy_settled n from to damaged = damaged_at n to
copy_settled n from to (complete bytes spare) = copied n from to

-- a block whose erase is known to have changed it: erased, where it reads all blank, and else lost
abbrev pub block_settled : IndexState → List Contents → ℕ → IndexState
block_settled n image block = if is_blank_block n image block then erased n block else lost n block

-- a collected block that was erased or lost is the spare
abbrev pub victim_settled : IndexState → BlocksState → List Contents → ℕ → Settlement
victim_settled n t image block = record {
  noted = with_spare (block_settled n image block) block;
  table = swapped t block (count_records n t.spare);
  answer = Other;
}

abbrev pub unchanged : IndexState → BlocksState → Settlement
unchanged n t = record { noted = n; table = t; answer = Other }

-- what is known once the place was read that was not known
abbrev pub settlement : IndexState → BlocksState → List Contents → Unsure → Settlement
settlement n t image unsure.Nothing = unchanged n t
settlement n t image (unsure.Own at rec) =
    own_settled n t at.0 (λ m. programmed m at.0 rec) (slot_at image at.0)
settlement n t image (unsure.Copy from to) =
    record { noted = copy_settled n from.0 to.0 (slot_at image to.0); table = t; answer = Other }
settlement n t image unsure.SpareErase =
    if block_reads_as_noted n image t.spare then unchanged n t
    else record { noted = block_settled n image t.spare; table = t; answer = Other }
settlement n t image (unsure.VictimErase block) =
    if block_reads_as_noted n image block.0 then unchanged n t else victim_settled n t image block.0

-- how many slots are read for it
abbrev pub slots_read : IndexState → Unsure → ℕ
slots_read n unsure.Nothing = 0
slots_read n (unsure.Own at rec) = 1
slots_read n (unsure.Copy from to) = 1
slots_read n unsure.SpareErase = n.config.pages_per_block
slots_read n (unsure.VictimErase block) = n.config.pages_per_block

-- what settling asks for
pub record CanSettle (p : Protocol) (a : StoreParts) (page : List ℕ) : Type 0 where
  pub kept : StorePartsInvariant p a
  pub own : CanTake a.noted a.table a.unsure
  pub room : length page ≡ a.noted.config.page_bytes

-- the tables and the answer are those that are known once the place was read
pub record IsFound (found : Settlement) (n : IndexState) (t : BlocksState) (told : Settled) : Type 0 where
  pub noted : n ≡ found.noted
  pub table : t ≡ found.table
  pub answer : told ≡ found.answer

-- The place was read, slot by slot, and the tables say what was found. After a failed read they are as before.
pub record Finds (a : StoreParts) (s : FlashState) (n : IndexState) (t : BlocksState)
    (result : Result Settled Broken) : Type 0 where
  pub found : IfOk result
      (IsFound (settlement a.noted a.table a.flash.image a.unsure) n t)
  pub failed : OnErr result ((n ≡ a.noted) × (t ≡ a.table))
  pub looks : Looks a.flash s (slots_read a.noted a.unsure) (is_err result)

-- Finding out what a broken operation left. The image stays, and the tables match. After a failed read all is as before
-- but the count of reads.
pub record Settles (a b : StoreParts) (result : Result Settled Broken) : Type 0 where
  pub matches : Matches b.flash b.noted b.table b.unsure
  pub found : IfOk result
      (IsFound (settlement a.noted a.table a.flash.image a.unsure) b.noted b.table)
  pub sure : OnOk result (b.unsure ≡ unsure.Nothing)
  pub failed : OnErr result
      ((b.noted ≡ a.noted) × (b.table ≡ a.table) × (b.unsure ≡ a.unsure))
  pub moment : moment_of b.flash ≡ moment_of a.flash
  pub carries : Carries a.flash b.flash (is_err result)
  pub reads : OnOk result (b.flash.reads ≡ counted_times (slots_read a.noted a.unsure) a.flash.reads)
  pub first_failed : OnErr result
      (ReadsAtMost (slots_read a.noted a.unsure) a.flash.reads b.flash.reads)
