-- What each call of the file means for the slots.
use Rattle.live_flash.proofs.Common.{◌≡◌, ◌⊎◌, ℕ, ◌+◌, ◌-◌, ◌*◌, ◌<◌, ◌≤◌, List, [], ◌∷◌, ◌++◌, length, get_or, set, Option, Some, None, Result, Ok, Err, OnOk, IfSome, All, refl, sym, ap, subst, ◌∙◌, inl, inr, arith, slots_of, Shape, Slot, Contents, blank, damaged, complete, slot_at, IsWhole, IsImage, cell_bytes, cell_of, StoreError, FileState, WritesFile, BothTell, counted, erased, slot_bytes, slot_offset, last_of, IsOpened, IsSlot, Holds, IsTurning, TurnsSlot}
use Rattle.std.proofs.lemmas.List.{length-replicate, length-set, get_or-set_same, get_or_default}
use Rattle.std.proofs.lemmas.List.Elements.{All-replicate, All-set}
use Rattle.list_lemmas.proofs.Bytes.{IsBytes, IsBytes-all}
use Rattle.image_file.proofs.ImageLemmas.{length-cell_of}
use Rattle.flash_model.specs.Calls.{seen_of}
use Rattle.flash_model.specs.declared.flash.Seen.TheVariants.{Blank, Complete, Damaged}
use Rattle.file_flash.specs.Clearing.{IsBare}
use Rattle.file_flash.proofs.Told.{weaken}
use Rattle.file_flash.proofs.Writing.{may_write}
use Rattle.zero_count.proofs.WholeLemmas.{length_counted, counted_bytes}
use Rattle.live_image.proofs.Reading.{written_counted, written_complete, erased_less, erased_blank, damaged_by_last}
use Rattle.live_flash.proofs.Places.{others_stay, header_stays, slot_end}
use Rattle.live_flash.proofs.Turning.{held_turns, marked_over, marked_slot}

-- ---- the bytes that are written

-- bytes are bytes at each place
pub all_bytes : (bytes : List ℕ) → IsBytes bytes → All (λ b. b < 256) bytes
all_bytes bytes is k d inside = subst (λ b. b < 256) (get_or_default bytes k 0 d inside) (is.at k)

-- those of a slot with contents
pub counted_slot : (page_bytes : ℕ) (bytes spare_area : List ℕ) → IsWhole page_bytes (complete bytes spare_area) →
    page_bytes ≤ 4096 → All (λ b. b < 256) (bytes ++ spare_area) →
    IsSlot page_bytes (complete bytes spare_area) (counted (bytes ++ spare_area))
counted_slot page_bytes bytes spare_area whole most all =
    let cell_long : length (bytes ++ spare_area) ≡ page_bytes + 64 =
    length-cell_of page_bytes (complete bytes spare_area) whole in
    record {
      long = omega (arith, length_counted (bytes ++ spare_area), cell_long);
      bytes = all_bytes (counted (bytes ++ spare_area)) (counted_bytes (bytes ++ spare_area)
          (IsBytes-all (bytes ++ spare_area) all));
      counts = written_counted (bytes ++ spare_area) (omega (arith, cell_long, most));
      reads = written_complete page_bytes bytes spare_area whole (omega (arith, most));
      empty = λ e. absurd (cc);
    }

-- those of an erased one
pub empty_slot : (page_bytes : ℕ) → IsSlot page_bytes blank (erased (slot_bytes page_bytes))
empty_slot page_bytes = record {
  long = length-replicate (slot_bytes page_bytes) (let ones : ℕ = 255 in ones);
  bytes = All-replicate (λ b. b < 256) (slot_bytes page_bytes) 255 (omega arith);
  counts = omega (arith, erased_less (page_bytes + 64));
  reads = erased_blank page_bytes (page_bytes + 64);
  empty = λ e. refl;
}

-- those of a damaged one
pub damaged_slot : (page_bytes : ℕ) → page_bytes ≤ 4096 →
    IsSlot page_bytes damaged (set (erased (slot_bytes page_bytes)) (slot_bytes page_bytes - 1) 128)
damaged_slot page_bytes most =
    let full : length (erased (slot_bytes page_bytes)) ≡ slot_bytes page_bytes =
    length-replicate {A = ℕ} (slot_bytes page_bytes) 255 in
    let long : length (set (erased (slot_bytes page_bytes)) (slot_bytes page_bytes - 1) 128) ≡ slot_bytes page_bytes =
    length-set (erased (slot_bytes page_bytes)) (slot_bytes page_bytes - 1) 128 ∙ full in
    let last : last_of (set (erased (slot_bytes page_bytes)) (slot_bytes page_bytes - 1) 128) ≡ 128 =
    ap (λ n. get_or (set (erased (slot_bytes page_bytes)) (slot_bytes page_bytes - 1) 128) (n - 1) 0) long
    ∙ get_or-set_same (erased (slot_bytes page_bytes)) (slot_bytes page_bytes - 1) 128 0 (omega (arith, full)) in
    let d = damaged_by_last page_bytes (set (erased (slot_bytes page_bytes)) (slot_bytes page_bytes - 1) 128)
    (omega (arith, long)) (omega (arith, long, most)) last in
    record {
      long = long;
      bytes = All-set (λ b. b < 256) (erased (slot_bytes page_bytes)) (slot_bytes page_bytes - 1) 128 (omega arith)
          (All-replicate (λ b. b < 256) (slot_bytes page_bytes) 255 (omega arith));
      counts = d.1;
      reads = d.0;
      empty = λ e. absurd (cc);
    }

-- ---- the call that marks a slot

module _ (shape : Shape) (at : ℕ) (r : Result (Unit {0}) StoreError) (before after : FileState)
    (most : shape.page_bytes ≤ 4096) where
  room : slot_bytes shape.page_bytes ≤ 268435459
  room = omega (arith, most)

  -- the last byte of any is written
  pub mark_turns : (old : Contents) →
      WritesFile (slot_offset shape at + (cell_bytes shape.page_bytes + 3)) (128 ∷ []) r before after →
      TurnsSlot shape at old damaged r before after
  mark_turns old w =
      let may = may_write (slot_offset shape at + (cell_bytes shape.page_bytes + 3)) (128 ∷ []) r before after w in
      let fits : cell_bytes shape.page_bytes + 3 + 1 ≤ slot_bytes shape.page_bytes = omega arith in
      record {
        long = may.long;
        copies = may.copies;
        header = header_stays shape at (cell_bytes shape.page_bytes + 3) (128 ∷ []) before after fits may;
        others = others_stay shape at (cell_bytes shape.page_bytes + 3) (128 ∷ []) before after fits may;
        either = λ h. marked_over shape at old before after room h may;
        turns = λ h. done r w h;
      }
    where
      done : (x : Result (Unit {0}) StoreError) →
          WritesFile (slot_offset shape at + (cell_bytes shape.page_bytes + 3)) (128 ∷ []) x before after →
          Holds shape old before at → OnOk x (IsTurning shape old damaged after at)
      done (Err e) x h = tt
      done (Ok u) x h = marked_slot shape at old before after room h x

-- nothing is written, and it holds what it held
pub same_turns : (shape : Shape) (at : ℕ) (old new : Contents) (file : FileState) → new ≡ old →
    TurnsSlot shape at old new (Ok tt) file file
same_turns shape at old new file same = subst (λ c. TurnsSlot shape at old c (Ok tt) file file) (sym same) (record {
  long = refl;
  copies = λ e. e;
  header = λ k inside. refl;
  others = λ k j ne inside. refl;
  either = λ h. (held_turns shape old file at h).left;
  turns = λ h. held_turns shape old file at h;
})

-- ---- of what is told

pub told_as : (P Q : FileState → FileState → Type 0) (old new : Option FileState) → BothTell P old new →
    ((a b : FileState) → P a b → Q a b) → BothTell Q old new
told_as P Q None None told step = tt
told_as P Q (Some a) (Some b) told step = step a b told
told_as P Q None (Some b) told step = absurd told
told_as P Q (Some a) None told step = absurd told

pub told_same : (P : FileState → FileState → Type 0) (file : Option FileState) → ((a : FileState) → P a a) →
    BothTell P file file
told_same P None step = tt
told_same P (Some a) step = step a

-- a slot ends within the file
pub slot_room : (shape : Shape) (at offset : ℕ) (bytes : List ℕ) (file : Option FileState) → at < slots_of shape →
    offset + length bytes ≤ slot_offset shape at + slot_bytes shape.page_bytes → IfSome file (IsOpened shape) →
    IfSome file (λ f. offset + length bytes ≤ length f.values)
slot_room shape at offset bytes file low fits o =
    weaken (IsOpened shape) (λ f. offset + length bytes ≤ length f.values) file o
    (λ f it.
    let all : length f.values ≡ 64 + slots_of shape * slot_bytes shape.page_bytes = it.long in
    omega (arith, fits, all, slot_end (slots_of shape) (slot_bytes shape.page_bytes) at low))

-- ---- by how a slot reads

pub blank_read : (c : Contents) → Blank ≡ seen_of c → c ≡ blank
blank_read blank e = refl
blank_read damaged e = absurd (cc)
blank_read (complete bytes spare_area) e = absurd (cc)

pub damaged_read : (c : Contents) → Damaged ≡ seen_of c → c ≡ damaged
damaged_read blank e = absurd (cc)
damaged_read damaged e = refl
damaged_read (complete bytes spare_area) e = absurd (cc)

-- a complete slot has contents
pub kept_whole : (c old : Contents) → Complete ≡ seen_of c → (c ≡ old) ⊎ IsBare c → c ≡ old
kept_whole c old e (inl same) = same
kept_whole blank old e (inr bare) = absurd (cc)
kept_whole damaged old e (inr bare) = absurd (cc)
kept_whole (complete bytes spare_area) old e (inr bare) = absurd bare

-- and these are its bytes
pub written_is : (page_bytes : ℕ) (c : Contents) → Complete ≡ seen_of c → IsWhole page_bytes c → page_bytes ≤ 4096 →
    All (λ b. b < 256) (cell_of page_bytes c) → IsSlot page_bytes c (counted (cell_of page_bytes c))
written_is page_bytes blank e whole most all = absurd (cc)
written_is page_bytes damaged e whole most all = absurd (cc)
written_is page_bytes (complete bytes spare_area) e whole most all =
    counted_slot page_bytes bytes spare_area whole most all

-- ---- by what is told

module _ (shape : Shape) (image : List Contents) (is : IsImage shape image) (at : Slot) (exists : at.0 < slots_of shape)
    (r : Result (Unit {0}) StoreError) (before after : Option FileState) where
  abbrev c : Contents
  c = slot_at image at.0

  most : shape.page_bytes ≤ 4096
  most = is.bounds.page_most

  pub mark_told : (its : Shape) (old : Contents) → its ≡ shape → Damaged ≡ seen_of c →
      BothTell (WritesFile (slot_offset its at.0 + (cell_bytes its.page_bytes + 3)) (128 ∷ []) r) before after →
      BothTell (TurnsSlot shape at.0 old c r) before after
  mark_told its old same reads told =
      told_as (WritesFile (slot_offset shape at.0 + (cell_bytes shape.page_bytes + 3)) (128 ∷ []) r)
      (TurnsSlot shape at.0 old c r) before after
      (subst (λ (s : Shape). BothTell (WritesFile (slot_offset s at.0 + (cell_bytes s.page_bytes + 3)) (128 ∷ []) r)
      before after) same told)
      (λ a b w. subst (λ x. TurnsSlot shape at.0 old x r a b) (sym (damaged_read c reads))
      (mark_turns shape at.0 r a b most old w))

  pub keep_told : (old : Contents) → Complete ≡ seen_of c → (c ≡ old) ⊎ IsBare c →
      BothTell (TurnsSlot shape at.0 old c (Ok tt)) before before
  keep_told old reads how = told_same (TurnsSlot shape at.0 old c (Ok tt)) before
      (λ a. same_turns shape at.0 old c a (kept_whole c old reads how))
