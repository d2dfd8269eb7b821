-- The commit laws of images, from those of lists.
use Rattle.judged_records.proofs.Common.{◌≡◌, ℕ, ◌+◌, ◌*◌, ◌++◌, ◌<◌, ◌≤◌, Bool, true, List, set, take, drop, Option, None, Some, refl, sym, ap, ◌∙◌, subst, inl, inr, arith, All, Contains, get_or-map-range_with_len, All-contains, all_from, from_filter, Link, Rec, record_of, Found, name_of, is_present, Pages, PagesExist, IsSoundList, IsInserted, IsWrite, found_of, is_outside, cur, blocks_of, inserted_in, Protocol, Shape, Contents, blank, damaged, complete, Written, records_of, written_in, records_in, SlotReads}
use Rattle.std.proofs.Common.{◌^◌, replicate}
use Rattle.std.specs.Prelude.{slice_index_or, IsSomeAnd}
use Rattle.std.proofs.lemmas.List.Elements.{All-append, All-take, All-drop, All-replicate, All-set}
use Rattle.flash_model.specs.Flash.{IsImage}
use Rattle.flash_model.specs.Operations.{with_block}
use Rattle.page_record.specs.Spelling.{spelling}
use Rattle.page_record.proofs.Spellings.{record_of-spelling}
use Rattle.record_list.specs.Changes.{SameCurrent, LossKeeps}
use Rattle.record_list.specs.Written.{page_at, text_at, value_at, IsRemovable}
use Rattle.record_list.specs.WrittenChanges.{WrittenPartialWriteLaw, WrittenCompletingWriteLaw, WrittenCopyLaw, WrittenLossLaw}
use Rattle.record_list.specs.Losses.{left_written, WrittenLossKeeps}
use Rattle.record_list.proofs.OfChanges.OneMore.{new_in}
use Rattle.record_list.proofs.OfChanges.WrittenLists.{in_records, inserted_records, IsOneText, one_text}
use Rattle.record_list.proofs.OfChanges.Arrays.{array_grows, array_left, text_grows, text_new, text_old, page_committed, page_elsewhere}
use Rattle.record_list.specs.Written.{array_of, IsSoundWritten}
use Rattle.record_list.proofs.OfFacts.Names.{found_named, present_as}
use Rattle.judged_records.specs.Images.{array_in, IsSoundImage}
use Rattle.judged_records.specs.ImageChanges.{image_with, AsksFor, KeepsLost}
use Rattle.judged_records.specs.ImageLaws.{ImagePartialLaw, ImageCompletingLaw, ImageCopyLaw, ImageLossLaw, ImageDamageLaw}
use Rattle.judged_records.proofs.OfLaws.ImageScans.{written, written_inserted, written_damaged, records_scanned, HasNone, written_left, read_slot}

-- each name of a sound image has one text
pub image_text : (p : Protocol) (logical : ℕ) (shape : Shape) (image : List Contents) →
    IsSoundWritten p (written_in p image) logical shape →
    IsOneText (written_in p image)
image_text p logical shape image sound = one_text p (written_in p image) logical sound.records
    (records_scanned p image) sound.bytes

-- the array is that of the records
array_same : (p : Protocol) (logical : ℕ) (image image' : List Contents) → written_in p image' ≡ written_in p image →
    array_in p logical image' ≡ array_in p logical image
unfolding array_in
array_same p logical image image' e = ap (λ l. array_of p l logical) e

pub image_damage_law : (p : Protocol) → ImageDamageLaw p
image_damage_law p logical shape image at sound within was =
    let same = written_damaged p image at within was in
    record {
      sound = record {
        reads = All-set (SlotReads p logical) image at damaged tt sound.reads;
        written = subst (λ l. IsSoundWritten p l logical shape) (sym same) sound.written;
      };
      written = same;
      array = array_same p logical image (set image at damaged) same;
    }

-- the page that an array has
array_at : (p : Protocol) (logical : ℕ) (image : List Contents) (page : ℕ) → page < logical →
    slice_index_or (array_in p logical image) page None ≡ page_at p (written_in p image) logical page
unfolding array_in
array_at p logical image page within =
    get_or-map-range_with_len (page_at p (written_in p image) logical) 0 logical page page None within (omega arith)

-- with a record more, and the same current versions, the array is the same
grown : (p : Protocol) (logical : ℕ) (image image' : List Contents) (w : Written) →
    IsSoundList p (records_in p image) logical →
    IsOneText (written_in p image') → IsInserted (written_in p image) w (written_in p image') →
    SameCurrent p (records_in p image) (records_in p image') logical →
    array_in p logical image' ≡ array_in p logical image
unfolding array_in
grown p logical image image' w sound text added same =
    array_grows p (written_in p image) (written_in p image') logical w sound (records_scanned p image)
    (records_scanned p image') text added same

-- a record that is asked for, in its slot
pub record Writes (p : Protocol) (logical : ℕ) (image : List Contents) (names : List Link) (at : ℕ) (bytes : List ℕ)
    (rec : Rec) : Type 0 where
  pub spells : record_of p (spelling p rec) ≡ Some rec
  pub added : IsInserted (written_in p image) (written at rec bytes) (written_in p (image_with p image at bytes rec))
  pub write : IsWrite p (records_in p image) (records_in p (image_with p image at bytes rec)) logical names
      (found_of (written at rec bytes))

pub writes : (p : Protocol) (logical : ℕ) (shape : Shape) (image : List Contents) (names : List Link) (at : ℕ)
    (bytes : List ℕ) (rec : Rec) →
    AsksFor p logical shape image names at rec → Writes p logical image names at bytes rec
writes p logical shape image names at bytes rec a =
    let spells = record_of-spelling p rec a.spelled in
    let added = written_inserted p image at bytes (spelling p rec) rec a.within a.blank spells in
    record {
      spells = spells;
      added = added;
      write = record {
        scanned = records_scanned p image;
        scanned' = records_scanned p (image_with p image at bytes rec);
        in_progress = a.in_progress;
        added = inserted_records (written_in p image) (written_in p (image_with p image at bytes rec))
            (written at rec bytes) added;
        named = a.named;
        fresh = a.fresh;
        asked = a.asked;
        clear = a.clear;
      };
    }

-- the slot of a record whose pages exist reads
slot_reads : (p : Protocol) (logical : ℕ) (bytes spare : List ℕ) (rec : Rec) → record_of p spare ≡ Some rec →
    (rec.page < logical) × (rec.next.page < logical) → SlotReads p logical (complete bytes spare)
slot_reads p logical bytes spare rec is pages =
    subst (λ o. IsSomeAnd o (λ r. (r.page < logical) × (r.next.page < logical))) (sym is) pages

-- with a sound list of records, an image with a record more is sound
sound_with : (p : Protocol) (logical : ℕ) (shape : Shape) (image : List Contents) (at : ℕ)
    (bytes spare : List ℕ) (rec : Rec) →
    IsSoundImage p logical shape image → record_of p spare ≡ Some rec →
    IsInserted (written_in p image) (written at rec bytes) (written_in p (set image at (complete bytes spare))) →
    IsSoundWritten p (written_in p (set image at (complete bytes spare))) logical shape →
    IsSoundImage p logical shape (set image at (complete bytes spare))
sound_with p logical shape image at bytes spare rec sound spells added written' =
    let m = written_in p (set image at (complete bytes spare)) in
    let there = in_records m (written at rec bytes) (new_in (written_in p image) m (written at rec bytes) added) in
    record {
      reads = All-set (SlotReads p logical) image at (complete bytes spare)
          (slot_reads p logical bytes spare rec spells (All-contains (PagesExist logical) (records_of m)
          (found_of (written at rec bytes))
          (written'.records Pages) there))
          sound.reads;
      written = written';
    }

pub image_partial_law : (p : Protocol) → WrittenPartialWriteLaw p → ImagePartialLaw p
image_partial_law p law logical shape image names at bytes rec a absent =
    let l = written_in p image in
    let m = written_in p (image_with p image at bytes rec) in
    let w = written at rec bytes in
    let how = writes p logical shape image names at bytes rec a in
    let kept = law l m logical shape names w a.sound.written how.added how.write absent in
    let text = image_text p logical shape (image_with p image at bytes rec) kept.0 in
    record {
      sound = sound_with p logical shape image at bytes (spelling p rec) rec a.sound how.spells how.added kept.0;
      records = kept.1;
      array = grown p logical image (image_with p image at bytes rec) w a.sound.written.records text how.added
          (kept.1).same_current;
      old_texts = λ name h. text_old l m w name text how.added h;
      new_text = text_new l m w text how.added;
    }

pub image_completing_law : (p : Protocol) → WrittenCompletingWriteLaw p → ImageCompletingLaw p
image_completing_law p law logical shape image names at bytes rec a present room =
    let image' = image_with p image at bytes rec in
    let l = written_in p image in
    let m = written_in p image' in
    let w = written at rec bytes in
    let how = writes p logical shape image names at bytes rec a in
    let kept = law l m logical shape names w a.sound.written how.added how.write present room in
    let text = image_text p logical shape image' kept.0 in
    let ranged = a.in_progress.begun.transaction.in_range in
    record {
      sound = sound_with p logical shape image at bytes (spelling p rec) rec a.sound how.spells how.added kept.0;
      records = kept.1;
      taken = all_from (λ name. slice_index_or (array_in p logical image') name.page None ≡ value_at m name)
          names (λ name i.
          array_at p logical image' name.page (All-contains (λ n. (n.page < logical) × (1 ≤ n.version)
          × (n.version ≤ 2 ^ 62)) names name ranged i).0
          ∙ page_committed p m logical name (All-contains (λ n. cur p (records_of m) logical n.page ≡ n.version) names
          name (kept.1).committed i));
      elsewhere = λ page within others.
          array_at p logical image' page within
          ∙ page_elsewhere p l m logical page w a.sound.written.records (records_scanned p image)
          (records_scanned p image') text how.added
          ((kept.1).elsewhere page within others)
          ∙ sym (array_at p logical image page within);
      old_texts = λ name h. text_old l m w name text how.added h;
      new_text = text_new l m w text how.added;
    }

-- the record of a complete slot of a sound image
record HasRecord (p : Protocol) (logical : ℕ) (spare : List ℕ) : Type 0 where
  pub rec : Rec
  pub spells : record_of p spare ≡ Some rec

has_record : (p : Protocol) (logical : ℕ) (bytes spare : List ℕ) → SlotReads p logical (complete bytes spare) →
    HasRecord p logical spare
has_record p logical bytes spare reads = found (record_of p spare) refl reads
  where
    found : (o : Option Rec) → record_of p spare ≡ o → IsSomeAnd o (λ r. (r.page < logical) × (r.next.page < logical)) →
        HasRecord p logical spare
    found None is h = absurd h
    found (Some rec) is h = record { rec = rec; spells = is }

pub image_copy_law : (p : Protocol) → WrittenCopyLaw p → ImageCopyLaw p
image_copy_law p law logical shape image from to bytes spare sound from_within to_within source was =
    let image' = set image to (complete bytes spare) in
    let l = written_in p image in
    let m = written_in p image' in
    let source_reads = subst (SlotReads p logical) source (sound.reads from blank from_within) in
    let has = has_record p logical bytes spare source_reads in
    let w = written to has.rec bytes in
    let added = written_inserted p image to bytes spare has.rec to_within was has.spells in
    let there = read_slot p image from bytes spare has.rec from_within source has.spells in
    let kept = law l m logical shape w sound.written added (records_scanned p image) (records_scanned p image')
    (there.0, written from has.rec bytes, there.1, there.2, (refl, refl)) in
    let text = image_text p logical shape image' kept.0 in
    let in_old : (f : Found) (name : Link) → Contains (records_of m) f → name_of f.rec ≡ name →
    is_present (records_of l) name ≡ true =
    λ f name i e. elim (inserted_in (records_of l) (records_of m) (found_of w) (inserted_records l m w added) f i) [
      | inl is ↦ present_as (records_of l) (found_of (written from has.rec bytes)) name
          (in_records l (written from has.rec bytes) there)
          (ap (λ (g : Found). name_of g.rec) is ∙ e)
      | inr j ↦ present_as (records_of l) f name j e
    ] in
    record {
      names = λ name h. let f = found_named (records_of m) name h in in_old f.0 name f.1 f.2;
      sound = sound_with p logical shape image to bytes spare has.rec sound has.spells added kept.0;
      records = kept.1;
      array = grown p logical image image' w sound.written.records text added (kept.1).same_current;
      texts = λ name h. text_old l m w name text added h;
    }

-- an image whose records are those of the slots that pass a test keeps what the loss of the others keeps
pub less_written : (p : Protocol) (logical : ℕ) (shape : Shape) (image image' : List Contents) (keep : ℕ → Bool) →
    IsSoundImage p logical shape image →
    written_in p image' ≡ left_written keep (written_in p image) → All (SlotReads p logical) image' →
    WrittenLossKeeps p (written_in p image) (left_written keep (written_in p image)) logical shape →
    KeepsLost p logical shape image image'
unfolding array_in
less_written p logical shape image image' keep sound is reads kept =
    let l = written_in p image in
    let m = left_written keep l in
    record {
      sound = record { reads = reads; written = subst (λ x. IsSoundWritten p x logical shape) (sym is) kept.sound };
      records = subst (λ x. LossKeeps p (records_of l) (records_of x) logical) (sym is) kept.records;
      array = ap (λ x. array_of p x logical) is ∙ kept.array;
      texts = λ name h.
          text_grows m l name (image_text p logical shape image sound.written)
          (λ v i. (from_filter (λ w. keep w.slot.0) v l i).0)
          (subst (λ x. is_present (records_of x) name ≡ true) is h)
          ∙ sym (ap (λ x. text_at x name) is);
    }

-- the block may hold anything without a record
lost : (p : Protocol) → WrittenLossLaw p → (logical : ℕ) (shape : Shape) (image : List Contents) (block : ℕ)
    (contents : Contents) →
    IsSoundImage p logical shape image → IsImage shape image → block < blocks_of shape →
    IsRemovable p (records_in p image) logical shape block →
    HasNone p contents → SlotReads p logical contents →
    KeepsLost p logical shape image (with_block shape image block contents)
lost p law logical shape image block contents sound whole below removable none reads =
    let l = written_in p image in
    let kept = law l logical shape block sound.written (records_scanned p image) below removable in
    less_written p logical shape image (with_block shape image block contents) (is_outside shape block) sound
    (written_left p shape image whole block below contents none)
    (All-append (SlotReads p logical) (take (block * shape.pages_per_block) image
    ++ replicate shape.pages_per_block contents)
    (drop ((block + 1) * shape.pages_per_block) image)
    (All-append (SlotReads p logical) (take (block * shape.pages_per_block) image)
    (replicate shape.pages_per_block contents)
    (All-take (SlotReads p logical) (block * shape.pages_per_block) image sound.reads)
    (All-replicate (SlotReads p logical) shape.pages_per_block contents reads))
    (All-drop (SlotReads p logical) ((block + 1) * shape.pages_per_block) image sound.reads))
    (record {
      sound = kept.0;
      records = kept.1;
      array = array_left p l logical (is_outside shape block) sound.written.records (records_scanned p image)
          sound.written.bytes removable
          (kept.1).same_current;
    })

pub image_loss_law : (p : Protocol) → WrittenLossLaw p → ImageLossLaw p
image_loss_law p law logical shape image block sound whole below removable = (
  lost p law logical shape image block blank sound whole below removable (λ slot. refl) tt,
  lost p law logical shape image block damaged sound whole below removable (λ slot. refl) tt,
)
