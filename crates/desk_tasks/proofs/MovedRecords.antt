-- Where the records of an image stand once a block was retired, from the operations that were done.
use Rattle.desk_tasks.proofs.Common.{◌≡◌, ℕ, suc, ◌*◌, ◌<◌, List, [], ◌∷◌, length, refl, ap, sym, ◌∙◌, arith, inl, inr, Some, subst, Contents, shape_of, Config, Protocol}
use Rattle.std.proofs.Common.{◌≢◌, ◌⊎◌, zero, ◌+◌, ◌/◌, ◌≤◌, ◌==◌, ◌++◌, Bool, true, false, eqb-true, ap₂, map, filter, take, drop, replicate, Contains, if◌then◌else◌}
use Rattle.std.specs.List.{enumerate_from, range_with_len}
use Rattle.std.specs.Prelude.{filter_map}
use Rattle.std.proofs.lemmas.Bool.{cases_lt}
use Rattle.std.proofs.lemmas.List.{get_or-map, get_or-set_other, get_or-set_same, get_or_past, length-map, map-append, take-map, drop-map}
use Rattle.std.proofs.lemmas.Nat.{div-mul-add}
use Rattle.std.proofs.lemmas.Option.{none-some}
use Rattle.list_lemmas.proofs.Membership.{Contains-first, Contains-rest, from_filter}
use Rattle.list_lemmas.proofs.Ranges.{all_range, filter_most, range_bounds}
use Rattle.tx_types.specs.Config.{blocks_of, slots_of}
use Rattle.tx_types.specs.declared.config.Shape.{Shape}
use Rattle.tx_types.specs.declared.record.Rec.{Rec}
use Rattle.flash_model.specs.Calls.{page_of, spare_area_of}
use Rattle.flash_model.specs.Flash.{FlashState, IsFlash, IsImage, blank, damaged, complete, slot_at}
use Rattle.flash_model.specs.Moves.{Does}
use Rattle.flash_model.specs.Operations.{Moment, Operation, after, erase, moment_of, with_block}
use Rattle.flash_model.specs.Retiring.{RetiresAfter}
use Rattle.flash_model.proofs.ImageLemmas.{IsImage-after, IsImage-does, block_within, outside_block, slot_at-with_block_in, slot_at-with_block_out}
use Rattle.record_list.specs.Written.{is_needed}
use Rattle.judged_records.specs.declared.note.Note.TheVariants.{Blank, Holds}
use Rattle.judged_records.specs.IndexState.{IndexState, needed_of, pinned_at}
use Rattle.judged_records.specs.Notes.{found_in, note_at, note_of, notes_of, rec_of, with_block_noted}
use Rattle.judged_records.specs.Opening.{IsChosenSpare, opening_noted}
use Rattle.judged_records.proofs.OfLaws.NotedImages.{found_in_notes}
use Rattle.judged_records.proofs.OfNotes.FoundIn.{noted_from}
use Rattle.collector.specs.Collecting.{cleaning, copies, copy_program, is_blank_block, is_blank_slot, needed_slots, noted_cleaned, slots_in}
use Rattle.collector.specs.Retiring.{retiring_first}
use Rattle.collector.proofs.OfCopies.CopyingBlocks.{blocks_away}
use Rattle.collector.proofs.OfNotes.NeedFacts.{home_needed}
use Rattle.collector.proofs.OfNotes.NotesLeft.{note_at-out}
use Rattle.desk_tasks.specs.Retirements.{MovesNeeded, needed_in}

-- ---- operations, slot by slot

-- operations one after another, cut in two
does_apart : (shape : Shape) (a b : Moment) (xs ys : List Operation) → Does shape a (xs ++ ys) b →
    (m : Moment) × Does shape a xs m × Does shape m ys b
does_apart shape a b [] ys does = (a, refl, does)
does_apart shape a b (o ∷ rest) ys does =
    let parts = does_apart shape (after shape a o) b rest ys does.1 in (parts.0, (does.0, parts.1), parts.2)

-- what the copy of a slot holds
abbrev copied_contents : ℕ → List Contents → ℕ → Contents
copied_contents size image from = complete (page_of size (slot_at image from)) (spare_area_of (slot_at image from))

-- copies leave each slot but those that they program
copies_outside : (shape : Shape) (size : ℕ) (image : List Contents) (to : ℕ) (list : List ℕ) (a b : Moment) (k : ℕ) →
    Does shape a (copies size image to list) b → (k < to) ⊎ (to + length list ≤ k) →
    slot_at b.image k ≡ slot_at a.image k
copies_outside shape size image to [] a b k does away = ap (λ (m : Moment). slot_at m.image k) does
copies_outside shape size image to (from ∷ rest) a b k does (inl before) =
    copies_outside shape size image (to + 1) rest (after shape a (copy_program size image to from)) b k does.1
    (inl (omega (arith, before)))
    ∙ get_or-set_other a.image to k (copied_contents size image from) blank (λ same. omega (arith, before, same))
copies_outside shape size image to (from ∷ rest) a b k does (inr behind) =
    copies_outside shape size image (to + 1) rest (after shape a (copy_program size image to from)) b k does.1
    (inr (omega (arith, behind)))
    ∙ get_or-set_other a.image to k (copied_contents size image from) blank (λ same. omega (arith, behind, same))

-- and those hold copies, in their order
copies_inside : (shape : Shape) (size : ℕ) (image : List Contents) (to : ℕ) (list : List ℕ) (a b : Moment) (k : ℕ) →
    IsImage shape a.image → Does shape a (copies size image to list) b → k < length list →
    slot_at b.image (to + k) ≡ slot_at (map (copied_contents size image) list) k
copies_inside shape size image to [] a b k whole does low = absurd (omega (arith, low))
copies_inside shape size image to (from ∷ rest) a b zero whole does low =
    let next = after shape a (copy_program size image to from) in
    ap (λ q. slot_at b.image q) (let same : to + zero ≡ to = omega arith in same)
    ∙ copies_outside shape size image (to + 1) rest next b to does.1 (inl (omega arith))
    ∙ get_or-set_same a.image to (copied_contents size image from) blank
    (omega (arith, does.0.0.in_range, whole.slots))
copies_inside shape size image to (from ∷ rest) a b (suc k) whole does low =
    let next = after shape a (copy_program size image to from) in
    ap (λ q. slot_at b.image q) (let same : to + suc k ≡ to + 1 + k = omega arith in same)
    ∙ copies_inside shape size image (to + 1) rest next b k
    (IsImage-after shape a.image (copy_program size image to from) whole does.0) does.1 (omega (arith, low))

-- functions that agree on a list
map_same : (f g : ℕ → Contents) (list : List ℕ) → ((x : ℕ) → Contains list x → f x ≡ g x) → map f list ≡ map g list
map_same f g [] same = refl
map_same f g (x ∷ xs) same =
    ap₂ (λ y ys. y ∷ ys) (same x (Contains-first x xs))
    (map_same f g xs (λ y i. same y (Contains-rest x xs y i)))

blank_slot : (contents : Contents) → is_blank_slot contents ≡ true → contents ≡ blank
blank_slot blank e = refl
blank_slot damaged e = cc
blank_slot (complete bytes spare) e = cc

-- a spare that is made blank
module _ (n : IndexState) (spare : ℕ) (a b : Moment) (whole : IsImage (shape_of n.config) a.image)
    (low : spare < blocks_of (shape_of n.config)) where
  abbrev start : ℕ
  start = spare * n.config.pages_per_block

  abbrev end : ℕ
  end = spare * n.config.pages_per_block + n.config.pages_per_block

  record IsCleaned : Type 0 where
    pub inside : (k : ℕ) → start ≤ k → k < end → slot_at b.image k ≡ blank
    pub outside : (k : ℕ) → (k < start) ⊎ (end ≤ k) → slot_at b.image k ≡ slot_at a.image k

  cleaned_by : (blanks : Bool) → is_blank_block n a.image spare ≡ blanks →
      Does (shape_of n.config) a (if blanks then [] else erase spare ∷ []) b → IsCleaned
  cleaned_by true all does = record {
    inside = λ k from to. ap (λ (m : Moment). slot_at m.image k) does
        ∙ blank_slot (slot_at a.image k)
        (all_range (λ slot. is_blank_slot (slot_at a.image slot)) start n.config.pages_per_block all k from to);
    outside = λ k away. ap (λ (m : Moment). slot_at m.image k) does;
  }
  cleaned_by false some does = record {
    inside = λ k from to. ap (λ (m : Moment). slot_at m.image k) does.1
        ∙ slot_at-with_block_in (shape_of n.config) a.image whole spare low blank k from to;
    outside = λ k away. ap (λ (m : Moment). slot_at m.image k) does.1
        ∙ slot_at-with_block_out (shape_of n.config) a.image whole spare low blank k away;
  }

  cleaned : Does (shape_of n.config) a (cleaning n a.image spare) b → IsCleaned
  cleaned does = cleaned_by (is_blank_block n a.image spare) refl does

-- ---- what is needed

-- a slot that holds a record is copied as it is
copied_whole : (p : Protocol) (size : ℕ) (contents : Contents) (rec : Rec) → note_of p contents ≡ Holds rec →
    complete (page_of size contents) (spare_area_of contents) ≡ contents
copied_whole p size blank rec e = absurd (none-some rec (ap rec_of e))
copied_whole p size damaged rec e = absurd (none-some rec (ap rec_of e))
copied_whole p size (complete bytes spare) rec e = refl

map_replicate : (p : Protocol) (n : ℕ) (contents : Contents) →
    map (note_of p) (replicate n contents) ≡ replicate n (note_of p contents)
map_replicate p zero contents = refl
map_replicate p (suc n) contents = ap (λ notes. note_of p contents ∷ notes) (map_replicate p n contents)

-- the notes of an image with a blank block
blanked_notes : (p : Protocol) (shape : Shape) (image : List Contents) (block : ℕ) →
    notes_of p (with_block shape image block blank) ≡ with_block_noted shape (notes_of p image) block Blank
blanked_notes p shape image block =
    let per = shape.pages_per_block in
    let front = take (block * per) image in
    let rest = drop ((block + 1) * per) image in
    map-append (note_of p) (front ++ replicate per blank) rest
    ∙ ap₂ (λ x y. x ++ y)
    (map-append (note_of p) front (replicate per blank)
    ∙ ap₂ (λ x y. x ++ y) (sym (take-map (note_of p) (block * per) image)) (map_replicate p per blank))
    (sym (drop-map (note_of p) ((block + 1) * per) image))

none_pinned : (first pages : ℕ) →
    filter_map (λ (page, version). pinned_at page version) (enumerate_from first (replicate pages 0)) ≡ []
none_pinned first zero = refl
none_pinned first (suc pages) = none_pinned (first + 1) pages

-- what the tables of a device that was just opened have as needed is so in the image, once the spare is blank
needed_noted : (its : Config) (image : List Contents) (spare block : ℕ) →
    needed_slots (noted_cleaned (opening_noted its image spare) spare) block
    ≡ needed_in its (with_block (shape_of its) image spare blank) spare block
unfolding needed_of
needed_noted its image spare block =
    ap₂ (λ list pins.
    filter (is_needed its.protocol list its.logical (shape_of its) (Some spare) pins)
    (range_with_len (block * its.pages_per_block) its.pages_per_block))
    (ap found_in (sym (blanked_notes its.protocol (shape_of its) image spare))
    ∙ found_in_notes its.protocol (with_block (shape_of its) image spare blank))
    (none_pinned 0 its.logical)

-- ---- the blocks of an image where one is retired

module _ (its : Config) (image : List Contents) (whole : IsImage (shape_of its) image) (spare block : ℕ)
    (spare_low : spare < blocks_of (shape_of its)) (low : block < blocks_of (shape_of its)) where
  abbrev per : ℕ
  per = its.pages_per_block

  abbrev noted : IndexState
  noted = opening_noted its image spare

  abbrev list : List ℕ
  list = needed_slots (noted_cleaned noted spare) block

  some : 0 < per
  some = (let bounds = whole.bounds.pages_least in omega arith)

  -- a needed slot of another block than the spare holds a record
  needed_whole : block ≢ spare → (from : ℕ) → Contains list from →
      copied_contents its.page_bytes image from ≡ slot_at image from
  needed_whole apart from i =
      let n = noted_cleaned noted spare in
      let parts = from_filter (λ at. needed_of n at) from (slots_in n block) i in
      let bounds = range_bounds (block * per) per from parts.0 in
      let x = home_needed n from parts.1 in
      let within : from < length image =
      omega (arith, bounds.1, block_within (shape_of its) block low, whole.slots) in
      let long : length noted.notes ≡ slots_of (shape_of its) =
      length-map image (note_of its.protocol) ∙ whole.slots in
      copied_whole its.protocol its.page_bytes (slot_at image from) x.found.rec
      (sym (get_or-map (note_of its.protocol) image from blank Blank within)
      ∙ sym (note_at-out (shape_of its) some noted.notes long spare spare_low Blank from
      (blocks_away per block spare from apart bounds.0 bounds.1))
      ∙ ap (note_at n.notes) (sym x.slot) ∙ (noted_from n.notes x.found x.is_in).1)

  -- how the image stands before the block is replaced
  record IsCopied (now : List Contents) : Type 0 where
    pub is_image : IsImage (shape_of its) now
    pub outside : (slot : ℕ) → slot / per ≢ spare → slot_at now slot ≡ slot_at image slot
    pub inside : block ≢ spare → (k : ℕ) → k < per →
        slot_at now (spare * per + k) ≡ slot_at (map (slot_at image) list) k

  module _ (a b : Moment) (is : a.image ≡ image) where
    its_whole : IsImage (shape_of its) a.image
    its_whole = subst (IsImage (shape_of its)) (sym is) whole

    copied_by : (same : Bool) → (block == spare) ≡ same →
        Does (shape_of its) a
        (if same then [] else cleaning noted a.image spare ++ copies its.page_bytes image (spare * per) list) b →
        IsCopied b.image
    copied_by true same does = record {
      is_image = subst (λ (m : Moment). IsImage (shape_of its) m.image) (sym does) its_whole;
      outside = λ slot away. ap (λ (m : Moment). slot_at m.image slot) does ∙ ap (λ i. slot_at i slot) is;
      inside = λ apart k within. absurd (apart (eqb-true block spare same));
    }
    copied_by false other does =
        let parts = does_apart (shape_of its) a b (cleaning noted a.image spare)
        (copies its.page_bytes image (spare * per) list) does in
        let mid = parts.0 in
        let clean = cleaned noted spare a mid its_whole spare_low parts.1 in
        let mid_whole = IsImage-does (shape_of its) a mid (cleaning noted a.image spare) its_whole parts.1 in
        let few : length list ≤ per =
        filter_most (λ at. needed_of (noted_cleaned noted spare) at) (block * per) per in
        record {
          is_image = IsImage-does (shape_of its) mid b (copies its.page_bytes image (spare * per) list) mid_whole parts.2;
          outside = λ slot away. (let out = outside_block per spare slot away in
              copies_outside (shape_of its) its.page_bytes image (spare * per) list mid b slot parts.2
              (further slot few out)
              ∙ clean.outside slot out ∙ ap (λ i. slot_at i slot) is);
          inside = λ apart k within. elim (cases_lt k (length list)) [
            | inl first ↦ copies_inside (shape_of its) its.page_bytes image (spare * per) list mid b k mid_whole
                parts.2 first
                ∙ ap (λ l. slot_at l k)
                (map_same (copied_contents its.page_bytes image) (slot_at image) list (needed_whole apart))
            | inr past ↦ copies_outside (shape_of its) its.page_bytes image (spare * per) list mid b
                (spare * per + k) parts.2 (inr (omega (arith, past)))
                ∙ clean.inside (spare * per + k) (omega arith) (omega (arith, within))
                ∙ sym (get_or_past (map (slot_at image) list) k blank
                (omega (arith, past, length-map list (slot_at image))))
          ];
        }
      where
        further : (slot : ℕ) → length list ≤ per → (slot < spare * per) ⊎ (spare * per + per ≤ slot) →
            (slot < spare * per) ⊎ (spare * per + length list ≤ slot)
        further slot few (inl before) = inl before
        further slot few (inr behind) = inr (omega (arith, few, behind))

    copied : Does (shape_of its) a (retiring_first noted a.image spare block) b → IsCopied b.image
    copied does = copied_by (block == spare) refl
        (subst (λ (i : List Contents). Does (shape_of its) a
        (if block == spare then [] else cleaning noted a.image spare ++ copies its.page_bytes i (spare * per) list) b)
        is does)

  -- and once it is replaced
  replaced : (now left : List Contents) → IsCopied now → left ≡ with_block (shape_of its) now block blank →
      IsChosenSpare its image spare → MovesNeeded its image block left
  replaced now left stands is chosen = record {
    spare = spare;
    chosen = chosen;
    others = λ slot other away. ap (λ i. slot_at i slot) is
        ∙ slot_at-with_block_out (shape_of its) now stands.is_image block low blank slot
        (outside_block per block slot other)
        ∙ stands.outside slot away;
    moved = λ apart k within. ap (λ i. slot_at i (spare * per + k)) is
        ∙ slot_at-with_block_out (shape_of its) now stands.is_image block low blank (spare * per + k)
        (outside_block per block (spare * per + k)
        (λ same. apart (sym same ∙ div-mul-add spare per k within)))
        ∙ stands.inside apart k within
        ∙ ap (λ slots. slot_at (map (slot_at image) slots) k) (needed_noted its image spare block);
  }

-- the block that becomes the spare exists
spare_exists : (its : Config) (image : List Contents) (spare : ℕ) → IsChosenSpare its image spare →
    spare < blocks_of (shape_of its)
spare_exists its image spare (inl all_blank) = all_blank.exists
spare_exists its image spare (inr removable) = removable.1.exists

-- From the operations that retire a block of a flash whose device was just opened.
pub moves_needed : (its : Config) (old new : FlashState) (spare block : ℕ) → old.shape ≡ shape_of its → IsFlash old →
    block < blocks_of (shape_of its) → IsChosenSpare its old.image spare →
    RetiresAfter old new (retiring_first (opening_noted its old.image spare) old.image spare block) block →
    MovesNeeded its old.image block new.image
moves_needed its old new spare block shape flash low chosen done =
    let whole : IsImage (shape_of its) old.image = subst (λ sh. IsImage sh old.image) shape flash in
    let spare_low = spare_exists its old.image spare chosen in
    let now = done.between.image in
    replaced its old.image whole spare block spare_low low now new.image
    (copied its old.image whole spare block spare_low low (moment_of old) (moment_of done.between) refl
    (subst (λ sh. Does sh (moment_of old) (retiring_first (opening_noted its old.image spare) old.image spare block)
    (moment_of done.between)) shape done.does))
    (done.replaced.image
    ∙ ap (λ sh. with_block sh now block blank) (done.carries.shape ∙ shape))
    chosen
