-- The slots of a spelling, end to end.
use Rattle.std.proofs.Common.{◌≡◌, ℕ, zero, suc, ◌+◌, ◌-◌, ◌*◌, ◌<◌, ◌≤◌, List, [], ◌∷◌, ◌++◌, length, get_or, take, drop, map, All, refl, sym, ap, subst, ◌∙◌, arith}
use Rattle.std.specs.List.{flat_map, range_with_len}
use Rattle.std.specs.Fork.{slice_chunk}
use Rattle.std.specs.Int.{w32, to_le_bytes}
use Rattle.std.proofs.lemmas.List.{length-append, length-replicate, length-map, get_or-map, get_or_append_left, get_or-append-add, take_at}
use Rattle.std.proofs.lemmas.List.Elements.{All-get_or}
use Rattle.std.proofs.lemmas.List.FromFn.{fill_by_all}
use Rattle.list_lemmas.proofs.Chunks.{drop_front, first_chunk, later_chunk}
use Rattle.list_lemmas.proofs.Ranges.{same_range}
use Rattle.tx_types.specs.Config.{shape_of, slots_of}
use Rattle.tx_types.specs.declared.config.Config.{Config}
use Rattle.flash_model.specs.Flash.{Contents, Extras, blank, damaged, complete, slot_at, IsWhole, IsImage}
use Rattle.mem_flash.specs.Slots.{cell_bytes}
use Rattle.image_file.specs.Spelling.{CanBeSpelled}
use Rattle.image_file.proofs.ImageLemmas.{length-cell_of}
use Rattle.zero_count.specs.Zeros.{erased}
use Rattle.zero_count.proofs.WholeLemmas.{length_counted}
use Rattle.live_image.specs.Slots.{slot_bytes, live_slot, live_contents, last_of, IsCounted}
use Rattle.live_image.specs.Layout.{live_bytes, slot_in, live_image}
use Rattle.live_image.proofs.Reading.{damaged_by_last, written_counted, written_complete, erased_less, erased_blank}
use Rattle.live_file.specs.Spelling.{live_header, live_spelling, IsLive}

-- ---- one slot

pub length-live_slot : (page_bytes : ℕ) (c : Contents) → IsWhole page_bytes c →
    length (live_slot page_bytes c) ≡ slot_bytes page_bytes
length-live_slot page_bytes blank whole = length-replicate {A = ℕ} (slot_bytes page_bytes) 255
length-live_slot page_bytes damaged whole =
    omega (
      arith,
      length-append (erased (cell_bytes page_bytes + 3)) (128 ∷ []),
      length-replicate {A = ℕ} (cell_bytes page_bytes + 3) 255,
    )
length-live_slot page_bytes (complete bytes spare_area) whole =
    omega (arith, length_counted (bytes ++ spare_area), length-cell_of page_bytes (complete bytes spare_area) whole)

pub marked_last : (page_bytes : ℕ) → last_of (erased (cell_bytes page_bytes + 3) ++ 128 ∷ []) ≡ 128
marked_last page_bytes =
    let front : length (erased (cell_bytes page_bytes + 3)) ≡ cell_bytes page_bytes + 3 =
    length-replicate {A = ℕ} (cell_bytes page_bytes + 3) 255 in
    let place : length (erased (cell_bytes page_bytes + 3) ++ 128 ∷ []) - 1
    ≡ length (erased (cell_bytes page_bytes + 3)) + 0 =
    omega (arith, length-append (erased (cell_bytes page_bytes + 3)) (128 ∷ [])) in
    ap (λ i. get_or (erased (cell_bytes page_bytes + 3) ++ 128 ∷ []) i 0) place
    ∙ get_or-append-add (erased (cell_bytes page_bytes + 3)) (128 ∷ []) 0 0

-- what a slot reads as that is written for some contents
pub live_slot_reads : (page_bytes : ℕ) (c : Contents) → IsWhole page_bytes c → page_bytes ≤ 4096 →
    IsCounted (live_slot page_bytes c) × (live_contents page_bytes (live_slot page_bytes c) ≡ c)
live_slot_reads page_bytes blank whole most = (
  (let less = erased_less (page_bytes + 64) in omega (arith, less)),
  erased_blank page_bytes (page_bytes + 64),
)
live_slot_reads page_bytes damaged whole most =
    let long = length-live_slot page_bytes damaged tt in
    let d = damaged_by_last page_bytes (erased (cell_bytes page_bytes + 3) ++ 128 ∷ []) (omega (arith, long))
    (omega (arith, long, most)) (marked_last page_bytes) in
    (d.1, d.0)
live_slot_reads page_bytes (complete bytes spare_area) whole most = (
  written_counted (bytes ++ spare_area) (omega (
    arith,
    length-cell_of page_bytes (complete bytes spare_area) whole,
    most,
  )),
  written_complete page_bytes bytes spare_area whole (omega arith),
)

-- ---- pieces of one length, end to end

pub get_or-pieces : (f : Contents → List ℕ) (size : ℕ) (image : List Contents) (k j : ℕ) →
    All (λ c. length (f c) ≡ size) image → k < length image → j < size →
    get_or (flat_map f image) (k * size + j) 0 ≡ get_or (f (slot_at image k)) j 0
get_or-pieces f size [] k j all inside within = absurd (omega arith)
get_or-pieces f size (c ∷ cs) zero j all inside within =
    let here : zero * size + j ≡ j = omega arith in
    let long : length (f c) ≡ size = all 0 blank (omega arith) in
    ap (λ i. get_or (f c ++ flat_map f cs) i 0) here
    ∙ get_or_append_left (f c) (flat_map f cs) 0 j (omega (arith, long, within))
get_or-pieces f size (c ∷ cs) (suc k) j all inside within =
    let long : length (f c) ≡ size = all 0 blank (omega arith) in
    let place : suc k * size + j ≡ length (f c) + (k * size + j) = omega (arith, long) in
    ap (λ i. get_or (f c ++ flat_map f cs) i 0) place
    ∙ get_or-append-add (f c) (flat_map f cs) (k * size + j) 0
    ∙ get_or-pieces f size cs k j (λ i d low. all (suc i) d (omega arith)) (omega arith) within

pub length-pieces : (f : Contents → List ℕ) (size : ℕ) (image : List Contents) → All (λ c. length (f c) ≡ size) image →
    length (flat_map f image) ≡ length image * size
length-pieces f size [] all = omega arith
length-pieces f size (c ∷ cs) all =
    let long : length (f c) ≡ size = all 0 blank (omega arith) in
    let rest = length-pieces f size cs (λ i d low. all (suc i) d (omega arith)) in
    omega (arith, length-append (f c) (flat_map f cs), long, rest)

pub chunk-pieces : (f : Contents → List ℕ) (size : ℕ) (image : List Contents) (k : ℕ) →
    All (λ c. length (f c) ≡ size) image → k < length image →
    slice_chunk (flat_map f image) size k ≡ f (slot_at image k)
chunk-pieces f size [] k all inside = absurd (omega arith)
chunk-pieces f size (c ∷ cs) zero all inside = first_chunk (f c) (flat_map f cs) size (sym (all 0 blank (omega arith)))
chunk-pieces f size (c ∷ cs) (suc k) all inside =
    later_chunk (f c) (flat_map f cs) size k (sym (all 0 blank (omega arith)))
    ∙ chunk-pieces f size cs k (λ i d low. all (suc i) d (omega arith)) (omega arith)

-- ---- the file

pub length-live_header : (config : Config) (extras : Extras) → length (live_header config extras) ≡ 64
unfolding live_header
length-live_header config extras = refl

module _ (config : Config) (image : List Contents) (extras : Extras) (is : IsImage (shape_of config) image) where
  abbrev size : ℕ
  size = slot_bytes config.page_bytes

  abbrev slots : List ℕ
  slots = flat_map (live_slot config.page_bytes) image

  pub pieces : All (λ c. length (live_slot config.page_bytes c) ≡ size) image
  pieces k e inside = length-live_slot config.page_bytes (get_or image k e) (is.whole k e inside)

  pub spelled : live_spelling config image extras ≡ live_header config extras ++ slots
  unfolding live_spelling
  spelled = refl

  pub spelling_long : length (live_spelling config image extras) ≡ live_bytes (shape_of config)
  spelling_long = omega (
    arith,
    ap length spelled,
    length-append (live_header config extras) slots,
    length-live_header config extras,
    length-pieces (live_slot config.page_bytes) size image pieces,
    ap (λ n. n * size) is.slots,
  )

  behind : drop 64 (live_spelling config image extras) ≡ slots
  behind = ap (drop 64) spelled
      ∙ drop_front (live_header config extras) slots 64 (sym (length-live_header config extras))

  slot_is : (k : ℕ) → k < length image →
      slot_in (shape_of config) (live_spelling config image extras) k ≡ live_slot config.page_bytes (slot_at image k)
  slot_is k inside =
      ap (λ bytes. slice_chunk bytes size k) behind
      ∙ chunk-pieces (live_slot config.page_bytes) size image k pieces inside

  slot_reads : (k : ℕ) → k < length image → IsCounted (live_slot config.page_bytes (slot_at image k))
      × (live_contents config.page_bytes (live_slot config.page_bytes (slot_at image k)) ≡ slot_at image k)
  slot_reads k inside = live_slot_reads config.page_bytes (slot_at image k)
      (All-get_or (IsWhole config.page_bytes) image k blank inside is.whole) is.bounds.page_most

  pub spelled_lives : CanBeSpelled config image extras → IsLive (live_spelling config image extras) config image extras
  spelled_lives can = record {
    can = can;
    long = spelling_long;
    header = ap (take 64) spelled ∙ take_at (live_header config extras) slots 64 (length-live_header config extras);
    counts = λ k inside.
        let within : k < length image = omega (arith, is.slots, inside) in
        subst IsCounted (sym (slot_is k within)) (slot_reads k within).0;
    slots =
        same_range (λ k. live_contents config.page_bytes
        (slot_in (shape_of config) (live_spelling config image extras) k)) (λ k. slot_at image k)
        (slots_of (shape_of config)) (λ k inside.
        let within : k < length image = omega (arith, is.slots, inside) in
        ap (live_contents config.page_bytes) (slot_is k within) ∙ (slot_reads k within).1)
        ∙ sym (fill_by_all (λ k. slot_at image k) image (slots_of (shape_of config)) blank is.slots (λ k inside. refl));
  }
