-- What the slots hold by their states and their bytes: slot by slot, after a program, and after an erase.
use Rattle.mem_flash.proofs.Common.{◌≡◌, ℕ, ◌+◌, ◌-◌, ◌*◌, ◌<◌, ◌≤◌, List, [], length, get_or, take, drop, replicate, refl, ap, sym, ◌∙◌, arith, slice_chunk, length-drop, length-replicate, chunk_end, Seen, Blank, Complete, Contents, blank, cell_bytes, contents_of, image_of, IsFilled, AreFilled}
use Rattle.std.proofs.Common.{zero, suc, ◌∷◌}
use Rattle.std.specs.List.{All, flat_map}
use Rattle.std.proofs.lemmas.List.{take-replicate, drop-replicate, take-append-drop, length-take, get_or-replicate}
use Rattle.list_lemmas.proofs.Chunks.{length-slice_chunk, slice_chunk-suc, slice_chunk-replicate}
use Rattle.flash_model.specs.declared.flash.Seen.TheVariants.{Damaged}
use Rattle.flash_model.specs.Flash.{IsWhole}
use Rattle.flash_model.specs.Calls.{seen_of, page_of, spare_area_of}
use Rattle.mem_flash.specs.Slots.{cell_of}

-- one slot

pub seen_of-contents_of : (n : ℕ) (state : Seen) (cell : List ℕ) → seen_of (contents_of n state cell) ≡ state
seen_of-contents_of n Blank cell = refl
seen_of-contents_of n Damaged cell = refl
seen_of-contents_of n Complete cell = refl

pub page_of-contents_of : (n : ℕ) (state : Seen) (cell : List ℕ) → IsFilled n state cell →
    page_of n (contents_of n state cell) ≡ take n cell
page_of-contents_of n Blank cell filled = rw filled (sym (take-replicate n (n + 64) 255 (omega arith)))
page_of-contents_of n Damaged cell filled = rw filled (sym (take-replicate n (n + 64) 0 (omega arith)))
page_of-contents_of n Complete cell filled = refl

spare_is : (n x : ℕ) → replicate 64 x ≡ drop n (replicate (n + 64) x)
spare_is n x = let left : 64 ≡ n + 64 - n = omega arith in rw drop-replicate (ap (λ (m : ℕ). replicate m x) left)

pub spare_area_of-contents_of : (n : ℕ) (state : Seen) (cell : List ℕ) → IsFilled n state cell →
    spare_area_of (contents_of n state cell) ≡ drop n cell
spare_area_of-contents_of n Blank cell filled = rw filled (spare_is n 255)
spare_area_of-contents_of n Damaged cell filled = rw filled (spare_is n 0)
spare_area_of-contents_of n Complete cell filled = refl

pub cell_of-contents_of : (n : ℕ) (state : Seen) (cell : List ℕ) → IsFilled n state cell →
    cell_of n (contents_of n state cell) ≡ cell
cell_of-contents_of n state cell filled =
    rw (page_of-contents_of n state cell filled, spare_area_of-contents_of n state cell filled)
    (take-append-drop n cell)

pub IsWhole-contents_of : (n : ℕ) (state : Seen) (cell : List ℕ) → length cell ≡ cell_bytes n →
    IsWhole n (contents_of n state cell)
IsWhole-contents_of n Blank cell long = tt
IsWhole-contents_of n Damaged cell long = tt
IsWhole-contents_of n Complete cell long = (simp length-take (omega arith), simp length-drop (omega arith))

-- all slots

pub length-image_of : (n : ℕ) (states : List Seen) (cells : List ℕ) → length (image_of n states cells) ≡ length states
length-image_of n [] cells = refl
length-image_of n (state ∷ states) cells = ap suc (length-image_of n states (drop (cell_bytes n) cells))

pub get_or-image_of : (n : ℕ) (states : List Seen) (cells : List ℕ) (k : ℕ) (d : Contents) → k < length states
    → get_or (image_of n states cells) k d ≡ contents_of n (get_or states k Blank) (slice_chunk cells (cell_bytes n) k)
get_or-image_of n [] cells k d below = absurd (omega arith)
get_or-image_of n (state ∷ states) cells zero d below =
    let first : 0 ≡ 0 * cell_bytes n = omega arith in
    ap (λ (i : ℕ). contents_of n state (take (cell_bytes n) (drop i cells))) first
get_or-image_of n (state ∷ states) cells (suc k) d below =
    get_or-image_of n states (drop (cell_bytes n) cells) k d (omega arith)
    ∙ ap (contents_of n (get_or states k Blank)) (sym (slice_chunk-suc cells (cell_bytes n) k))

pub All-image_of : (n : ℕ) (states : List Seen) (cells : List ℕ) → length cells ≡ length states * cell_bytes n
    → All (IsWhole n) (image_of n states cells)
All-image_of n states cells long k d below =
    let inside : k < length states = omega (arith, length-image_of n states cells) in
    let ends : k * cell_bytes n + cell_bytes n ≤ length states * cell_bytes n =
    chunk_end (cell_bytes n) k (length states) inside in
    rw (get_or-image_of n states cells k d inside)
    (IsWhole-contents_of n _ _ (length-slice_chunk cells (cell_bytes n) k (omega arith)))

-- all slots blank

pub image_of-blank : (n count : ℕ) (cells : List ℕ) → image_of n (replicate count Blank) cells ≡ replicate count blank
image_of-blank n zero cells = refl
image_of-blank n (suc count) cells = ap (λ (rest : List Contents). blank ∷ rest)
    (image_of-blank n count (drop (cell_bytes n) cells))

pub AreFilled-blank : (n count : ℕ) → AreFilled n (replicate count Blank) (replicate (count * cell_bytes n) 255)
AreFilled-blank n count k below =
    let within : k < count = omega (arith, length-replicate count Blank) in
    rw (get_or-replicate count k Blank Blank within)
    (slice_chunk-replicate (count * cell_bytes n) (cell_bytes n) k 255 (chunk_end (cell_bytes n) k count within))

-- the bytes that all slots show

AreFilled-rest : (n : ℕ) (state : Seen) (states : List Seen) (cells : List ℕ) → AreFilled n (state ∷ states) cells
    → AreFilled n states (drop (cell_bytes n) cells)
AreFilled-rest n state states cells filled k below =
    rw (slice_chunk-suc cells (cell_bytes n) k) at (filled (suc k) (omega arith))

pub cells-image_of : (n : ℕ) (states : List Seen) (cells : List ℕ) → length cells ≡ length states * cell_bytes n
    → AreFilled n states cells → flat_map (cell_of n) (image_of n states cells) ≡ cells
cells-image_of n [] [] long filled = refl
cells-image_of n [] (b ∷ bytes) long filled = absurd (omega arith)
cells-image_of n (state ∷ states) cells long filled =
    let size = cell_bytes n in
    let start : 0 * size ≡ 0 = omega arith in
    let its : IsFilled n state (take size cells) = rw start at (filled 0 (omega arith)) in
    let rest_long : length (drop size cells) ≡ length states * size = simp length-drop (omega arith) in
    let first = cell_of-contents_of n state (take size cells) its in
    let others = cells-image_of n states (drop size cells) rest_long (AreFilled-rest n state states cells filled) in
    rw (first, others) (take-append-drop size cells)
