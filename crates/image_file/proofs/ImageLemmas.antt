-- States and bytes on one side, and what the slots hold on the other.
use Rattle.image_file.proofs.Common.{◌≡◌, ℕ, zero, suc, ◌+◌, ◌*◌, true, false, not, eqb, List, [], ◌∷◌, ◌++◌, map, length, take, drop, replicate, Some, None, refl, ap, ◌∙◌, arith, is_none, flat_map, eq-eqb, length-append, length-take, length-drop, Seen, Blank, Contents, seen_of, cell_bytes, cell_of, state_byte, seen_from, all_seen, is_filled, wrong_state, wrong_bytes}
use Rattle.std.proofs.Common.{inl, inr}
use Rattle.std.specs.Prelude.{unwrap_or}
use Rattle.std.specs.List.{All, zip}
use Rattle.std.specs.Simd.{first_chunks}
use Rattle.std.proofs.lemmas.Bool.{and_parts, cases_eq, eqb-true, ne_eqb, not-false}
use Rattle.std.proofs.lemmas.List.{replicate-append-replicate, length-replicate, take-append-drop, take_at, drop_at}
use Rattle.std.proofs.lemmas.List.Elements.{All-tail}
use Rattle.list_lemmas.proofs.Positions.{position-pass, position-rest}
use Rattle.flash_model.specs.declared.flash.Seen.TheVariants.{Complete, Damaged}
use Rattle.flash_model.specs.Flash.{blank, damaged, complete, IsWhole}
use Rattle.lane_scan.specs.Scans.{all_equal}
use Rattle.mem_flash.specs.Slots.{contents_of, image_of, IsFilled}
use Rattle.mem_flash.proofs.Images.{seen_of-contents_of, cell_of-contents_of}

-- ---- bytes that are all one

pub all_equal-is : (bytes : List ℕ) (x : ℕ) → all_equal bytes x ≡ true → bytes ≡ replicate (length bytes) x
all_equal-is [] x h = refl
all_equal-is (b ∷ bytes) x h =
    let parts = and_parts (eqb b x) (all_equal bytes x) h in
    let first : b ≡ x = eqb-true b x parts.0 in
    let rest : bytes ≡ replicate (length bytes) x = all_equal-is bytes x parts.1 in
    cc

pub all_equal-replicate : (n x : ℕ) → all_equal (replicate n x) x ≡ true
all_equal-replicate zero x = refl
all_equal-replicate (suc n) x = rw (eq-eqb x x refl, all_equal-replicate n x) refl

-- ---- one slot

-- a state is the byte of how the slot reads
state_byte-seen_from : (state : ℕ) → is_none (seen_from state) ≡ false →
    state_byte (unwrap_or (seen_from state) Blank) ≡ state
state_byte-seen_from state known =
    elim (cases_eq state 0) [
      | inl is_0 ↦ rw is_0 refl
      | inr not_0 ↦ elim (cases_eq state 1) [
        | inl is_1 ↦ rw is_1 refl
        | inr not_1 ↦ elim (cases_eq state 2) [
          | inl is_2 ↦ rw is_2 refl
          | inr not_2 ↦
              let unknown : seen_from state ≡ None = rw (
                ne_eqb state 0 not_0,
                ne_eqb state 1 not_1,
                ne_eqb state 2 not_2,
              ) refl in
              absurd (let none = ap is_none unknown in cc)
        ]
      ]
    ]

seen_from-state_byte : (how : Seen) → seen_from (state_byte how) ≡ Some how
seen_from-state_byte Blank = refl
seen_from-state_byte Complete = refl
seen_from-state_byte Damaged = refl

-- the test of a slot's bytes, as a fact
pub IsFilled-tested : (n : ℕ) (how : Seen) (cell : List ℕ) → length cell ≡ cell_bytes n → is_filled how cell ≡ true →
    IsFilled n how cell
IsFilled-tested n Blank cell long h = all_equal-is cell 255 h ∙ ap (λ k. replicate k 255) long
IsFilled-tested n Damaged cell long h = all_equal-is cell 0 h ∙ ap (λ k. replicate k 0) long
IsFilled-tested n Complete cell long h = tt

-- what a slot shows fits how it reads
is_filled-cell_of : (n : ℕ) (slot : Contents) → is_filled (seen_of slot) (cell_of n slot) ≡ true
is_filled-cell_of n blank = ap (λ cell. all_equal cell 255) (replicate-append-replicate n 64 255)
    ∙ all_equal-replicate (n + 64) 255
is_filled-cell_of n damaged = ap (λ cell. all_equal cell 0) (replicate-append-replicate n 64 0)
    ∙ all_equal-replicate (n + 64) 0
is_filled-cell_of n (complete bytes spare_area) = refl

pub length-cell_of : (n : ℕ) (slot : Contents) → IsWhole n slot → length (cell_of n slot) ≡ cell_bytes n
length-cell_of n blank whole = ap length (replicate-append-replicate n 64 255) ∙ length-replicate (n + 64) 255
length-cell_of n damaged whole = ap length (replicate-append-replicate n 64 0) ∙ length-replicate (n + 64) 0
length-cell_of n (complete bytes spare_area) whole = omega (arith, length-append bytes spare_area, whole.0, whole.1)

-- a slot holds what it shows
pub contents_of-cell_of : (n : ℕ) (slot : Contents) → IsWhole n slot → contents_of n (seen_of slot) (cell_of n slot) ≡ slot
contents_of-cell_of n blank whole = refl
contents_of-cell_of n damaged whole = refl
contents_of-cell_of n (complete bytes spare_area) whole = rw (
  take_at bytes spare_area n whole.0,
  drop_at bytes spare_area n whole.0,
) refl

-- ---- all slots, from their states and bytes

pub states-all_seen : (states : List ℕ) → wrong_state states ≡ None → map state_byte (all_seen states) ≡ states
states-all_seen [] none = refl
states-all_seen (state ∷ states) none =
    let rest = position-rest (λ b. is_none (seen_from b)) state states none in
    let first : state_byte (unwrap_or (seen_from state) Blank) ≡ state = state_byte-seen_from state rest.0 in
    let others : map state_byte (all_seen states) ≡ states = states-all_seen states rest.1 in
    cc

pub states-image_of : (n : ℕ) (seen : List Seen) (cells : List ℕ) →
    map (λ slot. state_byte (seen_of slot)) (image_of n seen cells) ≡ map state_byte seen
states-image_of n [] cells = refl
states-image_of n (how ∷ seen) cells =
    let first = ap state_byte (seen_of-contents_of n how (take (cell_bytes n) cells)) in
    let others = states-image_of n seen (drop (cell_bytes n) cells) in
    cc

pub cells-image_of : (n : ℕ) (seen : List Seen) (cells : List ℕ) → length cells ≡ length seen * cell_bytes n
    → wrong_bytes (cell_bytes n) seen cells ≡ None → flat_map (cell_of n) (image_of n seen cells) ≡ cells
cells-image_of n [] [] long none = refl
cells-image_of n [] (b ∷ bytes) long none = absurd (omega arith)
cells-image_of n (how ∷ seen) cells long none =
    let size = cell_bytes n in
    let cell = take size cells in
    let rest = position-rest (λ (slot : Seen × List ℕ). not (is_filled slot.0 slot.1)) (how, cell)
    (zip seen (first_chunks size (length seen) (drop size cells))) none in
    let cell_long : length cell ≡ size = omega (arith, length-take size cells) in
    let others_long : length (drop size cells) ≡ length seen * size = omega (arith, length-drop size cells) in
    let first = cell_of-contents_of n how cell (IsFilled-tested n how cell cell_long (not-false _ rest.0)) in
    let others = cells-image_of n seen (drop size cells) others_long rest.1 in
    ap (λ bytes. bytes ++ flat_map (cell_of n) (image_of n seen (drop size cells))) first
    ∙ ap (λ bytes. cell ++ bytes) others ∙ take-append-drop size cells

-- ---- states and bytes, from all slots

module _ (n : ℕ) where
  pub all_seen-states : (image : List Contents) → all_seen (map (λ slot. state_byte (seen_of slot)) image)
      ≡ map seen_of image
  all_seen-states [] = refl
  all_seen-states (slot ∷ image) =
      let first = ap (λ how. unwrap_or how Blank) (seen_from-state_byte (seen_of slot)) in
      let others = all_seen-states image in
      cc

  pub wrong_state-states : (image : List Contents) → wrong_state (map (λ slot. state_byte (seen_of slot)) image) ≡ None
  wrong_state-states [] = refl
  wrong_state-states (slot ∷ image) =
      position-pass (λ b. is_none (seen_from b)) (state_byte (seen_of slot)) (map (λ s. state_byte (seen_of s)) image)
      (ap is_none (seen_from-state_byte (seen_of slot))) (wrong_state-states image)

  pub length-cells : (image : List Contents) → All (IsWhole n) image →
      length (flat_map (cell_of n) image) ≡ length image * cell_bytes n
  length-cells [] whole = omega arith
  length-cells (slot ∷ image) whole =
      let first = length-cell_of n slot (whole 0 slot (omega arith)) in
      let others = length-cells image (All-tail (IsWhole n) slot image whole) in
      omega (arith, length-append (cell_of n slot) (flat_map (cell_of n) image))

  pub image_of-cells : (image : List Contents) → All (IsWhole n) image →
      image_of n (map seen_of image) (flat_map (cell_of n) image) ≡ image
  image_of-cells [] whole = refl
  image_of-cells (slot ∷ image) whole =
      let this = whole 0 slot (omega arith) in
      let long = length-cell_of n slot this in
      let rest = flat_map (cell_of n) image in
      let first = ap (contents_of n (seen_of slot)) (take_at (cell_of n slot) rest (cell_bytes n) long)
      ∙ contents_of-cell_of n slot this in
      let others = ap (image_of n (map seen_of image)) (drop_at (cell_of n slot) rest (cell_bytes n) long) ∙
      image_of-cells image (All-tail (IsWhole n) slot image whole) in
      cc

  pub wrong_bytes-cells : (image : List Contents) → All (IsWhole n) image →
      wrong_bytes (cell_bytes n) (map seen_of image) (flat_map (cell_of n) image) ≡ None
  wrong_bytes-cells [] whole = refl
  wrong_bytes-cells (slot ∷ image) whole =
      let long = length-cell_of n slot (whole 0 slot (omega arith)) in
      let rest = flat_map (cell_of n) image in
      let cell_is = take_at (cell_of n slot) rest (cell_bytes n) long in
      let behind = drop_at (cell_of n slot) rest (cell_bytes n) long in
      position-pass (λ (s : Seen × List ℕ). not (is_filled s.0 s.1))
      (seen_of slot, take (cell_bytes n) (cell_of n slot ++ rest))
      (zip (map seen_of image) (first_chunks (cell_bytes n) (length (map seen_of image))
      (drop (cell_bytes n) (cell_of n slot ++ rest))))
      (ap (λ cell. not (is_filled (seen_of slot) cell)) cell_is ∙ ap not (is_filled-cell_of n slot))
      (ap (wrong_bytes (cell_bytes n) (map seen_of image)) behind
      ∙ wrong_bytes-cells image (All-tail (IsWhole n) slot image whole))
