-- A slot is written and marked as complete.
use Rattle.mem_flash.proofs.Common.{◌≡◌, ◌≢◌, ℕ, ◌+◌, ◌*◌, ◌<◌, ◌≤◌, List, ◌++◌, length, get_or, set, refl, sym, ◌∙◌, arith, slice_chunk, length-append, length-set, mul-le-mul_right, Seen, Blank, Complete, blank, overwritten, cell_bytes, image_of, IsFilled, AreFilled}
use Rattle.std.proofs.Common.{◌⊎◌, inl, inr}
use Rattle.std.proofs.lemmas.Bool.{cases_eq, cases_lt}
use Rattle.std.proofs.lemmas.List.{get_or-set_same, get_or-set_other, ext_get_or, take_at, drop_at}
use Rattle.list_lemmas.proofs.Chunks.{slice_chunk-only}
use Rattle.flash_model.specs.Flash.{complete}
use Rattle.mem_flash.proofs.Chunks.{length-overwritten, slice_chunk-written, slice_chunk-written_before, slice_chunk-written_behind}
use Rattle.mem_flash.proofs.Images.{length-image_of, get_or-image_of}

module _ (n : ℕ) (states : List Seen) (cells : List ℕ) (long : length cells ≡ length states * cell_bytes n)
    (at : ℕ) (bytes spare_area : List ℕ) (inside : at < length states) (page : length bytes ≡ n)
    (tail : length spare_area ≡ 64) where
  abbrev new_states : List Seen
  new_states = set states at Complete

  abbrev new_cells : List ℕ
  new_cells = overwritten cells (at * cell_bytes n) (bytes ++ spare_area)

  whole : length (bytes ++ spare_area) ≡ cell_bytes n
  whole = omega (arith, length-append bytes spare_area)

  room : (at + 1) * cell_bytes n ≤ length cells
  room = let wide : (at + 1) * cell_bytes n ≤ length states * cell_bytes n =
      mul-le-mul_right (cell_bytes n) (omega arith) in omega arith

  one : length (bytes ++ spare_area) ≡ 1 * cell_bytes n
  one = omega (arith, whole)

  pub length-programmed : length new_cells ≡ length cells
  length-programmed = length-overwritten cells (at * cell_bytes n) (bytes ++ spare_area) (omega (arith, whole, room))

  chunk_here : slice_chunk new_cells (cell_bytes n) at ≡ bytes ++ spare_area
  chunk_here =
      slice_chunk-written cells (cell_bytes n) at 1 (bytes ++ spare_area) one room at 0 (omega arith) (omega arith)
      ∙ slice_chunk-only (bytes ++ spare_area) (cell_bytes n) whole

  chunk_other : (k : ℕ) → k ≢ at → slice_chunk new_cells (cell_bytes n) k ≡ slice_chunk cells (cell_bytes n) k
  chunk_other k other =
      elim (cases_lt k at) [
        | inl before ↦ slice_chunk-written_before cells (cell_bytes n) at 1 (bytes ++ spare_area) one room k before
        | inr behind ↦ slice_chunk-written_behind cells (cell_bytes n) at 1 (bytes ++ spare_area) one room
            k (omega arith)
      ]

  image_here : get_or (image_of n new_states new_cells) at blank ≡ complete bytes spare_area
  image_here =
      let below : at < length new_states = omega (arith, length-set states at Complete) in
      rw (
        get_or-image_of n new_states new_cells at blank below,
        get_or-set_same states at Complete Blank inside,
        chunk_here,
        take_at bytes spare_area n page,
        drop_at bytes spare_area n page,
      )
      refl

  image_other : (k : ℕ) → k < length states → k ≢ at → get_or (image_of n new_states new_cells) k blank
      ≡ get_or (image_of n states cells) k blank
  image_other k below other =
      let within : k < length new_states = omega (arith, length-set states at Complete) in
      rw (
        get_or-image_of n new_states new_cells k blank within,
        get_or-image_of n states cells k blank below,
        get_or-set_other states at k Complete Blank other,
        chunk_other k other,
      )
      refl

  image_at : (k : ℕ) → k < length states → (k ≡ at) ⊎ (k ≢ at)
      → get_or (image_of n new_states new_cells) k blank
      ≡ get_or (set (image_of n states cells) at (complete bytes spare_area)) k blank
  image_at k below (inl here) =
      let stands : at < length (image_of n states cells) = omega (arith, length-image_of n states cells) in
      rw (here, image_here) (sym (get_or-set_same (image_of n states cells) at (complete bytes spare_area)
      blank stands))
  image_at k below (inr other) =
      image_other k below other ∙ sym (get_or-set_other (image_of n states cells) at k
      (complete bytes spare_area) blank other)

  -- the slot holds what was written, and the others what they held
  pub image_of-programmed : image_of n new_states new_cells
      ≡ set (image_of n states cells) at (complete bytes spare_area)
  image_of-programmed =
      ext_get_or blank _ _
      (length-image_of n new_states new_cells ∙ length-set states at Complete ∙ sym (length-image_of n states cells)
      ∙ sym (length-set (image_of n states cells) at (complete bytes spare_area)))
      (λ k below.
      let within : k < length states = omega (
        arith,
        length-image_of n new_states new_cells,
        length-set states at Complete,
      ) in
      image_at k within (cases_eq k at))

  filled_at : AreFilled n states cells → (k : ℕ) → k < length states → (k ≡ at) ⊎ (k ≢ at)
      → IsFilled n (get_or new_states k Blank) (slice_chunk new_cells (cell_bytes n) k)
  filled_at filled k below (inl here) = rw (here, get_or-set_same states at Complete Blank inside) tt
  filled_at filled k below (inr other) = rw (get_or-set_other states at k Complete Blank other, chunk_other k other)
      (filled k below)

  pub AreFilled-programmed : AreFilled n states cells → AreFilled n new_states new_cells
  AreFilled-programmed filled k below =
      let within : k < length states = omega (arith, length-set states at Complete) in
      filled_at filled k within (cases_eq k at)
