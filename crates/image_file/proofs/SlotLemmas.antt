-- The first slot that breaks a rule.
use Rattle.image_file.proofs.Common.{◌≡◌, ℕ, ◌+◌, ◌*◌, ◌<◌, ◌≤◌, true, false, not, List, [], length, get_or, Some, None, ap, sym, ◌∙◌, arith, Seen, Blank, is_filled, wrong_bytes, cell_bytes}
use Rattle.std.proofs.Common.{Bool}
use Rattle.std.specs.List.{zip}
use Rattle.std.specs.Fork.{slice_chunk}
use Rattle.std.specs.Simd.{first_chunks}
use Rattle.std.proofs.lemmas.Bool.{not-false}
use Rattle.std.proofs.lemmas.Slice.Zip.{length-zip, get_or-zip}
use Rattle.list_lemmas.proofs.Positions.{position-at, position-none, position-all}
use Rattle.list_lemmas.proofs.Chunks.{chunk_end, length-slice_chunk, length-first_chunks, get_or-first_chunks}
use Rattle.mem_flash.specs.Slots.{AreFilled}
use Rattle.image_file.proofs.ImageLemmas.{IsFilled-tested}

module _ (size : ℕ) (seen : List Seen) (cells : List ℕ) where
  abbrev slots : List (Seen × List ℕ)
  slots = zip seen (first_chunks size (length seen) cells)

  abbrev is_wrong : (Seen × List ℕ) → Bool
  is_wrong slot = not (is_filled slot.0 slot.1)

  length-slots : length slots ≡ length seen
  length-slots = omega (
    arith,
    length-zip seen (first_chunks size (length seen) cells),
    length-first_chunks size (length seen) cells,
  )

  slot_is : (k : ℕ) → k < length seen → get_or slots k (Blank, []) ≡ (get_or seen k Blank, slice_chunk cells size k)
  slot_is k inside =
      let chunks : k < length (first_chunks size (length seen) cells) =
      omega (arith, length-first_chunks size (length seen) cells) in
      get_or-zip seen (first_chunks size (length seen) cells) k (Blank, []) inside chunks
      ∙ ap (λ cell. (get_or seen k Blank, cell)) (get_or-first_chunks size (length seen) cells k [] inside)

  wrong_is : (k : ℕ) → k < length seen → (b : Bool) → is_filled (get_or seen k Blank) (slice_chunk cells size k) ≡ b →
      is_wrong (get_or slots k (Blank, [])) ≡ not b
  wrong_is k inside b is = ap is_wrong (slot_is k inside) ∙ ap not is

  pub wrong_bytes-at : (i : ℕ) → i < length seen
      → ((k : ℕ) → k < i → is_filled (get_or seen k Blank) (slice_chunk cells size k) ≡ true)
      → is_filled (get_or seen i Blank) (slice_chunk cells size i) ≡ false → wrong_bytes size seen cells ≡ Some i
  wrong_bytes-at i inside before here =
      position-at is_wrong slots (Blank, []) i (omega (arith, length-slots))
      (λ k less. wrong_is k (omega arith) true (before k less))
      (wrong_is i inside false here)

  pub wrong_bytes-none : ((k : ℕ) → k < length seen → is_filled (get_or seen k Blank) (slice_chunk cells size k)
      ≡ true) → wrong_bytes size seen cells ≡ None
  wrong_bytes-none all =
      position-none is_wrong slots (Blank, []) (λ k less.
      let inside : k < length seen = omega (arith, length-slots) in
      wrong_is k inside true (all k inside))

  pub filled-at : wrong_bytes size seen cells ≡ None → (k : ℕ) → k < length seen →
      is_filled (get_or seen k Blank) (slice_chunk cells size k) ≡ true
  filled-at none k inside =
      let fails = position-all is_wrong slots (Blank, []) none k (omega (arith, length-slots)) in
      not-false _ (sym (ap is_wrong (slot_is k inside)) ∙ fails)

-- the bytes of each slot fit how it reads
pub AreFilled-tested : (n : ℕ) (seen : List Seen) (cells : List ℕ) → length cells ≡ length seen * cell_bytes n
    → wrong_bytes (cell_bytes n) seen cells ≡ None → AreFilled n seen cells
AreFilled-tested n seen cells long none k inside =
    let ends : k * cell_bytes n + cell_bytes n ≤ length seen * cell_bytes n =
    chunk_end (cell_bytes n) k (length seen) inside in
    IsFilled-tested n (get_or seen k Blank) (slice_chunk cells (cell_bytes n) k)
    (length-slice_chunk cells (cell_bytes n) k (omega arith))
    (filled-at (cell_bytes n) seen cells none k inside)
