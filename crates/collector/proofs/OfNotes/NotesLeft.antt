-- The notes with one note for each slot of a block.
use Rattle.collector.proofs.Common.{◌≡◌, ◌⊎◌, ℕ, ◌+◌, ◌*◌, ◌<◌, ◌≤◌, List, length, None, arith, slots_of, blocks_of, Shape, block_within, left, is_outside, Note, Blank, note_at, rec_of, found_in, with_block_noted}
use Rattle.judged_records.proofs.OfNotes.Blocks.{item_in, item_out, length-with_item}
use Rattle.judged_records.proofs.OfNotes.FoundIn.{found_in_block}

module _ (shape : Shape) (some : 0 < shape.pages_per_block) (notes : List Note)
    (long : length notes ≡ slots_of shape) (block : ℕ)
    (below : block < blocks_of shape)
    (note : Note) where
  fits : block * shape.pages_per_block + shape.pages_per_block ≤ length notes
  fits = omega (arith, long, block_within shape block below)

  -- the slots of the block have this note
  pub note_at-in : (k : ℕ) → block * shape.pages_per_block ≤ k →
      k < block * shape.pages_per_block + shape.pages_per_block →
      note_at (with_block_noted shape notes block note) k ≡ note
  note_at-in k low high = item_in shape some notes block note Blank fits k low high

  -- and the others what they had
  pub note_at-out : (k : ℕ) → (k < block * shape.pages_per_block)
      ⊎ (block * shape.pages_per_block + shape.pages_per_block ≤ k) →
      note_at (with_block_noted shape notes block note) k ≡ note_at notes k
  note_at-out k apart = item_out shape some notes block note Blank fits k apart

  -- the noted records outside the block are left
  pub noted_left : rec_of note ≡ None → found_in (with_block_noted shape notes block note)
      ≡ left (is_outside shape block) (found_in notes)
  noted_left none = found_in_block shape notes block note some fits none

  pub length-noted : length (with_block_noted shape notes block note) ≡ length notes
  length-noted = length-with_item shape some notes block note Blank fits
