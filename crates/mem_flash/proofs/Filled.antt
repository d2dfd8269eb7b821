-- Some slots in a row lose their contents: they are filled with one byte, and marked as blank or as damaged.
use Rattle.mem_flash.proofs.Common.{◌≡◌, ◌≢◌, ℕ, ◌+◌, ◌-◌, ◌*◌, ◌<◌, ◌≤◌, List, [], length, get_or, replicate, refl, ap, sym, ◌∙◌, arith, slice_chunk, length-replicate, mul-le-mul_right, chunk_end, Seen, Blank, Complete, Contents, blank, overwritten, cell_bytes, contents_of, image_of, IsFilled, AreFilled}
use Rattle.std.proofs.Common.{◌⊎◌, inl, inr}
use Rattle.std.proofs.lemmas.Bool.{cases_lt}
use Rattle.std.proofs.lemmas.List.{get_or-replicate, ext_get_or}
use Rattle.list_lemmas.proofs.Chunks.{slice_chunk-replicate}
use Rattle.flash_model.specs.declared.flash.Seen.TheVariants.{Damaged}
use Rattle.mem_flash.specs.Slots.{filler}
use Rattle.mem_flash.proofs.Chunks.{length-overwritten, get_or-overwritten_below, get_or-overwritten_in, get_or-overwritten_above, slice_chunk-written}
use Rattle.mem_flash.proofs.Chunks.{slice_chunk-written_before, slice_chunk-written_behind}
use Rattle.mem_flash.proofs.Images.{length-image_of, get_or-image_of}

-- an index lies before the m from i on, or among them, or behind
where_it_lies : (i m k : ℕ) → (k < i) ⊎ (((i ≤ k) × (k < i + m)) ⊎ (i + m ≤ k))
where_it_lies i m k =
    elim (cases_lt k i) [
      | inl before ↦ inl before
      | inr from ↦ elim (cases_lt k (i + m)) [ inl to ↦ inr (inl (from, to)) | inr behind ↦ inr (inr behind) ]
    ]

-- a slot without contents has none whatever its bytes are
contents_of-bare : (n : ℕ) (how : Seen) (cell : List ℕ) → how ≢ Complete → contents_of n how cell ≡ contents_of n how []
contents_of-bare n Blank cell bare = refl
contents_of-bare n Damaged cell bare = refl
contents_of-bare n Complete cell bare = absurd (bare refl)

IsFilled-filler : (n : ℕ) (how : Seen) → how ≢ Complete → IsFilled n how (replicate (cell_bytes n) (filler how))
IsFilled-filler n Blank bare = refl
IsFilled-filler n Damaged bare = refl
IsFilled-filler n Complete bare = tt

module _ (n : ℕ) (states : List Seen) (cells : List ℕ) (long : length cells ≡ length states * cell_bytes n)
    (i m : ℕ) (inside : i + m ≤ length states) (how : Seen) (bare : how ≢ Complete) where
  abbrev marks : List Seen
  marks = replicate m how

  abbrev fill : List ℕ
  fill = replicate (m * cell_bytes n) (filler how)

  abbrev new_states : List Seen
  new_states = overwritten states i marks

  abbrev new_cells : List ℕ
  new_cells = overwritten cells (i * cell_bytes n) fill

  abbrev left : Contents
  left = contents_of n how []

  marks_within : i + length marks ≤ length states
  marks_within = rw length-replicate inside

  room : (i + m) * cell_bytes n ≤ length cells
  room = let wide : (i + m) * cell_bytes n ≤ length states * cell_bytes n = mul-le-mul_right (cell_bytes n) inside in
      omega arith

  fill_long : length fill ≡ m * cell_bytes n
  fill_long = length-replicate (m * cell_bytes n) (filler how)

  pub length-filled_states : length new_states ≡ length states
  length-filled_states = length-overwritten states i marks marks_within

  pub length-filled_cells : length new_cells ≡ length cells
  length-filled_cells = length-overwritten cells (i * cell_bytes n) fill (rw fill_long (omega (arith, room)))

  state_in : (k : ℕ) → i ≤ k → k < i + m → get_or new_states k Blank ≡ how
  state_in k low high =
      get_or-overwritten_in states i marks marks_within k Blank low (rw length-replicate high)
      ∙ get_or-replicate m (k - i) how Blank (omega arith)

  chunk_in : (k : ℕ) → i ≤ k → k < i + m → slice_chunk new_cells (cell_bytes n) k
      ≡ replicate (cell_bytes n) (filler how)
  chunk_in k low high =
      slice_chunk-written cells (cell_bytes n) i m fill fill_long room k (k - i) (omega arith) (omega arith)
      ∙ slice_chunk-replicate (m * cell_bytes n) (cell_bytes n) (k - i) (filler how)
      (chunk_end (cell_bytes n) (k - i) m (omega arith))

  -- a slot outside reads as before and has the bytes that it had
  record Stays (k : ℕ) : Type 0 where
    state : get_or new_states k Blank ≡ get_or states k Blank
    cell : slice_chunk new_cells (cell_bytes n) k ≡ slice_chunk cells (cell_bytes n) k

  stays_before : (k : ℕ) → k < i → Stays k
  stays_before k before = record {
    state = get_or-overwritten_below states i marks marks_within k Blank before;
    cell = slice_chunk-written_before cells (cell_bytes n) i m fill fill_long room k before;
  }

  stays_behind : (k : ℕ) → i + m ≤ k → Stays k
  stays_behind k behind = record {
    state = get_or-overwritten_above states i marks marks_within k Blank (rw length-replicate behind);
    cell = slice_chunk-written_behind cells (cell_bytes n) i m fill fill_long room k behind;
  }

  abbrev old_image : List Contents
  old_image = image_of n states cells

  abbrev new_image : List Contents
  new_image = image_of n new_states new_cells

  slot_in : (k : ℕ) → i ≤ k → k < i + m → get_or new_image k blank ≡ left
  slot_in k low high =
      get_or-image_of n new_states new_cells k blank (rw length-filled_states (omega arith))
      ∙ ap (λ (s : Seen). contents_of n s (slice_chunk new_cells (cell_bytes n) k)) (state_in k low high)
      ∙ contents_of-bare n how _ bare

  slot_stays : (k : ℕ) → k < length states → Stays k → get_or new_image k blank ≡ get_or old_image k blank
  slot_stays k below stays =
      let within : k < length new_states = rw length-filled_states below in
      rw (
        get_or-image_of n new_states new_cells k blank within,
        get_or-image_of n states cells k blank below,
        stays.state,
        stays.cell,
      )
      refl

  abbrev left_slots : List Contents
  left_slots = replicate m left

  slots_within : i + length left_slots ≤ length old_image
  slots_within = rw (length-replicate, length-image_of) inside

  slot_at_is : (k : ℕ) → k < length states → (k < i) ⊎ (((i ≤ k) × (k < i + m)) ⊎ (i + m ≤ k))
      → get_or new_image k blank ≡ get_or (overwritten old_image i left_slots) k blank
  slot_at_is k below (inl before) =
      slot_stays k below (stays_before k before)
      ∙ sym (get_or-overwritten_below old_image i left_slots slots_within k blank before)
  slot_at_is k below (inr (inl among)) =
      slot_in k among.0 among.1
      ∙ sym (get_or-overwritten_in old_image i left_slots slots_within k blank among.0 (rw length-replicate among.1)
      ∙ get_or-replicate m (k - i) left blank (omega arith))
  slot_at_is k below (inr (inr behind)) =
      slot_stays k below (stays_behind k behind)
      ∙ sym (get_or-overwritten_above old_image i left_slots slots_within k blank (rw length-replicate behind))

  -- these slots hold nothing, and the others what they held
  pub image_of-filled : new_image ≡ overwritten old_image i left_slots
  image_of-filled =
      ext_get_or blank _ _
      (length-image_of n new_states new_cells ∙ length-filled_states ∙ sym (length-image_of n states cells)
      ∙ sym (length-overwritten old_image i left_slots slots_within))
      (λ k below.
      let within : k < length states = omega (arith, length-image_of n new_states new_cells, length-filled_states) in
      slot_at_is k within (where_it_lies i m k))

  filled_at : AreFilled n states cells → (k : ℕ) → k < length states → (k < i) ⊎ (((i ≤ k) × (k < i + m)) ⊎ (i + m ≤ k))
      → IsFilled n (get_or new_states k Blank) (slice_chunk new_cells (cell_bytes n) k)
  filled_at filled k below (inl before) = let s = stays_before k before in rw (s.state, s.cell) (filled k below)
  filled_at filled k below (inr (inl among)) = rw (state_in k among.0 among.1, chunk_in k among.0 among.1)
      (IsFilled-filler n how bare)
  filled_at filled k below (inr (inr behind)) = let s = stays_behind k behind in rw (s.state, s.cell) (filled k below)

  pub AreFilled-filled : AreFilled n states cells → AreFilled n new_states new_cells
  AreFilled-filled filled k below =
      let within : k < length states = omega (arith, length-filled_states) in
      filled_at filled k within (where_it_lies i m k)
