-- Where the slots stand in a file, and what is left of one.
use Rattle.live_flash.proofs.Common.{◌≡◌, ◌≢◌, ◌⊎◌, ℕ, ◌+◌, ◌*◌, ◌<◌, ◌≤◌, List, ◌∷◌, length, drop, get_or, Contains, sym, ap, subst, ◌∙◌, inl, inr, ⊎_elim, arith, slots_of, Shape, blank, slot_at, FileState, values_at, LeavesBytes, MayWrite, slot_bytes, live_contents, live_bytes, slot_offset, slot_in, live_image, slot_values, LeavesSlot}
use Rattle.std.proofs.lemmas.List.{length-drop, get_or-take, get_or-drop}
use Rattle.std.proofs.lemmas.List.FromFn.{get_or-map-range_with_len}
use Rattle.list_lemmas.proofs.Chunks.{chunk_end, length-slice_chunk}
use Rattle.file_flash.proofs.Places.{cells_apart}

-- a slot ends within the file
pub slot_end : (n size at : ℕ) → at < n → 64 + at * size + size ≤ 64 + n * size
slot_end n size at low = omega (arith, chunk_end size at n low)

module _ (shape : Shape) (left : List ℕ) (long : length left ≡ live_bytes shape) (k : ℕ)
    (low : k < slots_of shape) where
  abbrev size : ℕ
  size = slot_bytes shape.page_bytes

  all : length left ≡ 64 + slots_of shape * size
  all = long

  pub slot_long : length (slot_in shape left k) ≡ slot_bytes shape.page_bytes
  slot_long = length-slice_chunk (drop 64 left) size k
      (omega (arith, all, slot_end (slots_of shape) size k low, length-drop 64 left))

  pub slot_byte : (j : ℕ) → j < slot_bytes shape.page_bytes →
      get_or (slot_in shape left k) j 0 ≡ get_or left (slot_offset shape k + j) 0
  slot_byte j inside =
      let place : 64 + (k * size + j) ≡ 64 + k * size + j = omega arith in
      get_or-take size (drop (k * size) (drop 64 left)) j 0 inside
      ∙ get_or-drop (k * size) (drop 64 left) j 0
      ∙ get_or-drop 64 left (k * size + j) 0
      ∙ ap (λ i. get_or left i 0) place

  pub slot_reads : slot_at (live_image shape left) k ≡ live_contents shape.page_bytes (slot_in shape left k)
  slot_reads = get_or-map-range_with_len (λ at. live_contents shape.page_bytes (slot_in shape left at))
      0 (slots_of shape) k k blank low (omega arith)

-- what a loss leaves of a file, it leaves of each slot
pub slot_left : (shape : Shape) (file : FileState) (left : List ℕ) → length file.values ≡ live_bytes shape →
    LeavesBytes file left → (k : ℕ) → k < slots_of shape → LeavesSlot shape file k (slot_in shape left k)
slot_left shape file left long l k low =
    let size : ℕ = slot_bytes shape.page_bytes in
    let all : length left ≡ live_bytes shape = l.long ∙ long in
    let ends = slot_end (slots_of shape) (slot_bytes shape.page_bytes) k low in
    record {
      long = slot_long shape left all k low;
      each = λ j inside. subst (λ b. Contains (slot_values shape file k j) b)
          (sym (slot_byte shape left all k low j inside))
          (l.each (slot_offset shape k + j) (omega (arith, all, ends, inside)));
    }

-- ---- a write of bytes of a slot

module _ (shape : Shape) (at from : ℕ) (bytes : List ℕ) (old new : FileState)
    (fits : from + length bytes ≤ slot_bytes shape.page_bytes)
    (w : MayWrite (slot_offset shape at + from) bytes old new) where
  pub others_stay : (k j : ℕ) → k ≢ at → j < slot_bytes shape.page_bytes →
      slot_values shape new k j ≡ slot_values shape old k j
  others_stay k j ne inside = w.outside (slot_offset shape k + j) (⊎_elim
      (λ before. inl (omega (arith, before)))
      (λ behind. inr (omega (arith, behind, fits)))
      (cells_apart (slot_bytes shape.page_bytes) k at j ne inside))

  pub header_stays : (k : ℕ) → k < 64 → values_at new k ≡ values_at old k
  header_stays k inside = w.outside k (inl (omega arith))

  pub rest_stays : (j : ℕ) → (j < from) ⊎ (from + length bytes ≤ j) →
      slot_values shape new at j ≡ slot_values shape old at j
  rest_stays j side = w.outside (slot_offset shape at + j) (⊎_elim
      (λ before. inl (omega (arith, before)))
      (λ behind. inr (omega (arith, behind)))
      side)

  pub may_be : (j : ℕ) → j < length bytes →
      (slot_values shape new at (from + j) ≡ get_or bytes j 0 ∷ slot_values shape old at (from + j))
      ⊎ (slot_values shape new at (from + j) ≡ slot_values shape old at (from + j))
  may_be j inside =
      subst (λ i. (values_at new i ≡ get_or bytes j 0 ∷ values_at old i) ⊎ (values_at new i ≡ values_at old i))
      (omega arith) (w.inside j inside)
