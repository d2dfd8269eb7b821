-- What a write of slots that follow each other means for each of them.
use Rattle.live_flash.proofs.Common.{◌≡◌, ◌≢◌, ◌⊎◌, ℕ, ◌+◌, ◌-◌, ◌*◌, ◌<◌, ◌≤◌, List, ◌∷◌, length, drop, get_or, Option, Result, Ok, Err, OnOk, IfSome, sym, subst, ◌∙◌, inl, inr, ⊎_elim, arith, slots_of, Shape, Contents, blank, slot_at, IsImage, StoreError, FileState, values_at, Writes, MayWrite, WritesFile, BothTell, erased, slot_bytes, slot_offset, IsOpened, slot_values, IsSlot, Holds, LeavesEither, IsTurning, TurnsSlot, TurnsSlots}
use Rattle.std.specs.Fork.{slice_chunk}
use Rattle.std.proofs.Math.Nat.{mul-le-mul_right}
use Rattle.std.proofs.lemmas.Bool.{cases_lt}
use Rattle.std.proofs.lemmas.List.{length-replicate, get_or-take, get_or-drop}
use Rattle.list_lemmas.proofs.Chunks.{chunk_end, length-slice_chunk, slice_chunk-replicate}
use Rattle.file_flash.proofs.Told.{weaken}
use Rattle.file_flash.proofs.Writing.{may_write}
use Rattle.live_flash.proofs.Calls.{empty_slot, told_as}
use Rattle.live_flash.proofs.Turning.{Puts, MayPut, written_over, programmed_slot, erased_over, erased_slot}

-- slots that follow each other end within the file
pub slots_room : (shape : Shape) (first count offset many : ℕ) (file : Option FileState) →
    first + count ≤ slots_of shape → offset ≡ slot_offset shape first → many ≡ count * slot_bytes shape.page_bytes →
    IfSome file (IsOpened shape) → IfSome file (λ f. offset + many ≤ length f.values)
slots_room shape first count offset many file low here long o =
    weaken (IsOpened shape) (λ f. offset + many ≤ length f.values) file o
    (λ f it.
    let all : length f.values ≡ 64 + slots_of shape * slot_bytes shape.page_bytes = it.long in
    let ends : (first + count) * slot_bytes shape.page_bytes ≤ slots_of shape * slot_bytes shape.page_bytes =
    mul-le-mul_right (slot_bytes shape.page_bytes) low in
    omega (arith, all, ends, here, long))

-- what holds of each by its number in the run holds of each by its number in the flash
at_each : (P : ℕ → Type 0) (first count : ℕ) → ((i : ℕ) → i < count → P (first + i)) →
    (k : ℕ) → first ≤ k → k < first + count → P k
at_each P first count each k from below =
    let here : first + (k - first) ≡ k = omega (arith, from) in
    subst P here (each (k - first) (omega (arith, from, below)))

module _ (shape : Shape) (first count : ℕ) (bytes : List ℕ) (before after : FileState)
    (long : length bytes ≡ count * slot_bytes shape.page_bytes) where
  abbrev size : ℕ
  size = slot_bytes shape.page_bytes

  -- the bytes of one of the slots
  part_long : (i : ℕ) → i < count → length (slice_chunk bytes size i) ≡ size
  part_long i low = length-slice_chunk bytes size i (omega (arith, long, chunk_end size i count low))

  part_byte : (i j : ℕ) → j < size → get_or (slice_chunk bytes size i) j 0 ≡ get_or bytes (i * size + j) 0
  part_byte i j inside = get_or-take size (drop (i * size) bytes) j 0 inside ∙ get_or-drop (i * size) bytes j 0

  part_place : (i j : ℕ) → slot_offset shape first + (i * size + j) ≡ slot_offset shape (first + i) + j
  part_place i j = omega arith

  part_within : (i j : ℕ) → i < count → j < size → i * size + j < length bytes
  part_within i j low inside = omega (arith, long, chunk_end size i count low, inside)

  module _ (i : ℕ) (low : i < count) where
    inside_size : (j : ℕ) → j < length (slice_chunk bytes size i) → j < size
    inside_size j inside = omega (arith, part_long i low, inside)

    pub puts_part : Writes (slot_offset shape first) bytes before after →
        Puts shape (first + i) (slice_chunk bytes size i) before after
    puts_part w j inside =
        let within = inside_size j inside in
        subst (λ b. slot_values shape after (first + i) j ≡ b ∷ slot_values shape before (first + i) j)
        (sym (part_byte i j within))
        (subst (λ n. values_at after n ≡ get_or bytes (i * size + j) 0 ∷ values_at before n) (part_place i j)
        (w.inside (i * size + j) (part_within i j low within)))

    pub may_part : MayWrite (slot_offset shape first) bytes before after →
        MayPut shape (first + i) (slice_chunk bytes size i) before after
    may_part w j inside =
        let within = inside_size j inside in
        subst (λ b. (slot_values shape after (first + i) j ≡ b ∷ slot_values shape before (first + i) j)
        ⊎ (slot_values shape after (first + i) j ≡ slot_values shape before (first + i) j))
        (sym (part_byte i j within))
        (subst (λ n. (values_at after n ≡ get_or bytes (i * size + j) 0 ∷ values_at before n)
        ⊎ (values_at after n ≡ values_at before n)) (part_place i j)
        (w.inside (i * size + j) (part_within i j low within)))

  module _ (w : MayWrite (slot_offset shape first) bytes before after) where
    pub run_others : (k j : ℕ) → (k < first) ⊎ (first + count ≤ k) → j < size →
        slot_values shape after k j ≡ slot_values shape before k j
    run_others k j side inside = w.outside (slot_offset shape k + j) (⊎_elim
        (λ low. inl (let ends : k * size + size ≤ first * size = chunk_end size k first low in
        omega (arith, ends, inside)))
        (λ high. inr (let ends : (first + count) * size ≤ k * size = mul-le-mul_right size high in
        omega (arith, ends, long)))
        side)

    pub run_header : (k : ℕ) → k < 64 → values_at after k ≡ values_at before k
    run_header k inside = w.outside k (inl (omega (arith, inside)))

-- ---- slots are programmed

module _ (shape : Shape) (first count : ℕ) (bytes : List ℕ) (r : Result (Unit {0}) StoreError)
    (before after : FileState) (most : shape.page_bytes ≤ 4096) (new : ℕ → Contents)
    (long : length bytes ≡ count * slot_bytes shape.page_bytes)
    (is : (i : ℕ) → i < count →
    IsSlot shape.page_bytes (new (first + i)) (slice_chunk bytes (slot_bytes shape.page_bytes) i)) where
  room : slot_bytes shape.page_bytes ≤ 268435459
  room = omega (arith, most)

  programmed_done : (x : Result (Unit {0}) StoreError) → WritesFile (slot_offset shape first) bytes x before after →
      (i : ℕ) → i < count → Holds shape blank before (first + i) →
      OnOk x (IsTurning shape blank (new (first + i)) after (first + i))
  programmed_done (Err e) w i low h = tt
  programmed_done (Ok u) w i low h = programmed_slot shape (first + i) (new (first + i))
      (slice_chunk bytes (slot_bytes shape.page_bytes) i) before after room (is i low) h
      (puts_part shape first count bytes before after long i low w)

  pub programs_turn : WritesFile (slot_offset shape first) bytes r before after →
      TurnsSlots shape first count (λ k. blank) new r before after
  programs_turn w =
      let may : MayWrite (slot_offset shape first) bytes before after =
      may_write (slot_offset shape first) bytes r before after w in
      record {
        long = may.long;
        copies = may.copies;
        header = run_header shape first count bytes before after long may;
        others = run_others shape first count bytes before after long may;
        either = at_each (λ k. Holds shape blank before k → LeavesEither shape blank (new k) after k) first count
            (λ i low h. written_over shape (first + i) (new (first + i))
            (slice_chunk bytes (slot_bytes shape.page_bytes) i) before after room (is i low) h
            (may_part shape first count bytes before after long i low may));
        turns = at_each (λ k. Holds shape blank before k → OnOk r (IsTurning shape blank (new k) after k)) first count
            (λ i low h. programmed_done r w i low h);
      }

-- ---- slots are erased

module _ (shape : Shape) (first count : ℕ) (r : Result (Unit {0}) StoreError)
    (before after : FileState) (most : shape.page_bytes ≤ 4096) (old : ℕ → Contents) where
  abbrev empties : List ℕ
  empties = erased (count * slot_bytes shape.page_bytes)

  empties_long : length empties ≡ count * slot_bytes shape.page_bytes
  empties_long = length-replicate {A = ℕ} (count * slot_bytes shape.page_bytes) 255

  empty_part : (i : ℕ) → i < count →
      slice_chunk empties (slot_bytes shape.page_bytes) i ≡ erased (slot_bytes shape.page_bytes)
  empty_part i low = slice_chunk-replicate (count * slot_bytes shape.page_bytes) (slot_bytes shape.page_bytes) i 255
      (chunk_end (slot_bytes shape.page_bytes) i count low)

  wide : slot_bytes shape.page_bytes ≤ 268435459
  wide = omega (arith, most)

  erased_done : (x : Result (Unit {0}) StoreError) → WritesFile (slot_offset shape first) empties x before after →
      (i : ℕ) → i < count → Holds shape (old (first + i)) before (first + i) →
      OnOk x (IsTurning shape (old (first + i)) blank after (first + i))
  erased_done (Err e) w i low h = tt
  erased_done (Ok u) w i low h = erased_slot shape (first + i) (old (first + i)) before after wide
      (empty_slot shape.page_bytes) h
      (subst (λ part. Puts shape (first + i) part before after) (empty_part i low)
      (puts_part shape first count empties before after empties_long i low w))

  pub erases_turn : WritesFile (slot_offset shape first) empties r before after →
      TurnsSlots shape first count old (λ k. blank) r before after
  erases_turn w =
      let may : MayWrite (slot_offset shape first) empties before after =
      may_write (slot_offset shape first) empties r before after w in
      record {
        long = may.long;
        copies = may.copies;
        header = run_header shape first count empties before after empties_long may;
        others = run_others shape first count empties before after empties_long may;
        either = at_each (λ k. Holds shape (old k) before k → LeavesEither shape (old k) blank after k) first count
            (λ i low h. erased_over shape (first + i) (old (first + i)) before after wide
            (empty_slot shape.page_bytes) h
            (subst (λ part. MayPut shape (first + i) part before after) (empty_part i low)
            (may_part shape first count empties before after empties_long i low may)));
        turns = at_each (λ k. Holds shape (old k) before k → OnOk r (IsTurning shape (old k) blank after k)) first count
            (λ i low h. erased_done r w i low h);
      }

-- ---- of what is told

pub programs_told : (shape : Shape) (first count : ℕ) (bytes : List ℕ) (r : Result (Unit {0}) StoreError)
    (before after : Option FileState) (image : List Contents) → IsImage shape image →
    length bytes ≡ count * slot_bytes shape.page_bytes →
    ((i : ℕ) → i < count →
    IsSlot shape.page_bytes (slot_at image (first + i)) (slice_chunk bytes (slot_bytes shape.page_bytes) i)) →
    BothTell (WritesFile (slot_offset shape first) bytes r) before after →
    BothTell (TurnsSlots shape first count (λ k. blank) (λ k. slot_at image k) r) before after
programs_told shape first count bytes r before after image whole long is told =
    told_as (WritesFile (slot_offset shape first) bytes r)
    (TurnsSlots shape first count (λ k. blank) (λ k. slot_at image k) r) before after told
    (λ a b w. programs_turn shape first count bytes r a b whole.bounds.page_most (λ k. slot_at image k) long is w)

pub erases_told : (shape : Shape) (first count : ℕ) (r : Result (Unit {0}) StoreError)
    (before after : Option FileState) → shape.page_bytes ≤ 4096 → (old : ℕ → Contents) →
    BothTell (WritesFile (slot_offset shape first) (erased (count * slot_bytes shape.page_bytes)) r) before after →
    BothTell (TurnsSlots shape first count old (λ k. blank) r) before after
erases_told shape first count r before after most old told =
    told_as (WritesFile (slot_offset shape first) (erased (count * slot_bytes shape.page_bytes)) r)
    (TurnsSlots shape first count old (λ k. blank) r) before after told
    (λ a b w. erases_turn shape first count r a b most old w)

-- of one slot
one_turns : (shape : Shape) (at : ℕ) (old : Contents) (r : Result (Unit {0}) StoreError) (before after : FileState) →
    TurnsSlots shape at 1 (λ k. old) (λ k. blank) r before after → TurnsSlot shape at old blank r before after
one_turns shape at old r before after t = record {
  long = t.long;
  copies = t.copies;
  header = t.header;
  others = λ k j apart inside. t.others k j (side k apart) inside;
  either = λ h. t.either at (omega arith) (omega arith) h;
  turns = λ h. t.turns at (omega arith) (omega arith) h;
}
  where
    side : (k : ℕ) → k ≢ at → (k < at) ⊎ (at + 1 ≤ k)
    side k apart = elim (cases_lt k at) [ inl low ↦ inl low | inr from ↦ inr (grind arith) ]

pub one_erased : (shape its : Shape) (at : ℕ) (c old : Contents) (r : Result (Unit {0}) StoreError)
    (before after : Option FileState) → shape.page_bytes ≤ 4096 → its ≡ shape → c ≡ blank →
    BothTell (WritesFile (slot_offset its at) (erased (1 * slot_bytes its.page_bytes)) r) before after →
    BothTell (TurnsSlot shape at old c r) before after
one_erased shape its at c old r before after most same empty told =
    subst (λ x. BothTell (TurnsSlot shape at old x r) before after) (sym empty)
    (told_as (TurnsSlots shape at 1 (λ k. old) (λ k. blank) r) (TurnsSlot shape at old blank r) before after
    (erases_told shape at 1 r before after most (λ k. old)
    (subst (λ (s : Shape). BothTell (WritesFile (slot_offset s at) (erased (1 * slot_bytes s.page_bytes)) r)
    before after) same told))
    (λ a b t. one_turns shape at old r a b t))
