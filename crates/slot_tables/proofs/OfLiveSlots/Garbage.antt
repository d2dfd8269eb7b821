-- The garbage of a block, from the marks of its slots.
use Rattle.slot_tables.proofs.Common.{◌≡◌, ℕ, zero, suc, ◌+◌, ◌-◌, ◌*◌, ◌<◌, ◌≤◌, Bool, true, false, not, ◌||◌, cond, length, map, count_by, refl, sym, ap, ap₂, ◌∙◌, arith, range_with_len, row_fits, length-map, one_of, blocks_of, is_slot, SlotUse, Blank, Damaged, Holds, TablesState, IsTablesState, use_at, is_blank, is_needed, is_needed_for, number_in, LiveSlotsState, is_marked, marked_in, AreMarked}
use Rattle.std.proofs.lemmas.List.{get_or-map}
use Rattle.list_lemmas.proofs.Counts.{count_first}
use Rattle.list_lemmas.proofs.Ranges.{map_range}
use Rattle.slot_tables.specs.TablesState.{slots_in, last_slot, is_shut, garbage_of, garbage_now, garbage_numbers, garbage_now_numbers, blanks_of}
use Rattle.slot_tables.specs.Counts.{BlockCountsState, unmarked_in, unmarked_numbers, is_shut_in, garbage_in, garbage_counts}
use Rattle.slot_tables.specs.Tables.{AreBlanks}
use Rattle.slot_tables.proofs.OfLiveSlots.Counting.{count_same}

-- those that pass and those that do not are all
count_not : (f : ℕ → Bool) (a n : ℕ) → count_by (λ k. not (f k)) (range_with_len a n) + count_by f (range_with_len a n)
    ≡ n
count_not f a zero = omega arith
count_not f a (suc n) =
    let rest = count_not f (a + 1) n in
    let one = one_or (f a) in
    omega (arith, count_first f a n, count_first (λ k. not (f k)) a n, rest, one)
  where
    one_or : (b : Bool) → one_of (not b) + one_of b ≡ 1
    one_or true = omega arith
    one_or false = omega arith

-- those that pass one of two tests that exclude each other, and those that pass neither, are all
count_apart : (f g : ℕ → Bool) (a n : ℕ) → ((k : ℕ) → f k ≡ true → g k ≡ false)
    → count_by (λ k. not (f k || g k)) (range_with_len a n) + count_by f (range_with_len a n) + count_by g
    (range_with_len a n) ≡ n
count_apart f g a zero apart = omega arith
count_apart f g a (suc n) apart =
    let rest = count_apart f g (a + 1) n apart in
    let one = one_of_three (f a) (g a) (apart a) in
    omega (arith, count_first f a n, count_first g a n, count_first (λ k. not (f k || g k)) a n, rest, one)
  where
    one_of_three : (b c : Bool) → (b ≡ true → c ≡ false) → one_of (not (b || c)) + one_of b + one_of c ≡ 1
    one_of_three true c h = rw (h refl) (omega arith)
    one_of_three false true h = omega arith
    one_of_three false false h = omega arith

-- a blank slot is not needed
blank_unneeded : (k : TablesState) (at : ℕ) → is_blank (use_at k.slots at) ≡ true → is_needed k at ≡ false
unfolding is_needed
blank_unneeded k at h = by (use_at k.slots at) refl
  where
    by : (u : SlotUse) → use_at k.slots at ≡ u → is_needed_for k at (number_in u) ≡ false
    by Blank e = refl
    by Damaged e = refl
    by (Holds x) e = absurd (let no : false ≡ true = rw e at h in cc)

module _ (k : TablesState) (h : IsTablesState k) (n : LiveSlotsState) (m : AreMarked k n) where
  needed_count : (block : ℕ) → marked_in n.needed n.size block ≡ count_by (is_needed k) (slots_in k.shape block)
  unfolding marked_in
  needed_count block = rw m.size (count_same (is_marked n.needed) (is_needed k) (block * k.shape.pages_per_block)
      k.shape.pages_per_block
      (λ at low high. m.needed at))

  -- of a block that is shut it is what is not needed
  pub garbage_shut : (block : ℕ) → garbage_of k true block ≡ unmarked_in n block
  unfolding garbage_of
  garbage_shut block =
      let all = count_not (is_needed k) (block * k.shape.pages_per_block) k.shape.pages_per_block in
      rw (m.spare, needed_count block, m.size)
      (ap (cond (is_slot block k.spare) 0) (let left : count_by
      (λ at. not (is_needed k at)) (slots_in k.shape block) ≡ k.shape.pages_per_block - count_by (is_needed k)
      (slots_in k.shape block) = omega (arith, all) in left))

  pub garbage_numbers_are : garbage_numbers k ≡ unmarked_numbers n
  garbage_numbers_are = rw m.blocks (map_range (garbage_of k true) (unmarked_in n) 0 (blocks_of k.shape)
      (λ block low high. garbage_shut block))

  -- where it is not shut the blank slots are not garbage; of the spare there is none
  pub garbage_part : (block : ℕ) → garbage_of k false block ≡ unmarked_in n block - blanks_of k block
  unfolding garbage_of blanks_of
  garbage_part block = rw (m.spare, needed_count block, m.size) (by_spare (is_slot block k.spare))
    where
      blank : ℕ → Bool
      blank at = is_blank (use_at k.slots at)

      all : count_by (λ at. not (blank at || is_needed k at)) (slots_in k.shape block) + count_by blank
          (slots_in k.shape block)
          + count_by (is_needed k) (slots_in k.shape block) ≡ k.shape.pages_per_block
      all = count_apart blank (is_needed k) (block * k.shape.pages_per_block) k.shape.pages_per_block (blank_unneeded k)

      by_spare : (b : Bool) → cond b 0 (count_by (λ at. not (blank at || is_needed k at)) (slots_in k.shape block))
          ≡ cond b 0 (k.shape.pages_per_block - count_by (is_needed k) (slots_in k.shape block)) - count_by blank
          (slots_in k.shape block)
      by_spare true = omega arith
      by_spare false = omega (arith, all)

-- the blank slots are counted
module _ (k : TablesState) (h : IsTablesState k) (m : BlockCountsState) (b : AreBlanks k m) (block : ℕ)
    (low : block < blocks_of k.shape) where
  block_fits : block * k.shape.pages_per_block + k.shape.pages_per_block ≤ length k.slots
  block_fits =
      let whole = row_fits block k.shape.pages_per_block (blocks_of k.shape) k.shape.pages_per_block low
      (omega arith) in
      omega (arith, whole, h.slots)

  pub blank_fits : block * m.size + m.size ≤ length m.marks
  blank_fits = rw (b.size, b.marks, length-map k.slots is_blank) block_fits

  pub blank_count : marked_in m.marks m.size block ≡ blanks_of k block
  unfolding marked_in blanks_of
  blank_count =
      rw (b.size, b.marks)
      (count_same (is_marked (map is_blank k.slots)) (λ at. is_blank (use_at k.slots at))
      (block * k.shape.pages_per_block) k.shape.pages_per_block
      (λ at first last. let fits = block_fits in get_or-map is_blank k.slots at Blank false (omega arith)))

-- of a block as it is
module _ (k : TablesState) (h : IsTablesState k) (n : LiveSlotsState) (m : AreMarked k n)
    (b : AreBlanks k (record { marks = n.blanks; size = n.size })) where
  last_blank : (block : ℕ) → block < blocks_of k.shape →
      is_marked n.blanks (block * n.size + (n.size - 1)) ≡ is_blank (use_at k.slots (last_slot k.shape block))
  last_blank block low =
      let fits = block_fits k h (record { marks = n.blanks; size = n.size }) b block low in
      let some = h.shape.pages_least in
      rw (b.size, b.marks)
      (get_or-map is_blank k.slots (last_slot k.shape block) Blank false (omega (arith, fits, some)))

  shut_is : (block : ℕ) → block < blocks_of k.shape → is_shut k block ≡ is_shut_in n.blanks n.closed n.size block
  shut_is block low =
      ap₂ (λ c last. c || not last) (ap (λ cs. is_marked cs block) (sym m.closed)) (sym (last_blank block low))

  pub garbage_is : (block : ℕ) → block < blocks_of k.shape → garbage_now k block ≡ garbage_in n block
  garbage_is block low =
      ap (λ shut. garbage_of k shut block) (shut_is block low) ∙ by (is_shut_in n.blanks n.closed n.size block)
    where
      -- by whether programs go to it
      counted : Bool → ℕ
      counted shut = n.size - marked_in n.needed n.size block - cond shut 0 (marked_in n.blanks n.size block)

      by : (shut : Bool) → garbage_of k shut block ≡ cond (is_slot block n.spare) 0 (counted shut)
      by true = garbage_shut k h n m block ∙ whole (is_slot block n.spare)
        where
          whole : (spare : Bool) → cond spare 0 (n.size - marked_in n.needed n.size block)
              ≡ cond spare 0 (n.size - marked_in n.needed n.size block - 0)
          whole true = refl
          whole false = omega arith
      by false =
          garbage_part k h n m block
          ∙ ap (λ count. unmarked_in n block - count)
          (sym (blank_count k h (record { marks = n.blanks; size = n.size }) b block low))
          ∙ less (is_slot block n.spare)
        where
          less : (spare : Bool) → cond spare 0 (n.size - marked_in n.needed n.size block)
              - marked_in n.blanks n.size block ≡ cond spare 0 (counted false)
          less true = omega arith
          less false = refl

  pub garbage_counts_are : garbage_now_numbers k ≡ garbage_counts n
  garbage_counts_are = rw m.blocks (map_range (garbage_now k) (garbage_in n) 0 (blocks_of k.shape)
      (λ block first last. garbage_is block (omega arith)))
