-- The garbage of a block by its needed and its blank slots.
use Rattle.judged_records.proofs.Common.{◌≡◌, ℕ, zero, suc, ◌+◌, ◌*◌, Bool, true, false, not, ◌||◌, None, refl, ap, ◌∙◌, arith, range_with_len, is_slot, Note, Blank, Damaged, Holds, note_at, rec_of, IndexState, garbage_of, needed_of}
use Rattle.std.proofs.Common.{count_by}
use Rattle.list_lemmas.proofs.Counts.{one_of, count_first}
use Rattle.judged_records.specs.IndexState.{is_blank, is_garbage_at, shut_or_part}
use Rattle.judged_records.proofs.OfNotes.NotedFacts.{other_garbage}
use Rattle.judged_records.proofs.OfReadings.Readings.{unneeded_reading}

-- where each number of a range passes one of three tests and no other
three_counts : (p q r : ℕ → Bool) (a n : ℕ) → ((k : ℕ) → one_of (p k) + one_of (q k) + one_of (r k) ≡ 1) →
    count_by p (range_with_len a n) + count_by q (range_with_len a n) + count_by r (range_with_len a n) ≡ n
three_counts p q r a zero h = omega arith
three_counts p q r a (suc n) h =
    let rest = three_counts p q r (a + 1) n h in
    let here = h a in
    omega (arith, count_first p a n, count_first q a n, count_first r a n, rest, here)

-- or one of two
two_counts : (p q : ℕ → Bool) (a n : ℕ) → ((k : ℕ) → one_of (p k) + one_of (q k) ≡ 1) →
    count_by p (range_with_len a n) + count_by q (range_with_len a n) ≡ n
two_counts p q a zero h = omega arith
two_counts p q a (suc n) h =
    let rest = two_counts p q (a + 1) n h in
    let here = h a in
    omega (arith, count_first p a n, count_first q a n, rest, here)

either_way : (needed : Bool) → one_of (not needed) + one_of needed ≡ 1
either_way true = omega arith
either_way false = omega arith

blank_is : (note : Note) → is_blank note ≡ true → rec_of note ≡ None
blank_is Blank h = refl
blank_is Damaged h = refl
blank_is (Holds rec) h = cc

one_way : (blank needed : Bool) → (blank ≡ true → needed ≡ false) →
    one_of (not (blank || needed)) + one_of blank + one_of needed ≡ 1
one_way false true h = omega arith
one_way false false h = omega arith
one_way true needed h = let none = ap one_of (h refl) in omega arith

module _ (n : IndexState) (block : ℕ) (other : is_slot block n.spare ≡ false) where
  -- each slot of a block that is shut is needed or garbage
  pub garbage_shut : garbage_of n block true + count_by (needed_of n)
      (range_with_len (block * n.config.pages_per_block) n.config.pages_per_block) ≡ n.config.pages_per_block
  garbage_shut =
      let first = block * n.config.pages_per_block in
      let len = n.config.pages_per_block in
      ap (λ g. g + count_by (needed_of n) (range_with_len first len)) (other_garbage n block true other)
      ∙ two_counts (is_garbage_at n (shut_or_part true)) (needed_of n) first len (λ k. either_way (needed_of n k))

  -- and of another one each slot is needed, blank or garbage
  pub garbage_part : garbage_of n block false + count_by (λ at. is_blank (note_at n.notes at))
      (range_with_len (block * n.config.pages_per_block) n.config.pages_per_block)
      + count_by (needed_of n) (range_with_len (block * n.config.pages_per_block) n.config.pages_per_block)
      ≡ n.config.pages_per_block
  garbage_part =
      let first = block * n.config.pages_per_block in
      let len = n.config.pages_per_block in
      ap (λ g. g + count_by (λ at. is_blank (note_at n.notes at)) (range_with_len first len) + count_by (needed_of n)
      (range_with_len first len)) (other_garbage n block false other)
      ∙ three_counts (is_garbage_at n (shut_or_part false)) (λ at. is_blank (note_at n.notes at)) (needed_of n)
      first len (λ k.
      one_way (is_blank (note_at n.notes k)) (needed_of n k)
      (λ blank. unneeded_reading n k (blank_is (note_at n.notes k) blank)))
