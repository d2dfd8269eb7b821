-- How many slots of each block are garbage, after a change.
use Rattle.slot_tables.proofs.Common.{◌≡◌, ◌≢◌, ℕ, ◌+◌, ◌-◌, ◌*◌, ◌/◌, ◌<◌, ◌≤◌, Bool, true, false, eqb, cond, inl, inr, Some, None, List, length, get_or, set, map, refl, sym, ◌∙◌, ap, arith, length-set, range_with_len, IfSome, option_map, with_item, subst, row_fits, one_of, cases_eq, nat_tests, get_or-set_same, get_or-set_other, Block, is_slot}
use Rattle.std.specs.Prelude.{sum}
use Rattle.std.proofs.Math.Nat.{mul-le-mul_left}
use Rattle.std.proofs.lemmas.Nat.{div_below}
use Rattle.std.proofs.lemmas.List.{set-get_or}
use Rattle.std.proofs.lemmas.List.Elements.{All-from_get_or}
use Rattle.std.proofs.lemmas.List.Sums.{sum_by-le}
use Rattle.std.proofs.lemmas.List.FromFn.{fill_by_all, length-map-range_with_len, get_or-map-range_with_len}
use Rattle.slot_tables.specs.declared.live_slots.LiveSlots.TheInside.{Inside}
use Rattle.slot_tables.specs.declared.live_slots.SlotMarks.{SlotMarks}
use Rattle.slot_tables.specs.Counts.{counted_in, garbage_in}
use Rattle.slot_tables.specs.SlotMarks.{garbage_by, marked_so, AreSized}
use Rattle.slot_tables.specs.LiveSlots.{live_of, LiveSlotsInvariant}
use Rattle.slot_tables.proofs.OfLiveSlots.Tallying.{group_of, marked_there, marked_here}

-- the marks of a block
module _ (m : SlotMarks) (blocks block : ℕ) (h : AreSized m blocks) (low : block < blocks) where
  row : block * m.needed.size + m.needed.size ≤ blocks * m.needed.size
  row = row_fits block m.needed.size blocks m.needed.size low (omega arith)

  pub needed_fit : block * m.needed.size + m.needed.size ≤ length m.needed.marks
  needed_fit = omega (arith, row, h.needed)

  pub blanks_fit : block * m.needed.size + m.needed.size ≤ length m.blanks.marks
  blanks_fit = omega (arith, row, h.blanks)

  pub size_few : length m.needed.marks ≤ 65536 → m.needed.size ≤ 65536
  size_few few = omega (arith, needed_fit, few)

-- a block has no more garbage than slots
pub garbage_most : (m : SlotMarks) (block : ℕ) → garbage_by m block ≤ m.needed.size
garbage_most m block = by (is_slot block (option_map (λ b. b.0) m.spare))
  where
    by : (spare : Bool) → cond spare 0 (counted_in m.needed.marks m.blanks.marks m.closed.items m.needed.size block)
        ≤ m.needed.size
    by true = omega arith
    by false = omega arith

-- blocks that are counted one after the other
pub record AreCounted (m : SlotMarks) (upto blocks : ℕ) (garbage : List ℕ) : Type 0 where
  pub long : length garbage ≡ blocks
  pub few : sum garbage ≤ upto * m.needed.size
  pub counted : (block : ℕ) → block < upto → get_or garbage block 0 ≡ garbage_by m block

pub one_more : (m : SlotMarks) (upto blocks : ℕ) (garbage : List ℕ) → AreCounted m upto blocks garbage → upto < blocks
    → sum (set garbage upto (garbage_by m upto)) ≤ sum garbage + m.needed.size
    → AreCounted m (upto + 1) blocks (set garbage upto (garbage_by m upto))
one_more m upto blocks garbage h low few = record {
  long = length-set garbage upto (garbage_by m upto) ∙ h.long;
  few = let before = h.few in omega arith;
  counted = λ block less. elim (cases_eq block upto) [
    | inl here ↦ rw here (get_or-set_same garbage upto (garbage_by m upto) 0 (rw h.long low))
    | inr other ↦ get_or-set_other garbage upto block (garbage_by m upto) 0 other ∙ h.counted block (omega arith)
  ];
}

pub all_counted : (m : SlotMarks) (blocks : ℕ) (garbage : List ℕ) → AreCounted m blocks blocks garbage →
    garbage ≡ map (garbage_by m) (range_with_len 0 blocks)
all_counted m blocks garbage h = fill_by_all (garbage_by m) garbage blocks 0 h.long h.counted

pub counted_long : (m : SlotMarks) (blocks : ℕ) (garbage : List ℕ) →
    garbage ≡ map (garbage_by m) (range_with_len 0 blocks) → length garbage ≡ blocks
counted_long m blocks garbage counted = ap length counted ∙ length-map-range_with_len (garbage_by m) 0 blocks

module _ (n : Inside) (h : LiveSlotsInvariant n) where
  -- the number of a block
  pub count_read : (block : ℕ) → block < length n.garbage → get_or n.garbage block 0 ≡ garbage_by n.marks block
  count_read block low =
      ap (λ xs. get_or xs block 0) h.garbage
      ∙ get_or-map-range_with_len (garbage_in (live_of n)) 0 (length n.garbage) block block 0 low (omega arith)

  pub garbage_few : sum n.garbage ≤ 65536
  garbage_few =
      let most = sum_by-le (λ x. x) n.marks.needed.size n.garbage
      (All-from_get_or (λ x. x ≤ n.marks.needed.size) n.garbage 0
      (λ block low. rw (count_read block low) (garbage_most n.marks block))) in
      omega (arith, most, h.sized.needed, h.small)

  pub blocks_few : length n.garbage ≤ 65536
  blocks_few =
      let least : length n.garbage * 1 ≤ length n.garbage * n.marks.needed.size =
      mul-le-mul_left (length n.garbage) h.positive in
      omega (arith, least, h.sized.needed, h.small)

  pub block_lies : (at : ℕ) → at < length n.marks.needed.marks → at / n.marks.needed.size < length n.garbage
  block_lies at low = div_below at n.marks.needed.size (length n.garbage) h.positive (omega (arith, h.sized.needed))

  pub blank_lies : (at : ℕ) → at < length n.marks.blanks.marks → at / n.marks.needed.size < length n.garbage
  blank_lies at low = div_below at n.marks.needed.size (length n.garbage) h.positive (omega (arith, h.sized.blanks))

  -- other marks, by which the garbage of each block but one is counted
  module _ (m : SlotMarks) (numbers : List ℕ) (block : ℕ) (low : block < length n.garbage)
      (size : m.needed.size ≡ n.marks.needed.size) (sized : AreSized m (length n.garbage))
      (spare : IfSome m.spare (λ b. b.0 < length n.garbage)) (long : length numbers ≡ length n.garbage)
      (others : (k : ℕ) → k ≢ block → k < length n.garbage → get_or numbers k 0 ≡ garbage_by m k) where
    set_long : length (set numbers block (garbage_by m block)) ≡ length n.garbage
    set_long = length-set numbers block (garbage_by m block) ∙ long

    counted_at : (k : ℕ) → k < length n.garbage → get_or (set numbers block (garbage_by m block)) k 0 ≡ garbage_by m k
    counted_at k lies = elim (cases_eq k block) [
      | inl here ↦ rw here (get_or-set_same numbers block (garbage_by m block) 0 (rw long low))
      | inr other ↦ get_or-set_other numbers block k (garbage_by m block) 0 other ∙ others k other lies
    ]

    pub recounted : LiveSlotsInvariant (record n { marks = m; garbage = set numbers block (garbage_by m block) })
    recounted = record {
      sized = rw set_long sized;
      positive = rw size h.positive;
      small = (let marks = rw size at sized.needed in omega (arith, marks, h.sized.needed, h.small));
      spare = rw set_long spare;
      garbage =
          fill_by_all (garbage_by m) (set numbers block (garbage_by m block))
          (length (set numbers block (garbage_by m block))) 0 refl
          (λ k within. counted_at k (rw set_long at within));
    }

  -- a slot is marked as needed, or not
  module _ (at : ℕ) (mark : Bool) (low : at < length n.marks.needed.marks) where
    abbrev needed_marks : SlotMarks
    needed_marks = record n.marks { needed = record n.marks.needed { marks = set n.marks.needed.marks at mark } }

    pub needed_sized : AreSized needed_marks (length n.garbage)
    needed_sized = record {
      size = h.sized.size;
      needed = length-set n.marks.needed.marks at mark ∙ h.sized.needed;
      blanks = h.sized.blanks;
      closed = h.sized.closed;
    }

    needed_others : (k : ℕ) → k ≢ at / n.marks.needed.size → garbage_by needed_marks k ≡ garbage_by n.marks k
    needed_others k other =
        rw (marked_there n.marks.needed.marks n.marks.needed.size at mark h.positive low k other) refl

    pub needed_set : LiveSlotsInvariant (record n {
      marks = needed_marks;
      garbage = set n.garbage (at / n.marks.needed.size) (garbage_by needed_marks (at / n.marks.needed.size));
    })
    needed_set =
        recounted needed_marks n.garbage (at / n.marks.needed.size) (block_lies at low) refl needed_sized h.spare refl
        (λ k other lies. count_read k lies ∙ sym (needed_others k other))

  -- where a slot is needed no more, and some of its block are garbage, there is one more
  pub one_freed : (at : ℕ) (low : at < length n.marks.needed.marks) → get_or n.marks.needed.marks at false ≡ true
      → 0 < get_or n.garbage (at / n.marks.needed.size) 0
      → garbage_by (needed_marks at false low) (at / n.marks.needed.size)
      ≡ get_or n.garbage (at / n.marks.needed.size) 0 + 1
  one_freed at low was some =
      let block = at / n.marks.needed.size in
      let read = count_read block (block_lies at low) in
      rw read (by (is_slot block (option_map (λ b. b.0) n.marks.spare)) (rw read at some))
    where
      one : one_of (get_or n.marks.needed.marks at false) ≡ 1
      one = rw was refl

      by : (spare : Bool)
          → 0 < cond spare 0 (counted_in n.marks.needed.marks n.marks.blanks.marks n.marks.closed.items
          n.marks.needed.size (at / n.marks.needed.size))
          → cond spare 0 (counted_in (set n.marks.needed.marks at false) n.marks.blanks.marks n.marks.closed.items
          n.marks.needed.size (at / n.marks.needed.size))
          ≡ cond spare 0 (counted_in n.marks.needed.marks n.marks.blanks.marks n.marks.closed.items
          n.marks.needed.size (at / n.marks.needed.size)) + 1
      by true some_there = absurd (omega (arith, some_there))
      by false some_there =
          let here = marked_here n.marks.needed.marks n.marks.needed.size at false h.positive low in
          omega (arith, some_there, here, one)

  -- a slot is marked as blank, or not
  module _ (at : ℕ) (mark : Bool) (low : at < length n.marks.blanks.marks) where
    abbrev blank_marks : SlotMarks
    blank_marks = record n.marks { blanks = record n.marks.blanks { marks = set n.marks.blanks.marks at mark } }

    pub blank_sized : AreSized blank_marks (length n.garbage)
    blank_sized = record {
      size = h.sized.size;
      needed = h.sized.needed;
      blanks = length-set n.marks.blanks.marks at mark ∙ h.sized.blanks;
      closed = h.sized.closed;
    }

    last_there : (k : ℕ) → k ≢ at / n.marks.needed.size
        → get_or (set n.marks.blanks.marks at mark) (k * n.marks.needed.size + (n.marks.needed.size - 1)) false
        ≡ get_or n.marks.blanks.marks (k * n.marks.needed.size + (n.marks.needed.size - 1)) false
    last_there k other =
        let last = k * n.marks.needed.size + (n.marks.needed.size - 1) in
        let some = h.positive in
        get_or-set_other n.marks.blanks.marks at last mark false
        (λ e. other (sym (ap (λ i. i / n.marks.needed.size) (sym e)
        ∙ group_of n.marks.needed.size k last (omega arith) (omega arith))))

    blank_others : (k : ℕ) → k ≢ at / n.marks.needed.size → garbage_by blank_marks k ≡ garbage_by n.marks k
    blank_others k other =
        rw (
          marked_there n.marks.blanks.marks n.marks.needed.size at mark h.positive low k other,
          last_there k other,
        ) refl

    pub blank_set : LiveSlotsInvariant (record n {
      marks = blank_marks;
      garbage = set n.garbage (at / n.marks.needed.size) (garbage_by blank_marks (at / n.marks.needed.size));
    })
    blank_set =
        recounted blank_marks n.garbage (at / n.marks.needed.size) (blank_lies at low) refl blank_sized h.spare refl
        (λ k other lies. count_read k lies ∙ sym (blank_others k other))

    -- where its block has as much garbage as before
    pub blank_kept : garbage_by
        (marked_so n.marks at (get_or n.marks.needed.marks at false) mark) (at / n.marks.needed.size)
        ≡ garbage_by n.marks (at / n.marks.needed.size)
        → LiveSlotsInvariant (record n { marks = blank_marks })
    blank_kept same =
        let block = at / n.marks.needed.size in
        let its : garbage_by blank_marks (at / n.marks.needed.size) ≡ garbage_by n.marks (at / n.marks.needed.size) =
        rw (set-get_or n.marks.needed.marks at false) at same in
        let stays : set n.garbage (at / n.marks.needed.size) (garbage_by blank_marks (at / n.marks.needed.size))
        ≡ n.garbage =
        ap (set n.garbage block) (its ∙ sym (count_read block (blank_lies at low))) ∙ set-get_or n.garbage block 0 in
        subst (λ xs. LiveSlotsInvariant (record n { marks = blank_marks; garbage = xs })) stays blank_set

  -- a slot is marked as needed, or not, and as blank, or not
  module _ (at : ℕ) (mark blank : Bool) (low : at < length n.marks.needed.marks) where
    blanks_low : at < length n.marks.blanks.marks
    blanks_low = omega (arith, h.sized.needed, h.sized.blanks)

    abbrev both_marks : SlotMarks
    both_marks = record n.marks {
      needed = record n.marks.needed { marks = set n.marks.needed.marks at mark };
      blanks = record n.marks.blanks { marks = set n.marks.blanks.marks at blank };
    }

    pub both_sized : AreSized both_marks (length n.garbage)
    both_sized = record {
      size = h.sized.size;
      needed = length-set n.marks.needed.marks at mark ∙ h.sized.needed;
      blanks = length-set n.marks.blanks.marks at blank ∙ h.sized.blanks;
      closed = h.sized.closed;
    }

    both_others : (k : ℕ) → k ≢ at / n.marks.needed.size → garbage_by both_marks k ≡ garbage_by n.marks k
    both_others k other =
        rw (
          marked_there n.marks.needed.marks n.marks.needed.size at mark h.positive low k other,
          marked_there n.marks.blanks.marks n.marks.needed.size at blank h.positive blanks_low k other,
          last_there at blank blanks_low k other,
        ) refl

    pub both_set : LiveSlotsInvariant (record n {
      marks = both_marks;
      garbage = set n.garbage (at / n.marks.needed.size) (garbage_by both_marks (at / n.marks.needed.size));
    })
    both_set =
        recounted both_marks n.garbage (at / n.marks.needed.size) (block_lies at low) refl both_sized h.spare refl
        (λ k other lies. count_read k lies ∙ sym (both_others k other))

    -- where its block has as much garbage as before
    pub both_kept : garbage_by both_marks (at / n.marks.needed.size) ≡ garbage_by n.marks (at / n.marks.needed.size)
        → LiveSlotsInvariant (record n { marks = both_marks })
    both_kept same =
        let block = at / n.marks.needed.size in
        let stays : set n.garbage (at / n.marks.needed.size) (garbage_by both_marks (at / n.marks.needed.size))
        ≡ n.garbage =
        ap (set n.garbage block) (same ∙ sym (count_read block (block_lies at low))) ∙ set-get_or n.garbage block 0 in
        subst (λ xs. LiveSlotsInvariant (record n { marks = both_marks; garbage = xs })) stays both_set

  -- a block is closed, or not
  module _ (block : ℕ) (flag : Bool) (low : block < length n.garbage) where
    abbrev closed_marks : SlotMarks
    closed_marks = record n.marks { closed = with_item n.marks.closed block flag }

    pub closed_sized : AreSized closed_marks (length n.garbage)
    closed_sized = record {
      size = h.sized.size;
      needed = h.sized.needed;
      blanks = h.sized.blanks;
      closed = length-set n.marks.closed.items block flag ∙ h.sized.closed;
    }

    closed_others : (k : ℕ) → k ≢ block → garbage_by closed_marks k ≡ garbage_by n.marks k
    closed_others k other = rw (get_or-set_other n.marks.closed.items block k flag false other) refl

    pub closed_set : LiveSlotsInvariant (record n {
      marks = closed_marks;
      garbage = set n.garbage block (garbage_by closed_marks block);
    })
    closed_set =
        recounted closed_marks n.garbage block low refl closed_sized h.spare refl
        (λ k other lies. count_read k lies ∙ sym (closed_others k other))

  -- a block becomes the spare, which is not closed
  module _ (block : Block) (low : block.0 < length n.garbage) where
    abbrev spare_marks : SlotMarks
    spare_marks = record n.marks { spare = Some block; closed = with_item n.marks.closed block.0 false }

    pub spare_sized : AreSized spare_marks (length n.garbage)
    spare_sized = record {
      size = h.sized.size;
      needed = h.sized.needed;
      blanks = h.sized.blanks;
      closed = length-set n.marks.closed.items block.0 false ∙ h.sized.closed;
    }

    other_spare : (k : ℕ) → k ≢ block.0 → garbage_by spare_marks k
        ≡ counted_in n.marks.needed.marks n.marks.blanks.marks n.marks.closed.items n.marks.needed.size k
    other_spare k other =
        let apart : eqb block.0 k ≡ false = grind (arith, nat_tests) in
        rw (apart, get_or-set_other n.marks.closed.items block.0 k false false other) refl

    -- where there was no spare
    pub first_spare : n.marks.spare ≡ None → LiveSlotsInvariant (record n {
      marks = spare_marks;
      garbage = set n.garbage block.0 (garbage_by spare_marks block.0);
    })
    first_spare none =
        recounted spare_marks n.garbage block.0 low refl spare_sized low refl
        (λ k other lies. count_read k lies ∙ rw none (sym (other_spare k other)))

    -- where an older one is counted before
    pub next_spare : (old : Block) → n.marks.spare ≡ Some old → LiveSlotsInvariant (record n {
      marks = spare_marks;
      garbage = set (set n.garbage old.0 (garbage_by spare_marks old.0)) block.0 (garbage_by spare_marks block.0);
    })
    next_spare old is =
        recounted spare_marks (set n.garbage old.0 (garbage_by spare_marks old.0)) block.0 low refl spare_sized low
        (length-set n.garbage old.0 (garbage_by spare_marks old.0))
        (λ k other lies. elim (cases_eq k old.0) [
          | inl here ↦ rw here (get_or-set_same n.garbage old.0 (garbage_by spare_marks old.0) 0 (rw here at lies))
          | inr apart ↦
              let not_old : eqb old.0 k ≡ false = grind (arith, nat_tests) in
              get_or-set_other n.garbage old.0 k (garbage_by spare_marks old.0) 0 apart ∙ count_read k lies
              ∙ rw (is, not_old) (sym (other_spare k other))
        ])

    pub old_lies : (old : Block) → n.marks.spare ≡ Some old → old.0 < length n.garbage
    old_lies old is = rw is at h.spare

-- at first there is no spare
pub first_counts : (n : Inside) (blocks : ℕ) → AreSized n.marks blocks → 0 < n.marks.needed.size →
    length n.marks.needed.marks ≤ 65536 → n.marks.spare ≡ None →
    n.garbage ≡ map (garbage_by n.marks) (range_with_len 0 blocks) → length n.garbage ≡ blocks → LiveSlotsInvariant n
first_counts n blocks sized positive small none counted long = record {
  sized = rw long sized;
  positive = positive;
  small = small;
  spare = rw none tt;
  garbage = rw long counted;
}
