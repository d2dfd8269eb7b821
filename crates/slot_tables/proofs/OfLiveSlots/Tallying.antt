-- What a mark that is set or taken away does to the number of marks of each group.
use Rattle.slot_tables.proofs.Common.{◌≡◌, ◌≢◌, ℕ, ◌+◌, ◌-◌, ◌*◌, ◌/◌, ◌<◌, ◌≤◌, Bool, true, false, inl, inr, List, length, get_or, set, replicate, refl, sym, ◌∙◌, ap, arith, length-set, range_with_len, lt-div-mul-add, row_fits, cases_eq, cases_lt, with_item, get_or_read, get_or-set_same, get_or-set_other, get_or-replicate, one_of, is_marked, marked_in}
use Rattle.std.proofs.Math.Bool.{beq}
use Rattle.std.proofs.Math.Nat.{div-mul-le_self, lt_of_mul-lt-mul_right, mul-le-mul_right}
use Rattle.std.proofs.lemmas.Nat.{div-mul-add, div_below}
use Rattle.std.proofs.lemmas.List.Sums.{count_by-le-length}
use Rattle.std.proofs.lemmas.List.FromFn.{length-range_with_len}
use Rattle.list_lemmas.proofs.Counts.{filled_count}
use Rattle.slot_tables.specs.declared.block_counts.BlockCounts.TheInside.{Inside}
use Rattle.slot_tables.specs.BlockCounts.{BlockCountsInvariant}
use Rattle.slot_tables.proofs.OfLiveSlots.Counting.{count_same, count_changed}

-- a group has no more marks than places
pub marked_most : (marks : List Bool) (size group : ℕ) → marked_in marks size group ≤ size
unfolding marked_in
marked_most marks size group =
    let most = count_by-le-length (is_marked marks) (range_with_len (group * size) size) in
    omega (arith, most, length-range_with_len (group * size) size)

-- a place of a group
pub group_of : (size group at : ℕ) → group * size ≤ at → at < group * size + size → at / size ≡ group
group_of size group at low high =
    let place : group * size + (at + 0 - group * size) ≡ at = omega arith in
    rw (sym place) (div-mul-add group size (at + 0 - group * size) (omega arith))

module _ (marks : List Bool) (size at : ℕ) (mark : Bool) (some : 0 < size) (low : at < length marks) where
  -- in its own group
  pub marked_here : marked_in (set marks at mark) size (at / size) + one_of (get_or marks at false)
      ≡ marked_in marks size (at / size) + one_of mark
  unfolding marked_in
  marked_here =
      let first = div-mul-le_self at size in
      let last : at < at / size * size + size = lt-div-mul-add some in
      let changed = count_changed (is_marked marks) (is_marked (set marks at mark)) (at / size * size) size at
      (λ k other. sym (get_or-set_other marks at k mark false other)) first last in
      let here = get_or-set_same marks at mark false low in
      rw here at changed

  -- and in the others
  pub marked_there : (group : ℕ) → group ≢ at / size → marked_in (set marks at mark) size group
      ≡ marked_in marks size group
  unfolding marked_in
  marked_there group other =
      count_same (is_marked (set marks at mark)) (is_marked marks) (group * size) size
      (λ k first last. get_or-set_other marks at k mark false
      (λ e. other (sym (group_of size group at (omega arith) (omega arith)))))

-- where there is a place, a group is small
pub size_fits : (t : Inside) (at : ℕ) → BlockCountsInvariant t → at < length t.marks.items → t.size ≤ 65536
size_fits t at h low = elim (cases_lt 0 (length t.counts.items)) [
  | inl some ↦ let one : 1 * t.size ≤ length t.counts.items * t.size = mul-le-mul_right t.size some in
      omega (arith, h.groups, h.small)
  | inr none ↦ absurd (let zero : length t.counts.items ≡ 0 = omega arith in let e = rw zero at h.groups in
      omega (arith, e))
]

-- where all marks are the same
module _ (groups size group : ℕ) (mark : Bool) (low : group < groups) where
  within : (k : ℕ) → k < size → get_or (replicate (groups * size) mark) (group * size + k) false ≡ mark
  within k l =
      let whole : group * size + size ≤ groups * size = row_fits group size groups size low (omega arith) in
      get_or-replicate {A = Bool} (groups * size) (group * size + k) mark false (omega arith)

pub marked_all : (groups size group : ℕ) → group < groups → marked_in (replicate (groups * size) true) size group ≡ size
unfolding marked_in
marked_all groups size group low =
    filled_count (is_marked (replicate (groups * size) true)) (group * size) size size (omega arith)
    (λ k l. within groups size group true low k l) (λ k above below. absurd (omega arith))

pub marked_none : (groups size group : ℕ) → group < groups → marked_in (replicate (groups * size) false) size group ≡ 0
unfolding marked_in
marked_none groups size group low =
    filled_count (is_marked (replicate (groups * size) false)) (group * size) size 0 (omega arith)
    (λ k l. absurd (omega arith)) (λ k above below. within groups size group false low k below)

-- a group of block counts is one of those that it counts
pub group_lies : (t : Inside) (group : ℕ) → BlockCountsInvariant t → group * t.size + t.size ≤ length t.marks.items →
    group < length t.counts.items
group_lies t group h within =
    let positive = h.size in
    lt_of_mul-lt-mul_right t.size (omega (arith, h.groups))

pub group_at : (t : Inside) (at : ℕ) → BlockCountsInvariant t → at < length t.marks.items →
    at / t.size < length t.counts.items
group_at t at h low = div_below at t.size (length t.counts.items) h.size (omega (arith, h.groups))

-- a mark is set or taken away, and counted so
pub tallied : (t : Inside) (at count : ℕ) (mark : Bool) → BlockCountsInvariant t → at < length t.marks.items
    → count + one_of (get_or t.marks.items at false) ≡ get_or t.counts.items (at / t.size) 0 + one_of mark
    → BlockCountsInvariant (record t {
      marks = with_item t.marks at mark;
      counts = with_item t.counts (at / t.size) count;
    })
tallied t at count mark h low counted = record {
  size = h.size;
  groups = length-set {A = Bool} t.marks.items at mark ∙ h.groups ∙ ap
      (λ n. n * t.size) (sym (length-set {A = ℕ} t.counts.items (at / t.size) count));
  small = rw (length-set {A = Bool} t.marks.items at mark) h.small;
  counts = λ group within.
      let lies : group < length t.counts.items = rw (length-set {A = ℕ} t.counts.items (at / t.size) count) at within in
      elim (cases_eq group (at / t.size)) [
        | inl here ↦
            let own = marked_here t.marks.items t.size at mark h.size low in
            let old = h.counts (at / t.size) (group_at t at h low) in
            let new = get_or-set_same t.counts.items (at / t.size) count 0 (group_at t at h low) in
            rw here (new ∙ omega (arith, own, old, counted))
        | inr other ↦
            get_or-set_other t.counts.items (at / t.size) group count 0 other ∙ h.counts group lies
            ∙ sym (marked_there t.marks.items t.size at mark h.size low group other)
      ];
}

-- a mark that is there is counted
pub counted : (t : Inside) (at : ℕ) → BlockCountsInvariant t → at < length t.marks.items →
    get_or t.marks.items at false ≡ true
    → 1 ≤ get_or t.counts.items (at / t.size) 0
counted t at h low is =
    let own = marked_here t.marks.items t.size at false h.size low in
    let old = h.counts (at / t.size) (group_at t at h low) in
    let one : one_of (get_or t.marks.items at false) ≡ 1 = rw is refl in
    omega (arith, own, old, one)

-- two marks that differ
pub differ_from_true : (was mark : Bool) → beq was mark ≡ false → mark ≡ true → was ≡ false
differ_from_true false mark differ is = refl
differ_from_true true true differ is = differ
differ_from_true true false differ is = sym is

pub differ_from_false : (was mark : Bool) → beq was mark ≡ false → mark ≡ false → was ≡ true
differ_from_false true mark differ is = refl
differ_from_false false true differ is = sym is
differ_from_false false false differ is = sym differ

-- a mark as it was read, and the number of its group
module _ (t : Inside) (at number : ℕ) (was mark : Bool) (h : BlockCountsInvariant t) (low : at < length t.marks.items)
    (read : was ≡ get_or t.marks.items at was) (differ : beq was mark ≡ false)
    (counts : number ≡ get_or t.counts.items (at / t.size) number) where
  number_is : number ≡ get_or t.counts.items (at / t.size) 0
  number_is = get_or_read t.counts.items (at / t.size) number (group_at t at h low) counts 0

  mark_is : get_or t.marks.items at false ≡ was
  mark_is = sym (get_or_read t.marks.items at was low read false)

  -- it is set
  pub risen : mark ≡ true → BlockCountsInvariant (record t {
    marks = with_item t.marks at mark;
    counts = with_item t.counts (at / t.size) (number + 1);
  })
  risen is = tallied t at (number + 1) mark h low (rw (
    mark_is,
    differ_from_true was mark differ is,
    is,
  ) (omega (arith, number_is)))

  pub risen_fits : mark ≡ true → number + 1 ≤ t.size
  risen_fits is =
      let own = marked_here t.marks.items t.size at mark h.size low in
      let old = h.counts (at / t.size) (group_at t at h low) in
      let most = marked_most (set t.marks.items at mark) t.size (at / t.size) in
      let none : one_of (get_or t.marks.items at false) ≡ 0 = rw (mark_is, differ_from_true was mark differ is) refl in
      let one : one_of mark ≡ 1 = rw is refl in
      omega (arith, own, old, most, none, one, number_is)

  -- it is taken away
  pub fallen_fits : mark ≡ false → 1 ≤ number
  fallen_fits is =
      let some = counted t at h low (mark_is ∙ differ_from_false was mark differ is) in
      omega (arith, some, number_is)

  pub fallen : mark ≡ false → BlockCountsInvariant (record t {
    marks = with_item t.marks at mark;
    counts = with_item t.counts (at / t.size) (number - 1);
  })
  fallen is =
      let some = fallen_fits is in
      tallied t at (number - 1) mark h low (rw (
        mark_is,
        differ_from_false was mark differ is,
        is,
      ) (omega (arith, number_is, some)))
