-- The numbers are the first of the cells from one on, and all behind them are 0.
use Rattle.dense_tables.proofs.Common.{◌≡◌, ℕ, zero, suc, ◌+◌, ◌-◌, ◌*◌, ◌<◌, ◌≤◌, inl, inr, min, List, length, get_or, set, take, drop, replicate, refl, sym, ◌∙◌, ap, arith, length-set, cases_lt, length-drop, length-replicate, get_or-drop, get_or-set_other, greatest}
use Rattle.std.proofs.Common.{subst}
use Rattle.std.specs.List.{All}
use Rattle.std.proofs.lemmas.List.{length-take, get_or-take, drop-set-add}
use Rattle.dense_tables.specs.Greatest.{group_of, IsFirstGreatest}
use Rattle.dense_tables.specs.Levels.{IsFilled}
use Rattle.dense_tables.proofs.GreatestNumbers.{at_most_greatest, greatest_at_most, length-group, get_or-group}
use Rattle.dense_tables.proofs.Tree.{take_set}

-- at first all are
zero_at : (size k : ℕ) → get_or (replicate {A = ℕ} size 0) k 0 ≡ 0
zero_at zero k = refl
zero_at (suc size) zero = refl
zero_at (suc size) (suc k) = zero_at size k

pub zeros_filled : (size end : ℕ) → end ≤ size → IsFilled (replicate size 0) end
zeros_filled size end low = record {
  within = rw (length-replicate {A = ℕ} size 0) low;
  zeros = λ cell behind. zero_at size cell;
}

-- a write to a cell before the end
pub filled_set : (cells : List ℕ) (end cell to : ℕ) → IsFilled cells end → cell < end → IsFilled (set cells cell to) end
filled_set cells end cell to h low = record {
  within = rw (length-set cells cell to) h.within;
  zeros = λ other behind. get_or-set_other cells cell other to 0 (λ e. omega arith) ∙ h.zeros other behind;
}

-- the front of a list
module _ (xs : List ℕ) (n : ℕ) where
  pub front_all : (P : ℕ → Type 0) → All P xs → All P (take n xs)
  front_all P h k d l =
      let long = length-take n xs in
      subst P (sym (get_or-take n xs k d (omega (arith, long)))) (h k d (omega (arith, long)))

  pub first_front : (at : ℕ) → IsFirstGreatest xs at → at < n → IsFirstGreatest (take n xs) at
  first_front at h low = record {
    within = let within = h.within in let long = length-take n xs in omega (arith, long);
    greatest = λ k d l.
        let long = length-take n xs in
        rw (get_or-take n xs at 0 low, get_or-take n xs k d (omega (arith, long)))
        (h.greatest k d (omega (arith, long)));
    first = λ k l. rw (get_or-take n xs k 0 (omega arith), get_or-take n xs at 0 low) (h.first k l);
  }

  -- the greatest of a group, where all behind the front are 0
  module _ (size group : ℕ) (zeros : (k : ℕ) → n ≤ k → get_or xs k 0 ≡ 0) where
    at_most_front : (j : ℕ) → j < min size (length xs - size * group) →
        get_or (group_of size xs group) j 0 ≤ greatest (group_of size (take n xs) group)
    at_most_front j l =
        let reads = get_or-group size xs group j (omega arith) in
        elim (cases_lt (size * group + j) n) [
          | inl front ↦
              let same = get_or-group size (take n xs) group j (omega arith)
              ∙ get_or-take n xs (size * group + j) 0 front in
              let most = at_most_greatest (group_of size (take n xs) group) j
              (rw (length-group size (take n xs) group, length-take n xs) (omega arith)) in
              omega (arith, reads, same, most)
          | inr behind ↦ let none = zeros (size * group + j) behind in omega (arith, reads, none)
        ]

    at_most_whole : (j : ℕ) → j < min size (min n (length xs) - size * group) →
        get_or (group_of size (take n xs) group) j 0 ≤ greatest (group_of size xs group)
    at_most_whole j l =
        let reads = get_or-group size xs group j (omega arith) in
        let same = get_or-group size (take n xs) group j (omega arith)
        ∙ get_or-take n xs (size * group + j) 0 (omega arith) in
        let most = at_most_greatest (group_of size xs group) j (rw (length-group size xs group) (omega arith)) in
        omega (arith, reads, same, most)

    pub group_front : greatest (group_of size xs group) ≡ greatest (group_of size (take n xs) group)
    group_front =
        let up = greatest_at_most (group_of size xs group) (greatest (group_of size (take n xs) group))
        (λ j l. at_most_front j (rw (length-group size xs group) at l)) in
        let down = greatest_at_most (group_of size (take n xs) group) (greatest (group_of size xs group))
        (λ j l. at_most_whole j (rw (length-group size (take n xs) group, length-take n xs) at l)) in
        omega (arith, up, down)

-- the numbers among the cells
module _ (cells : List ℕ) (start count : ℕ) where
  abbrev numbers : List ℕ
  numbers = take count (drop start cells)

  pub numbers_long : length numbers ≡ min count (length cells - start)
  numbers_long = length-take count (drop start cells) ∙ ap (min count) (length-drop start cells)

  pub number_lies : (at : ℕ) → at < length numbers → (at < count) × (start + at < length cells)
  number_lies at l = let long = numbers_long in (omega (arith, long), omega (arith, long))

  pub number_reads : (at : ℕ) → at < count → get_or numbers at 0 ≡ get_or cells (start + at) 0
  number_reads at low = get_or-take count (drop start cells) at 0 low ∙ get_or-drop start cells at 0

  pub numbers_set : (at to : ℕ) → take count (drop start (set cells (start + at) to)) ≡ set numbers at to
  numbers_set at to = ap (take count) (drop-set-add start cells at to) ∙ take_set count (drop start cells) at to

  module _ (h : IsFilled cells (start + count)) where
    pub zeros_behind : (k : ℕ) → count ≤ k → get_or (drop start cells) k 0 ≡ 0
    zeros_behind k behind = get_or-drop start cells k 0 ∙ h.zeros (start + k) (omega arith)

    -- one that is not 0 is a number
    pub some_lies : (at : ℕ) → 0 < get_or (drop start cells) at 0 → at < count
    some_lies at some = elim (cases_lt at count) [
      | inl low ↦ low
      | inr behind ↦ absurd (let none = zeros_behind at behind in omega (arith, none, some))
    ]
