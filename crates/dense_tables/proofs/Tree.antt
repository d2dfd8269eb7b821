-- The cells under a cell, and what a write does to them.
use Rattle.dense_tables.proofs.Common.{◌≡◌, ◌≢◌, ℕ, zero, suc, ◌+◌, ◌-◌, ◌*◌, ◌/◌, ◌<◌, ◌≤◌, inl, inr, min, List, [], ◌∷◌, length, get_or, set, take, drop, replicate, refl, sym, ◌∙◌, ap, arith, length-set, cases_lt, cases_eq, length-drop, length-replicate, get_or_past, get_or-drop, get_or-set_same, get_or-set_other, drop-set-lt, greatest, under}
use Rattle.std.proofs.Common.{◌%◌}
use Rattle.std.proofs.lemmas.List.{length-take, get_or-replicate, get_or-take}
use Rattle.std.proofs.lemmas.List.{drop-set-add, take-set-le, set-set, set-get_or}
use Rattle.dense_tables.specs.Levels.{ArePeaks}
use Rattle.dense_tables.proofs.GreatestNumbers.{greatest_at_most, greatest_risen, greatest_still}

pub length-under : (cells : List ℕ) (cell : ℕ) → length (under cells cell) ≡ min 16 (length cells - (16 * cell + 1))
unfolding under
length-under cells cell = length-take 16 (drop (16 * cell + 1) cells) ∙ ap (min 16) (length-drop (16 * cell + 1) cells)

pub get_or-under : (cells : List ℕ) (cell k : ℕ) → k < 16 →
    get_or (under cells cell) k 0 ≡ get_or cells (16 * cell + 1 + k) 0
unfolding under
get_or-under cells cell k l = get_or-take 16 (drop (16 * cell + 1) cells) k 0 l ∙ get_or-drop (16 * cell + 1) cells k 0

-- the front of a list after a write
pub take_set : (n : ℕ) (xs : List ℕ) (k v : ℕ) → take n (set xs k v) ≡ set (take n xs) k v
take_set zero xs k v = refl
take_set (suc n) [] k v = refl
take_set (suc n) (x ∷ xs) zero v = refl
take_set (suc n) (x ∷ xs) (suc k) v = ap (λ rest. x ∷ rest) (take_set n xs k v)

-- a write to one of the cells under a cell
pub under-set_inside : (cells : List ℕ) (cell k v : ℕ) → under (set cells (16 * cell + 1 + k) v) cell
    ≡ set (under cells cell) k v
unfolding under
under-set_inside cells cell k v = ap (take 16) (drop-set-add (16 * cell + 1) cells k v)
    ∙ take_set 16 (drop (16 * cell + 1) cells) k v

-- and to another cell
pub under-set_outside : (cells : List ℕ) (cell other k v : ℕ) → k < 16 → other ≢ cell →
    under (set cells (16 * cell + 1 + k) v) other ≡ under cells other
unfolding under
under-set_outside cells cell other k v l differ = elim (cases_lt cell other) [
  | inl sooner ↦ ap (take 16) (drop-set-lt (16 * other + 1) cells (16 * cell + 1 + k) v (omega arith))
  | inr later ↦
      let place : 16 * cell + 1 + k ≡ 16 * other + 1 + (16 * cell + k - 16 * other) = omega arith in
      rw place (ap (take 16) (drop-set-add (16 * other + 1) cells (16 * cell + k - 16 * other) v)
      ∙ take-set-le 16 (drop (16 * other + 1) cells) (16 * cell + k - 16 * other) v (omega arith))
]

-- a cell that is kept lies over none of the first ones
under-set_top : (cells : List ℕ) (top cell other v : ℕ) → cell ≤ top → top ≤ 16 * other →
    under (set cells cell v) other ≡ under cells other
unfolding under
under-set_top cells top cell other v low kept = ap (take 16) (drop-set-lt (16 * other + 1) cells cell v (omega arith))

-- no cell lies over the first one
pub under-set_first : (cells : List ℕ) (other v : ℕ) → under (set cells 0 v) other ≡ under cells other
unfolding under
under-set_first cells other v = ap (take 16) (drop-set-lt (16 * other + 1) cells 0 v (omega arith))

-- one cell was changed: each cell that is kept was the greatest of those under it while that one had its old number
pub record IsRising (cells : List ℕ) (top start cell was : ℕ) : Type 0 where
  pub within : cell < length cells
  pub peaks : (other : ℕ) → top ≤ 16 * other → other < start →
      get_or cells other 0 ≡ greatest (under (set cells cell was) other)

-- a number that was written
pub rising_first : (cells : List ℕ) (top start cell to : ℕ) → start ≤ cell → cell < length cells →
    ArePeaks cells top start → IsRising (set cells cell to) top start cell (get_or cells cell 0)
rising_first cells top start cell to high low h = record {
  within = rw (length-set cells cell to) low;
  peaks = λ other kept l.
      rw (set-set cells cell to (get_or cells cell 0), set-get_or cells cell 0)
      (get_or-set_other cells cell other to 0 (λ e. omega arith) ∙ h other kept l);
}

-- where no cell over that one is kept all is done
pub risen_top : (cells : List ℕ) (top start cell was : ℕ) → cell ≤ top → IsRising cells top start cell was →
    ArePeaks cells top start
risen_top cells top start cell was low h other kept l = h.peaks other kept l
    ∙ ap greatest (under-set_top cells top cell other was low kept)

-- the cell over another one
abbrev pub over : ℕ → ℕ
over cell = (cell - 1) / 16

module _ (cells : List ℕ) (cell was : ℕ) (not_first : 0 < cell) (within : cell < length cells) where
  -- a cell is one of the sixteen under the one over it
  parts : (cell ≡ 16 * over cell + 1 + (cell - 1) % 16) × ((cell - 1) % 16 < 16)
  parts = (omega arith, omega arith)

  -- what was under that one
  abbrev olds : List ℕ
  olds = under (set cells cell was) (over cell)

  news_are : under cells (over cell) ≡ set olds ((cell - 1) % 16) (get_or cells cell 0)
  news_are =
      let now = get_or cells cell 0 in
      let back : set (set cells cell was) cell now ≡ cells = set-set cells cell was now ∙ set-get_or cells cell 0 in
      ap (λ cs. under cs (over cell)) (sym back) ∙ ap (λ c. under (set (set cells cell was) c now) (over cell)) parts.0
      ∙ under-set_inside (set cells cell was) (over cell) ((cell - 1) % 16) now

  place_lies : (cell - 1) % 16 < length olds
  place_lies = rw (length-under (set cells cell was) (over cell), length-set cells cell was) (omega (arith, parts))

  old_here : get_or olds ((cell - 1) % 16) 0 ≡ was
  old_here =
      get_or-under (set cells cell was) (over cell) ((cell - 1) % 16) parts.1
      ∙ ap (λ c. get_or (set cells cell was) c 0) (sym parts.0) ∙ get_or-set_same cells cell was 0 within

  -- a number that is not less than the old peak is the new one
  pub rises : greatest olds ≤ get_or cells cell 0 → greatest (under cells (over cell)) ≡ get_or cells cell 0
  rises high = rw news_are (greatest_risen olds ((cell - 1) % 16) (get_or cells cell 0) place_lies high)

  -- where both the old and the new number are less, the peak stays
  pub stays : get_or cells cell 0 < greatest olds → was < greatest olds →
      greatest (under cells (over cell)) ≡ greatest olds
  stays low less = rw news_are (greatest_still olds ((cell - 1) % 16) (get_or cells cell 0) place_lies
      (rw old_here less) (omega arith))

  pub others_stay : (other : ℕ) → other ≢ over cell → under (set cells cell was) other ≡ under cells other
  others_stay other differ =
      ap (λ c. under (set cells c was) other) parts.0 ∙ under-set_outside cells (over cell) other ((cell - 1) % 16) was
      parts.1 differ

module _ (cells : List ℕ) (top start cell was : ℕ) (h : IsRising cells top start cell was) (not_first : 0 < cell) where
  -- where the peak stays all is done
  pub decided : greatest (under cells (over cell)) ≡ get_or cells (over cell) 0 → ArePeaks cells top start
  decided same other kept l = elim (cases_eq other (over cell)) [
    | inl here ↦ rw here (sym same)
    | inr differ ↦ h.peaks other kept l ∙ ap greatest (others_stay cells cell was not_first h.within other differ)
  ]

  -- else the cell over it is the one that was changed
  pub rising_over : (next : ℕ) → next ≡ greatest (under cells (over cell))
      → IsRising (set cells (over cell) next) top start (over cell) (get_or cells (over cell) 0)
  rising_over next is = record {
    within = let l = h.within in rw (length-set cells (over cell) next) (omega arith);
    peaks = λ other kept l.
        rw (set-set cells (over cell) next (get_or cells (over cell) 0), set-get_or cells (over cell) 0)
        (elim (cases_eq other (over cell)) [
          | inl here ↦ rw (here, get_or-set_same cells (over cell) next 0 (let m = h.within in omega arith)) is
          | inr differ ↦
              rw (get_or-set_other cells (over cell) other next 0 differ) (h.peaks other kept l ∙
              ap greatest (others_stay cells cell was not_first h.within other differ))
        ]);
  }

-- where all are 0 each is the greatest of those under it
pub zero_peaks : (size top count : ℕ) → ArePeaks (replicate size 0) top count
zero_peaks size top count cell kept l =
    let none = greatest_at_most (under (replicate size 0) cell) 0 (λ k m.
    let low = rw (length-under (replicate size 0) cell) at m in
    rw (get_or-under (replicate size 0) cell k (omega arith)) (all_zero (16 * cell + 1 + k))) in
    let here = all_zero cell in
    omega arith
  where
    all_zero : (k : ℕ) → get_or (replicate size 0) k 0 ≤ 0
    all_zero k = elim (cases_lt k size) [
      | inl inside ↦ rw (get_or-replicate {A = ℕ} size k 0 0 inside) (omega arith)
      | inr past ↦ rw (get_or_past {X = ℕ} (replicate size 0) k 0 (rw (length-replicate {A = ℕ} size 0) past))
          (omega arith)
    ]

-- each of these cells is the greatest of the cells under it
abbrev pub AreAllPeaks : List ℕ → ℕ → Type 0
AreAllPeaks cells count = (cell : ℕ) → cell < count → get_or cells cell 0 ≡ greatest (under cells cell)

-- the cells with the greatest of all in the first one
abbrev pub rooted : List ℕ → List ℕ
rooted cells = set cells 0 (greatest (under cells 0))

pub root : (cells : List ℕ) → 0 < length cells → get_or (rooted cells) 0 0 ≡ greatest (under cells 0)
root cells some = get_or-set_same cells 0 (greatest (under cells 0)) 0 some

pub rooted_peaks : (cells : List ℕ) (top start : ℕ) → top ≤ 16 → 0 < length cells → ArePeaks cells top start →
    AreAllPeaks (rooted cells) start
rooted_peaks cells top start low some h zero l = root cells some
    ∙ ap greatest (sym (under-set_first cells 0 (greatest (under cells 0))))
rooted_peaks cells top start low some h (suc cell) l =
    get_or-set_other cells 0 (suc cell) (greatest (under cells 0)) 0 (λ e. omega arith) ∙ h (suc cell) (omega arith) l
    ∙ ap greatest (sym (under-set_first cells (suc cell) (greatest (under cells 0))))
