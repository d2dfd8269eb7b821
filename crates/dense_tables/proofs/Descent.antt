-- The way down from the single cell to the first greatest number.
use Rattle.dense_tables.proofs.Common.{◌≡◌, ◌≢◌, ℕ, zero, suc, ◌+◌, ◌-◌, ◌*◌, ◌/◌, ◌<◌, ◌≤◌, inl, inr, true, eqb, ltb, Some, List, length, get_or, take, drop, refl, sym, ◌∙◌, ap, arith, cases_lt, cases_eq, nat_tests, length-drop, drop-set-lt, get_or-drop, get_or_default, greatest, under, IsShape, IsTop}
use Rattle.std.proofs.Common.{◌⊎◌, ◌%◌}
use Rattle.std.specs.List.{All, position, position_or_len}
use Rattle.std.proofs.Math.ListN.{length-set}
use Rattle.std.proofs.lemmas.List.{drop-drop}
use Rattle.std.proofs.lemmas.List.Quantifiers.{position-Some}
use Rattle.std.proofs.lemmas.List.Sums.{fails_before_first}
use Rattle.dense_tables.specs.Greatest.{group_of, IsFirstGreatest}
use Rattle.dense_tables.specs.Levels.{level_start, ArePeaks}
use Rattle.dense_tables.proofs.GreatestNumbers.{at_most_greatest, greatest_stands, greatest_at_most, length-group, get_or-group}
use Rattle.dense_tables.proofs.Tree.{length-under, get_or-under, under-set_first, rooted, rooted_peaks, AreAllPeaks}

-- a level begins before each later one
pub level_start_below : (level levels : ℕ) → level < levels → 16 * level_start level + 1 ≤ level_start levels
level_start_below level zero l = absurd (omega arith)
level_start_below level (suc levels) l = elim (cases_eq level levels) [
  | inl same ↦ rw same (omega arith)
  | inr other ↦ let rest = level_start_below level levels (omega arith) in omega arith
]

-- and all above it come in sixteens, but for the first cell
pub level_start_whole : (levels : ℕ) → 0 < levels → (m : ℕ) × (level_start levels ≡ 16 * m + 1)
level_start_whole zero l = absurd (omega arith)
level_start_whole (suc levels) l = (level_start levels, refl)

-- so do the cells over those, where there is another level
level_start_twice : (levels : ℕ) → 0 < levels → (level_start levels ≡ 1)
    ⊎ ((m : ℕ) × (level_start levels ≡ 16 * (16 * m + 1) + 1))
level_start_twice zero l = absurd (omega arith)
level_start_twice (suc zero) l = inl refl
level_start_twice (suc (suc levels)) l = inr (level_start levels, refl)

-- the cell over a group of 256 numbers
abbrev pub over_256 : ℕ → ℕ → ℕ
over_256 start group = (start - 1) / 256 + group

-- a number that stands in a list has a first place there
pub first_place : (xs : List ℕ) (number k : ℕ) → k < length xs → get_or xs k 0 ≡ number →
    (n : ℕ) × (position (λ x. eqb x number) xs ≡ Some n)
first_place xs number k l is =
    let first = position_or_len (λ x. eqb x number) xs in
    elim (cases_lt first (length xs)) [
      | inl low ↦ let inside : ltb first (length xs) ≡ true = grind (arith, nat_tests) in (first, rw inside refl)
      | inr past ↦ let fails = fails_before_first (λ x. eqb x number) xs k 0 (omega arith) in
          absurd (grind (arith, nat_tests))
    ]

-- on the way down: this cell of a level has the greatest number, and those before it in the level are less
pub record IsOnWay (cells : List ℕ) (level from place : ℕ) : Type 0 where
  pub begins : from ≡ level_start level
  pub lies : place ≤ 15 * from
  pub within : from + place < length cells
  pub here : get_or cells (from + place) 0 ≡ get_or cells 0 0
  pub first : (k : ℕ) → k < place → get_or cells (from + k) 0 < get_or cells 0 0

module _ (cells : List ℕ) (levels start : ℕ) (shape : IsShape levels start (length cells))
    (peaks : AreAllPeaks cells start) where
  -- no cell is greater than the one over it
  pub at_most_over : (cell : ℕ) → 0 < cell → cell < length cells →
      get_or cells cell 0 ≤ get_or cells ((cell - 1) / 16) 0
  at_most_over cell later l =
      let over = (cell - 1) / 16 in
      let low : over < start = omega (arith, shape.most) in
      let inside : (cell - 1) % 16 < length (under cells over) = rw (length-under cells over) (omega arith) in
      let place : 16 * over + 1 + (cell - 1) % 16 ≡ cell = omega arith in
      let most = at_most_greatest (under cells over) ((cell - 1) % 16) inside in
      let is = get_or-under cells over ((cell - 1) % 16) (omega arith) ∙ ap (λ c. get_or cells c 0) place in
      let peak = peaks over low in
      omega arith

  -- so none is greater than the first one
  at_most_first : (fuel cell : ℕ) → cell < fuel → cell < length cells → get_or cells cell 0 ≤ get_or cells 0 0
  at_most_first zero cell f l = absurd (omega arith)
  at_most_first (suc fuel) zero f l = omega arith
  at_most_first (suc fuel) (suc cell) f l =
      let step = at_most_over (suc cell) (omega arith) l in
      let rest = at_most_first fuel ((suc cell - 1) / 16) (omega arith) (omega arith) in
      omega arith

  pub number_at_most_first : (k : ℕ) → k < length (drop start cells) → get_or (drop start cells) k 0 ≤ get_or cells 0 0
  number_at_most_first k l =
      let long = length-drop start cells in
      rw (get_or-drop start cells k 0) (at_most_first (suc (start + k)) (start + k) (omega arith) (omega arith))

  -- a cell on the way of a level above the numbers lies above them
  pub way_above : (level from place : ℕ) → IsOnWay cells level from place → level < levels → from + place < start
  way_above level from place way l =
      let below = level_start_below level levels l in
      let lies = way.lies in
      omega (arith, way.begins, shape.begins)

  -- one of the cells under it has the greatest number too
  pub peak_under : (level from place : ℕ) → IsOnWay cells level from place → level < levels → 0 < get_or cells 0 0
      → (k : ℕ) × (k < length (under cells (from + place)))
      × (get_or (under cells (from + place)) k 0 ≡ get_or cells 0 0)
  peak_under level from place way l some =
      let is : greatest (under cells (from + place)) ≡ get_or cells 0 0 =
      sym (peaks (from + place) (way_above level from place way l)) ∙ way.here in
      let stands = greatest_stands (under cells (from + place)) (omega arith) in
      (stands.0, stands.1, stands.2 ∙ is)

  -- and the way goes on at the first such one
  pub way_down : (level from place k : ℕ) → IsOnWay cells level from place → level < levels
      → position (λ x. eqb x (get_or cells 0 0)) (under cells (from + place)) ≡ Some k →
      IsOnWay cells (level + 1) (16 * from + 1) (16 * place + k)
  way_down level from place k way l found =
      let at = position-Some (λ x. eqb x (get_or cells 0 0)) (under cells (from + place)) k 0 found in
      let long = length-under cells (from + place) in
      let one : level + 1 ≡ suc level = omega arith in
      let cell : 16 * (from + place) + 1 + k ≡ 16 * from + 1 + (16 * place + k) = omega arith in
      let is : get_or (under cells (from + place)) k 0 ≡ get_or cells 0 0 = grind (arith, nat_tests, at.1) in
      record {
        begins = rw one (ap (λ n. 16 * n + 1) way.begins);
        lies = let lies = way.lies in omega (arith, at.0);
        within = omega (arith, at.0);
        here = rw (← cell) (sym (get_or-under cells (from + place) k (omega (arith, at.0))) ∙ is);
        first = λ j sooner. elim (cases_lt j (16 * place)) [
          | inl low ↦
              let over : (16 * from + 1 + j - 1) / 16 ≡ from + j / 16 = omega arith in
              let most = rw over at (at_most_over (16 * from + 1 + j) (omega arith) (omega (arith, at.0))) in
              let less = way.first (j / 16) (omega arith) in
              omega arith
          | inr high ↦
              let m = j - 16 * place in
              let is_cell : 16 * (from + place) + 1 + m ≡ 16 * from + 1 + j = omega arith in
              let reads = get_or-under cells (from + place) m (omega (arith, at.0))
              ∙ ap (λ c. get_or cells c 0) is_cell in
              let most = at_most_greatest (under cells (from + place)) m (omega (arith, at.0)) in
              let peak = peaks (from + place) (way_above level from place way l) in
              let same = way.here in
              let other : get_or (under cells (from + place)) m 0 ≢ get_or cells 0 0 =
              grind (arith, nat_tests, at.2 m (omega arith)) in
              omega arith
        ];
      }

  -- it begins at the first cell
  pub way_begins : IsOnWay cells 0 0 0
  way_begins = record {
    begins = refl;
    lies = omega arith;
    within = let some = level_start_below 0 levels shape.levels_least in omega (arith, shape.begins, shape.least);
    here = refl;
    first = λ k l. absurd (omega arith);
  }

  -- and ends at the first greatest number
  pub way_ends : (from place : ℕ) → IsOnWay cells levels from place → IsFirstGreatest (drop start cells) place ×
      (get_or (drop start cells) place 0 ≡ get_or cells 0 0)
  way_ends from place way =
      let same : from ≡ start = way.begins ∙ sym shape.begins in
      let number = get_or-drop start cells place 0 ∙ ap (λ n. get_or cells (n + place) 0) (sym same) ∙ way.here in (
        record {
          within = let l = way.within in omega (arith, length-drop start cells);
          greatest = λ k d l. let most = number_at_most_first k l in
              rw (get_or_default (drop start cells) k d 0 l, number) most;
          first = λ k l. let less = rw same at (way.first k l) in rw (get_or-drop start cells k 0, number) less;
        },
        number,
      )

  -- all numbers are 0 where the first cell is
  pub all_zero : get_or cells 0 0 ≡ 0 → All (λ x. x ≡ 0) (drop start cells)
  all_zero none k d l = let most = number_at_most_first k l in
      rw (get_or_default (drop start cells) k d 0 l) (omega arith)

module _ (cells : List ℕ) (levels start : ℕ) (shape : IsShape levels start (length cells))
    (peaks : AreAllPeaks cells start) where
  -- a cell is at most what each one under it is
  at_most_under : (cell m : ℕ) → cell < start
      → ((k : ℕ) → k < 16 → 16 * cell + 1 + k < length cells → get_or cells (16 * cell + 1 + k) 0 ≤ m) →
      get_or cells cell 0 ≤ m
  at_most_under cell m low h =
      rw (peaks cell low) (greatest_at_most (under cells cell) m (λ k l.
      let long = length-under cells cell in
      rw (get_or-under cells cell k (omega arith)) (h k (omega arith) (omega arith))))

  module _ (group : ℕ) where
    abbrev most : ℕ
    most = greatest (group_of 256 (drop start cells) group)

    number_at_most : (i : ℕ) → i < 256 → start + (256 * group + i) < length cells →
        get_or cells (start + (256 * group + i)) 0 ≤ most
    number_at_most i low within =
        let all = length-drop start cells in
        let long = length-group 256 (drop start cells) group in
        let peak = at_most_greatest (group_of 256 (drop start cells) group) i (omega arith) in
        let reads = get_or-group 256 (drop start cells) group i low ∙ get_or-drop start cells (256 * group + i) 0 in
        omega arith

    most_at_most : (m : ℕ) → ((i : ℕ) → i < 256 → start + (256 * group + i) < length cells →
        get_or cells (start + (256 * group + i)) 0 ≤ m)
        → most ≤ m
    most_at_most m h = greatest_at_most (group_of 256 (drop start cells) group) m (λ i l.
        let all = length-drop start cells in
        let long = length-group 256 (drop start cells) group in
        rw (get_or-group 256 (drop start cells) group i (omega arith), get_or-drop start cells (256 * group + i) 0)
        (h i (omega arith) (omega arith)))

  -- where there is one level the first cell is over all numbers
  one_level : start ≡ 1 → get_or cells 0 0 ≡ most 0
  one_level one =
      let low = at_most_under 0 (most 0) (omega arith) (λ k l within.
      let place : 1 + k ≡ start + (256 * 0 + k) = omega arith in
      rw place (number_at_most 0 k (omega arith) (omega arith))) in
      let high = most_at_most 0 (get_or cells 0 0) (λ i l within.
      at_most_first cells levels start shape peaks (suc (start + (256 * 0 + i))) (start + (256 * 0 + i))
      (omega arith) within) in
      omega arith

  -- and else one two levels above 256 of them
  two_levels : (m group : ℕ) → start ≡ 16 * (16 * m + 1) + 1 → 256 * group < length (drop start cells) →
      get_or cells (m + group) 0 ≡ most group
  two_levels m group is l =
      let all = length-drop start cells in
      let size = shape.most in
      let low = at_most_under (m + group) (most group) (omega arith) (λ k lk _.
      at_most_under (16 * (m + group) + 1 + k) (most group) (omega arith) (λ j lj within.
      let place : 16 * (16 * (m + group) + 1 + k) + 1 + j ≡ start + (256 * group + (16 * k + j)) = omega arith in
      rw place (number_at_most group (16 * k + j) (omega arith) (rw place at within)))) in
      let high = most_at_most group (get_or cells (m + group) 0) (λ i li within.
      let cell = start + (256 * group + i) in
      let under_it : (cell - 1) / 16 ≡ 16 * (m + group) + 1 + i / 16 = omega arith in
      let over_it : (16 * (m + group) + 1 + i / 16 - 1) / 16 ≡ m + group = omega arith in
      let first = rw under_it at (at_most_over cells levels start shape peaks cell (omega arith) within) in
      let next = rw over_it at (at_most_over cells levels start shape peaks (16 * (m + group) + 1 + i / 16)
      (omega arith) (omega arith)) in
      omega arith) in
      omega arith

  over_group : (group : ℕ) → 256 * group < length (drop start cells)
      → (over_256 start group < start) × (get_or cells (over_256 start group) 0 ≡ most group)
  over_group group l =
      let all = length-drop start cells in
      let size = shape.most in
      elim (level_start_twice levels shape.levels_least) [
        | inl one ↦
            let only : start ≡ 1 = shape.begins ∙ one in
            let first : group ≡ 0 = omega arith in
            let place : over_256 start group ≡ 0 = omega arith in
            rw (place, first) (omega arith, one_level only)
        | inr two ↦
            let is : start ≡ 16 * (16 * two.0 + 1) + 1 = shape.begins ∙ two.1 in
            let place : over_256 start group ≡ two.0 + group = omega arith in
            rw place (omega arith, two_levels two.0 group is l)
      ]

-- under the cell over a sixteen of the numbers stand those
pub sixteen_under : (cells : List ℕ) (levels start : ℕ) → IsShape levels start (length cells) → (sixteen : ℕ) →
    16 * sixteen < length (drop start cells)
    → ((start - 1) / 16 + sixteen < start) × (under cells ((start - 1) / 16 + sixteen)
    ≡ group_of 16 (drop start cells) sixteen)
unfolding group_of under
sixteen_under cells levels start shape sixteen l =
    let long = length-drop start cells in
    let below = level_start_below 0 levels shape.levels_least in
    let rows = level_start_whole levels shape.levels_least in
    let whole : 16 * ((start - 1) / 16 + sixteen) + 1 ≡ start + 16 * sixteen = omega (arith, shape.begins, rows.1) in
    let low : (start - 1) / 16 + sixteen < start = omega (arith, shape.most) in
    (low, ap (take 16) (ap (λ n. drop n cells) whole ∙ sym (drop-drop (16 * sixteen) start cells)))

-- there is a cell above the numbers
pub some_cells : (cells : List ℕ) (levels start : ℕ) → IsShape levels start (length cells) →
    (0 < start) × (0 < length cells)
some_cells cells levels start shape =
    let below = level_start_below 0 levels shape.levels_least in
    (omega (arith, shape.begins), omega (arith, shape.begins, shape.least))

-- with the greatest of all in the first cell the numbers are the same
pub rooted_shape : (cells : List ℕ) (levels start : ℕ) → IsShape levels start (length cells) →
    IsShape levels start (length (rooted cells))
rooted_shape cells levels start shape = rw (length-set cells 0 (greatest (under cells 0))) shape

pub rooted_numbers : (cells : List ℕ) (levels start : ℕ) → IsShape levels start (length cells) →
    drop start (rooted cells) ≡ drop start cells
rooted_numbers cells levels start shape = drop-set-lt start cells 0 (greatest (under cells 0))
    (some_cells cells levels start shape).0

-- and each cell above them is the greatest of those under it
pub all_peaks : (cells : List ℕ) (levels top start : ℕ) → IsShape levels start (length cells) → IsTop top →
    ArePeaks cells top start
    → AreAllPeaks (rooted cells) start
all_peaks cells levels top start shape one peaks =
    rooted_peaks cells top start (elim one [ inl none ↦ omega arith | inr first ↦ omega arith ])
    (some_cells cells levels start shape).1 peaks

-- the greatest of those under the cell over a group of 256 numbers is that of the group
pub group_under : (cells : List ℕ) (levels top start : ℕ) → IsShape levels start (length cells) → IsTop top →
    ArePeaks cells top start → (group : ℕ)
    → 256 * group < length (drop start cells)
    → (over_256 start group < start) × (greatest (under cells (over_256 start group))
    ≡ greatest (group_of 256 (drop start cells) group))
group_under cells levels top start shape one peaks group l =
    let numbers = rooted_numbers cells levels start shape in
    let all = all_peaks cells levels top start shape one peaks in
    let over = over_group (rooted cells) levels start (rooted_shape cells levels start shape) all group
    (rw numbers l) in
    let place = over_256 start group in (
      over.0,
      sym (ap greatest (under-set_first cells place (greatest (under cells 0)))) ∙ sym (all place over.0)
          ∙ over.1 ∙ ap (λ xs. greatest (group_of 256 xs group)) numbers,
    )
