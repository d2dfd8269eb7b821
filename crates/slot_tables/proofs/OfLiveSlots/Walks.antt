-- The greatest of the numbers that a walk looks at.
use Rattle.slot_tables.proofs.Common.{◌≡◌, ℕ, ◌+◌, ◌-◌, ◌*◌, ◌<◌, ◌≤◌, ◌⊎◌, ◌↔◌, inl, inr, Option, Some, None, List, length, get_or, map, refl, sym, ◌∙◌, ap, arith, range_with_len, IfSome, cases_eq, false≢true, Block}
use Rattle.std.specs.Prelude.{All, MatchOption, IsNone, min}
use Rattle.std.proofs.lemmas.List.Elements.{All-get_or, All-from_get_or}
use Rattle.std.proofs.lemmas.List.FromFn.{length-map-range_with_len, get_or-map-range_with_len}
use Rattle.dense_tables.specs.Greatest.{greatest, group_of, IsFirstGreatest}
use Rattle.dense_tables.proofs.GreatestNumbers.{at_most_greatest, greatest_at_most, length-group, get_or-group}

-- of the numbers of the first blocks none is greater than the greatest so far, which is that of the first block that
-- has it, or 0 where there is none
pub record IsMost (f : ℕ → ℕ) (upto most : ℕ) (found : Option Block) : Type 0 where
  pub at_most : (block : ℕ) → block < upto → f block ≤ most
  pub first :
      MatchOption found (most ≡ 0)
      (λ b. (b.0 < upto) × (f b.0 ≡ most) × (0 < most) × ((other : ℕ) → other < b.0 → f other < most))

pub most_first : (f : ℕ → ℕ) → IsMost f 0 0 None
most_first f = record { at_most = λ block less. absurd (omega arith); first = refl }

pub most_same : (f : ℕ → ℕ) (upto most : ℕ) (found : Option Block) → IsMost f upto most found → f upto ≤ most →
    IsMost f (upto + 1) most found
most_same f upto most found h less = record {
  at_most = λ block before. elim (cases_eq block upto) [
    | inl here ↦ rw here less
    | inr other ↦ h.at_most block (omega arith)
  ];
  first = by found h.first;
}
  where
    by : (o : Option Block) → MatchOption o (most ≡ 0)
        (λ b. (b.0 < upto) × (f b.0 ≡ most) × (0 < most) × ((other : ℕ) → other < b.0 → f other < most))
        → MatchOption o (most ≡ 0)
        (λ b. (b.0 < upto + 1) × (f b.0 ≡ most) × (0 < most) × ((other : ℕ) → other < b.0 → f other < most))
    by None zero = zero
    by (Some b) is = (let low = is.0 in omega arith, is.1, is.2, is.3)

pub most_next : (f : ℕ → ℕ) (upto most : ℕ) (found : Option Block) (block : Block) → IsMost f upto most found →
    most < f upto → block.0 ≡ upto → IsMost f (upto + 1) (f upto) (Some block)
most_next f upto most found block h more is = record {
  at_most = λ other before. elim (cases_eq other upto) [
    | inl here ↦ rw here (omega arith)
    | inr apart ↦ (let low = h.at_most other (omega arith) in omega arith)
  ];
  first = (
    omega (arith, is),
    ap f is,
    omega arith,
    λ other before. (let low = h.at_most other (omega (arith, is)) in omega arith),
  );
}

-- the numbers of all blocks
module _ (f : ℕ → ℕ) (blocks : ℕ) where
  abbrev numbers : List ℕ
  numbers = map f (range_with_len 0 blocks)

  long : length numbers ≡ blocks
  long = length-map-range_with_len f 0 blocks

  number_is : (block : ℕ) → block < blocks → get_or numbers block 0 ≡ f block
  number_is block low = get_or-map-range_with_len f 0 blocks block block 0 low (omega arith)

  pub most_none : (most : ℕ) (found : Option Block) → IsMost f blocks most found →
      IsNone found ↔ All (λ x. x ≡ 0) numbers
  most_none most None h = (
    (λ none. All-from_get_or (λ x. x ≡ 0) numbers 0 (λ block within.
        let lies : block < blocks = rw long at within in
        let low = h.at_most block lies in let zero = h.first in number_is block lies ∙ omega arith)),
    (λ all. refl),
  )
  most_none most (Some b) h = (
    (λ none. absurd (false≢true (sym none))),
    (λ all. absurd (let is = h.first in
        let zero = All-get_or (λ x. x ≡ 0) numbers b.0 0 (rw long is.0) all in
        let its = number_is b.0 is.0 in
        omega (arith, zero, its, is.1, is.2))),
  )

  pub most_found : (most : ℕ) (found : Option Block) → IsMost f blocks most found →
      IfSome found (λ block. IsFirstGreatest numbers block.0)
  most_found most None h = tt
  most_found most (Some b) h =
      let is = h.first in
      let own : get_or numbers b.0 0 ≡ most = number_is b.0 is.0 ∙ is.1 in
      record {
        within = rw long is.0;
        greatest = All-from_get_or (λ x. x ≤ get_or numbers b.0 0) numbers 0 (λ block within.
            let lies : block < blocks = rw long at within in
            let low = h.at_most block lies in
            rw (number_is block lies, own) low);
        first = λ other before.
            let lies : other < blocks = (let low = is.0 in omega arith) in
            let less = is.3 other before in
            rw (number_is other lies, own) less;
      }

-- of the blocks from one on none has a greater number, and one has it, or it is 0
pub record IsMostFrom (f : ℕ → ℕ) (from upto most : ℕ) : Type 0 where
  pub at_most : (block : ℕ) → from ≤ block → block < upto → f block ≤ most
  pub stands : (most ≡ 0) ⊎ ((block : ℕ) × (from ≤ block) × (block < upto) × (f block ≡ most))

pub from_first : (f : ℕ → ℕ) (from : ℕ) → IsMostFrom f from from 0
from_first f from = record { at_most = λ block first less. absurd (omega arith); stands = inl refl }

pub from_same : (f : ℕ → ℕ) (from upto most : ℕ) → IsMostFrom f from upto most → f upto ≤ most →
    IsMostFrom f from (upto + 1) most
from_same f from upto most h less = record {
  at_most = λ block first before. elim (cases_eq block upto) [
    | inl here ↦ rw here less
    | inr other ↦ h.at_most block first (omega arith)
  ];
  stands = elim h.stands [
    | inl zero ↦ inl zero
    | inr is ↦ inr (is.0, is.1, (let low = is.2 in omega arith), is.3)
  ];
}

pub from_next : (f : ℕ → ℕ) (from upto most : ℕ) → IsMostFrom f from upto most → from ≤ upto → most < f upto →
    IsMostFrom f from (upto + 1) (f upto)
from_next f from upto most h order more = record {
  at_most = λ block first before. elim (cases_eq block upto) [
    | inl here ↦ rw here (omega arith)
    | inr other ↦ (let low = h.at_most block first (omega arith) in omega arith)
  ];
  stands = inr (upto, order, omega arith, refl);
}

-- the greatest of a group
module _ (f : ℕ → ℕ) (blocks size group end most : ℕ) (low : size * group < blocks)
    (ends : end ≡ min (size * group + size) blocks) (h : IsMostFrom f (size * group) end most) where
  abbrev all : List ℕ
  all = map f (range_with_len 0 blocks)

  wide : length (group_of size all group) ≡ min size (blocks - size * group)
  wide = length-group size all group ∙ ap (λ n. min size (n - size * group)) (length-map-range_with_len f 0 blocks)

  grouped : (j : ℕ) → j < size → size * group + j < blocks →
      get_or (group_of size all group) j 0 ≡ f (size * group + j)
  grouped j small lies =
      get_or-group size all group j small
      ∙ get_or-map-range_with_len f 0 blocks (size * group + j) (size * group + j) 0 lies (omega arith)

  most_up : greatest (group_of size all group) ≤ most
  most_up = greatest_at_most (group_of size all group) most (λ j within.
      let lies = rw wide at within in
      let its = grouped j (omega arith) (omega arith) in
      rw its (h.at_most (size * group + j) (omega arith) (omega arith)))

  most_down : most ≤ greatest (group_of size all group)
  most_down = elim h.stands [
    | inl zero ↦ omega (arith, zero)
    | inr is ↦
        let first = is.1 in
        let last = is.2 in
        let place : size * group + (is.0 - size * group) ≡ is.0 = omega arith in
        let its = grouped (is.0 - size * group) (omega arith) (omega arith) in
        let same : f (size * group + (is.0 - size * group)) ≡ most = ap f place ∙ is.3 in
        let reaches = at_most_greatest (group_of size all group) (is.0 - size * group)
        (rw wide (omega arith)) in
        omega (arith, reaches, its, same)
  ]

  pub group_most : most ≡ greatest (group_of size all group)
  group_most = omega (arith, most_up, most_down)
