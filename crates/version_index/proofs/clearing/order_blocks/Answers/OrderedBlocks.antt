-- Blocks in the order of their numbers.
use Rattle.version_index.proofs.Common.{◌≡◌, ℕ, ◌<◌, ◌↔◌, Bool, get_or, List, ap, subst, eqb-true, Contains-permutation, IsPermutation-sym, Block, AreRising}
use Rattle.std.proofs.Common.{◌==◌}
use Rattle.std.specs.Cmp.{IsEquivalence, IsTotalOrder, ranks, unsigned_ties}
use Rattle.std.specs.List.{Contains, dedup}
use Rattle.std.specs.List.Sorted.{IsPermutation, IsSorted}
use Rattle.std.specs.Ordering.{nat_cmp}
use Rattle.std.specs.declared.cmp.Ordering.{Ordering}
use Rattle.std.specs.Ordering.{MatchOrdering}
use Rattle.std.proofs.lemmas.Cmp.{nat_cmp_total, nat_eq_equiv}
use Rattle.std.proofs.lemmas.List.Kept.{Contains-dedup, Contains-from_dedup, IsStrictlySortedBy-dedup}
use Rattle.std.proofs.lemmas.Map.Keys.{Less-from_sorted}

abbrev by_number : Block → Block → Ordering
by_number x y = nat_cmp x.0 y.0

abbrev same_number : Block → Block → Bool
same_number x y = x.0 == y.0

abbrev block_of : ℕ → Block
block_of n = record { 0 = n }

number_total : IsTotalOrder by_number
number_total = record {
  antisymm = λ x y. nat_cmp_total.antisymm x.0 y.0;
  trans = λ x y z. nat_cmp_total.trans x.0 y.0 z.0;
  congr = λ x y z. nat_cmp_total.congr x.0 y.0 z.0;
}

number_equiv : IsEquivalence same_number
number_equiv = record {
  refl = λ x. nat_eq_equiv.refl x.0;
  symm = λ x y. nat_eq_equiv.symm x.0 y.0;
  congr = λ x y z. nat_eq_equiv.congr x.0 y.0 z.0;
}

-- a sorted list rises once those that stand twice are dropped
pub dropped_rise : (xs : List Block) → IsSorted by_number xs → AreRising (dedup same_number xs)
dropped_rise xs sorted i j d less within =
    let ys = dedup same_number xs in
    let x = get_or ys i d in
    let y = get_or ys j d in
    let strict = IsStrictlySortedBy-dedup number_total (λ x y. unsigned_ties x.0 y.0) xs sorted in
    subst (λ r. MatchOrdering r (x.0 < y.0) (x.0 ≡ y.0) (y.0 < x.0))
    (Less-from_sorted by_number ys i j d strict less within) (ranks x.0 y.0)

-- and has the same blocks
pub dropped_same : (old xs : List Block) → IsPermutation old xs → (block : Block)
    → Contains (dedup same_number xs) block ↔ Contains old block
dropped_same old xs moved block = (
  λ has. Contains-permutation xs old block (IsPermutation-sym old xs moved)
      (Contains-from_dedup same_number xs block has),
  λ has. Contains-dedup number_equiv (λ x y e. one x y (eqb-true x.0 y.0 e)) xs block
      (Contains-permutation old xs block moved has),
)
  where
    one : (x y : Block) → x.0 ≡ y.0 → x ≡ y
    one x y e = ap (λ (n : ℕ). block_of n) e
