-- The greatest version that straddles a name, by least back versions.
use Rattle.sorted_records.proofs.Common.{◌≡◌, ℕ, zero, suc, ◌+◌, ◌-◌, ◌<◌, ◌≤◌, true, false, nat_lt, ◌⊎◌, List, length, get_or, refl, sym, ap, ◌∙◌, inl, inr, arith, lt-ltb, le-ltb, slice_range, IsPartitionPoint, cases_lt, cond-true, cond-false, get_or_default, length-between, get_or-between, Rec, Found, greatest, record_at}
use Rattle.std.proofs.Common.{ltb-true, ltb-false}
use Rattle.std.specs.List.Sorted.{IsPartitionedBy}
use Rattle.sorted_records.specs.Minima.{last_above}
use Rattle.sorted_records.proofs.OfGroup.Readings.{greatest_is}

-- numbers that do not fall
pub parted_below : (least : List ℕ) (version : ℕ) → ((i j : ℕ) → i ≤ j → j < length least →
    get_or least i 0 ≤ get_or least j 0) →
    IsPartitionedBy (λ m. nat_lt m version) least
parted_below least version rises i j d low within below =
    let up = rises i j low within in
    let high = ltb-true (get_or least j d) version below in
    let a = get_or_default least i d 0 (omega arith) in
    let b = get_or_default least j d 0 within in
    lt-ltb (get_or least i d) version (omega arith)

pub below_first_ones : (least : List ℕ) (version count : ℕ) →
    IsPartitionPoint (λ m. nat_lt m version ≡ true) (λ m. nat_lt m version ≡ false) least count →
    IsPartitionPoint (λ m. m < version) (λ m. version ≤ m) least count
below_first_ones least version count parts = (
  λ k d low high. ltb-true (get_or least k d) version (parts.0 k d low high),
  λ k d low high. ltb-false (get_or least k d) version (parts.1 k d low high),
)

module _ (l : List Found) (least : List ℕ) (from end version count : ℕ) (of : Rec →
    ℕ) (up : from ≤ end) (within : end ≤ length l) (size : length least ≡ length l)
    (elsewhere : (i : ℕ) → i < length l → (i < from) ⊎ (end ≤ i) → of (record_at l i) ≡ 0)
    (straddles : (i : ℕ) → from ≤ i → i < end → (record_at l i).back < version → version < (record_at l i).version →
    of (record_at l i) ≡ (record_at l i).version)
    (other : (i : ℕ) → from ≤ i → i < end → (version ≤ (record_at l i).back) ⊎ ((record_at l i).version ≤ version) →
    of (record_at l i) ≡ 0)
    (rises : (i j : ℕ) → from ≤ i → i ≤ j → j < end → (record_at l i).version ≤ (record_at l j).version)
    (low : (i k : ℕ) → from ≤ i → i ≤ k → k < end → get_or least i 0 ≤ (record_at l k).back)
    (one : (i : ℕ) → from ≤ i → i < end → (k : ℕ) × (i ≤ k) × (k < end) × ((record_at l k).back ≡ get_or least i 0))
    (few : count ≤ length (slice_range least from end))
    (parts : IsPartitionPoint (λ m. m < version) (λ m. version ≤ m) (slice_range least from end) count)
  where
    long : length (slice_range least from end) ≡ end - from
    long = length-between least from end (omega arith)

    part_at : (i : ℕ) → from ≤ i → i < end → get_or (slice_range least from end) (i - from) 0 ≡ get_or least i 0
    part_at i a b =
        let sum : from + (i - from) ≡ i = omega arith in
        get_or-between least from end (i - from) 0 (omega arith) ∙ ap (λ n. get_or least n 0) sum

    low_ones : (i : ℕ) → from ≤ i → i < from + count → get_or least i 0 < version
    low_ones i a b =
        let n = long in
        let e = part_at i a (omega arith) in
        let p = parts.0 (i - from) 0 (omega arith) (omega arith) in
        omega arith

    high_ones : (i : ℕ) → from + count ≤ i → i < end → version ≤ get_or least i 0
    high_ones i a b =
        let n = long in
        let e = part_at i (omega arith) b in
        let p = parts.1 (i - from) 0 (omega arith) (omega arith) in
        omega arith

    -- a record that straddles is among those of low least back versions
    among : (i : ℕ) → from ≤ i → i < end → (record_at l i).back < version → i < from + count
    among i a b back = elim (cases_lt i (from + count)) [
      | inl p ↦ p
      | inr p ↦ absurd (let h = high_ones i p b in let d = low i i a (omega arith) b in omega arith)
    ]

    bound_by : (top : ℕ) → ((i : ℕ) → from ≤ i → i < from + count → version < (record_at l i).version →
        (record_at l i).version ≤ top) →
        (i : ℕ) → i < length l → of (record_at l i) ≤ top
    bound_by top high i inside = elim (cases_lt i from) [
      | inl p ↦ (let e = elsewhere i inside (inl p) in omega arith)
      | inr a ↦ elim (cases_lt i end) [
        | inr p ↦ (let e = elsewhere i inside (inr p) in omega arith)
        | inl b ↦ elim (cases_lt (record_at l i).back version) [
          | inr p ↦ (let e = other i a b (inl p) in omega arith)
          | inl back ↦ elim (cases_lt version (record_at l i).version) [
            | inr p ↦ (let e = other i a b (inr p) in omega arith)
            | inl over ↦ (
                let e = straddles i a b back over in
                let h = high i a (among i a b back) over in
                omega arith)
          ]
        ]
      ]
    ]

    -- the last of them has a back version below
    last_back : (n : ℕ) → count ≡ suc n → (record_at l (from + n)).back < version
    last_back n is =
        let z = long in
        let f = few in
        let (k, a, b, back) = one (from + n) (omega arith) (omega arith) in
        let m = low_ones (from + n) (omega arith) (omega arith) in
        elim (cases_lt k (from + count)) [
          | inl here ↦ (let same : k ≡ from + n = omega arith in
              let e : (record_at l k).back ≡ (record_at l (from + n)).back =
              ap (λ x. (record_at l x).back) same in omega arith)
          | inr past ↦ absurd (let h = high_ones k past b in let d = low k k (omega arith) (omega arith) b in
              omega arith)
        ]

    found : (n : ℕ) → count ≡ suc n → greatest of l ≡ last_above l from (suc n) version
    found n is =
        let z = long in
        let f = few in
        let top = (record_at l (from + n)).version in
        elim (cases_lt version top) [
          | inl over ↦
              greatest_is of l top
              (bound_by top (λ i a b h. rises i (from + n) a (omega arith) (omega arith)))
              (inr (from + n, omega arith, straddles (from + n) (omega arith) (omega arith) (last_back n is) over))
              ∙ sym (cond-true (nat_lt version top) top 0 (lt-ltb version top over))
          | inr under ↦
              greatest_is of l 0
              (bound_by 0 (λ i a b h. (let r = rises i (from + n) a (omega arith) (omega arith) in
              absurd (omega arith))))
              (inl refl)
              ∙ sym (cond-false (nat_lt version top) top 0 (le-ltb version top under))
        ]

    pub last_is : last_above l from count version ≡ greatest of l
    last_is = of_count count refl
      where
        of_count : (c : ℕ) → count ≡ c → last_above l from c version ≡ greatest of l
        of_count zero none = sym (greatest_is of l 0 (bound_by 0 (λ i a b h. absurd (omega arith))) (inl refl))
        of_count (suc n) is = sym (found n is)
