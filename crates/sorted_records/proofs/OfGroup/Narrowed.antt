-- A search in a part of the records in order.
use Rattle.sorted_records.proofs.Common.{◌≡◌, ℕ, ◌+◌, ◌-◌, ◌<◌, ◌≤◌, Bool, true, false, List, length, get_or, sym, ap, ◌∙◌, subst, subst₂, inl, inr, arith, slice_range, IsPartitionPoint, cases_Bool, cases_lt, get_or_default, length-between, get_or-between, Link, Found, name_of, record_at, nothing, is_below, IsInOrder}
use Rattle.sorted_records.proofs.OfSort.Order.{IsFrom, IsBelow, below_cases, below_true, below_false, true_below, below_first, later_from, parted_by_name}

-- a part of records in order is in order
pub part_in_order : (l : List Found) (from to : ℕ) → IsInOrder l → to ≤ length l → IsInOrder (slice_range l from to)
part_in_order l from to order inside i j d less within =
    let long = length-between l from to inside in
    let a = get_or-between l from to i d (omega arith) in
    let b = get_or-between l from to j d (omega arith) in
    subst₂ (λ (f g : Found). is_below (name_of g.rec) (name_of f.rec) ≡ false) (sym a) (sym b)
    (order (from + i) (from + j) d (omega arith) (omega arith))

-- the point in a part before which all are below and after which none is
pub point_is : (l : List Found) (name : Link) (from to count : ℕ) → from ≤ to → to ≤ length l →
    ((k : ℕ) → k < from → is_below (name_of (record_at l k)) name ≡ true) →
    ((k : ℕ) → to ≤ k → k < length l → is_below (name_of (record_at l k)) name ≡ false) →
    count ≤ length (slice_range l from to) →
    IsPartitionPoint (λ f. is_below (name_of f.rec) name ≡ true) (λ f. is_below (name_of f.rec) name ≡ false)
    (slice_range l from to) count →
    IsPartitionPoint (λ f. is_below (name_of f.rec) name ≡ true) (λ f. is_below (name_of f.rec) name ≡ false) l
    (from + count)
point_is l name from to count up inside before behind few parts = (first, second)
  where
    long : length (slice_range l from to) ≡ to - from
    long = length-between l from to inside

    at : (k : ℕ) (d : Found) → from ≤ k → k < to → get_or (slice_range l from to) (k - from) d ≡ get_or l k d
    at k d a b = (let sum : from + (k - from) ≡ k = omega arith in get_or-between l from to (k - from) d (omega arith)
        ∙ ap (λ n. get_or l n d) sum)

    moved : (b : Bool) (k : ℕ) (d : Found) → k < length l → is_below (name_of (record_at l k)) name ≡ b →
        is_below (name_of (get_or l k d).rec) name ≡ b
    moved b k d low e = subst (λ (f : Found). is_below (name_of f.rec) name ≡ b) (get_or_default l k nothing d low) e

    first : (k : ℕ) (d : Found) → 0 ≤ k → k < from + count → is_below (name_of (get_or l k d).rec) name ≡ true
    first k d low less = elim (cases_lt k from) [
      | inl p ↦ moved true k d (let n = long in omega arith) (before k p)
      | inr p ↦ (let n = long in
          subst (λ (f : Found). is_below (name_of f.rec) name ≡ true) (at k d p (omega arith))
          (parts.0 (k - from) d (omega arith) (omega arith)))
    ]

    second : (k : ℕ) (d : Found) → from + count ≤ k → k < length l → is_below (name_of (get_or l k d).rec) name ≡ false
    second k d high low = elim (cases_lt k to) [
      | inr p ↦ moved false k d low (behind k p low)
      | inl p ↦ (let n = long in
          subst (λ (f : Found). is_below (name_of f.rec) name ≡ false) (at k d (omega arith) p)
          (parts.1 (k - from) d (omega arith) (omega arith)))
    ]

-- names before one that is below are below
pub before_below : (l : List Found) (name : Link) (at : ℕ) → IsInOrder l → at < length l →
    is_below (name_of (record_at l at)) name ≡ true →
    (k : ℕ) → k ≤ at → is_below (name_of (record_at l k)) name ≡ true
before_below l name at order within here k low =
    true_below (name_of (record_at l k)) name
    (below_first (name_of (record_at l k)) (name_of (record_at l at)) name (later_from l order k at nothing low within)
    (below_true (name_of (record_at l at)) name here))

-- pages up to one have names below that of the next page
pub page_point : (l : List Found) (page end : ℕ) →
    IsPartitionPoint (λ f. is_below (name_of f.rec) record { page = page + 1; version = 0 } ≡ true)
    (λ f. is_below (name_of f.rec) record { page = page + 1; version = 0 } ≡ false) l end →
    IsPartitionPoint (λ f. f.rec.page ≤ page) (λ f. page < f.rec.page) l end
page_point l page end parts = (
  λ k d low less. elim (below_true (name_of (get_or l k d).rec) record { page = page + 1; version = 0 }
      (parts.0 k d low less)) [
        | inl p ↦ omega arith
        | inr p ↦ absurd (omega arith)
      ],
  λ k d high low. elim (below_false (name_of (get_or l k d).rec) record { page = page + 1; version = 0 }
      (parts.1 k d high low)) [
        | inl p ↦ omega arith
        | inr p ↦ omega arith
      ],
)

-- names up to one are below that of the next version
pub name_point : (l : List Found) (name : Link) (end : ℕ) →
    IsPartitionPoint (λ f. is_below (name_of f.rec) record { page = name.page; version = name.version + 1 } ≡ true)
    (λ f. is_below (name_of f.rec) record { page = name.page; version = name.version + 1 } ≡ false) l end →
    IsPartitionPoint (λ f. is_below name (name_of f.rec) ≡ false) (λ f. is_below name (name_of f.rec) ≡ true) l end
name_point l name end parts = (
  λ k d low less. not_above (name_of (get_or l k d).rec) (below_true (name_of (get_or l k d).rec) record {
    page = name.page;
    version =
        name.version + 1;
  } (parts.0 k d low less)),
  λ k d high low. above (name_of (get_or l k d).rec) (below_false (name_of (get_or l k d).rec) record {
    page = name.page;
    version =
        name.version + 1;
  } (parts.1 k d high low)),
)
  where
    not_above : (a : Link) → IsBelow a record { page = name.page; version = name.version + 1 } → is_below name a ≡ false
    not_above a (inl p) = elim (below_cases name a) [
      | inr x ↦ x.1
      | inl x ↦ absurd (elim x.0 [ inl q ↦ omega arith | inr q ↦ omega arith ])
    ]
    not_above a (inr p) = elim (below_cases name a) [
      | inr x ↦ x.1
      | inl x ↦ absurd (elim x.0 [ inl q ↦ omega arith | inr q ↦ omega arith ])
    ]

    above : (a : Link) → IsFrom a record { page = name.page; version = name.version + 1 } → is_below name a ≡ true
    above a (inl p) = true_below name a (inl p)
    above a (inr p) = true_below name a (inr (p.0, omega arith))

-- names are below one up to a place, if that before it is, and the one at it is not
pub point_here : (l : List Found) (name : Link) (at : ℕ) → IsInOrder l → at ≤ length l →
    ((k : ℕ) → k < at → is_below (name_of (record_at l k)) name ≡ true) →
    (at < length l → is_below (name_of (record_at l at)) name ≡ false) →
    IsPartitionPoint (λ f. is_below (name_of f.rec) name ≡ true) (λ f. is_below (name_of f.rec) name ≡ false) l at
point_here l name at order within before here = (
  λ k d from less. subst (λ (f : Found). is_below (name_of f.rec) name ≡ true)
      (get_or_default l k nothing d (omega arith)) (before k less),
  λ k d high low. elim (cases_Bool (is_below (name_of (get_or l k d).rec) name)) [
    | inr f ↦ f
    | inl t ↦ absurd (
        let first = parted_by_name l name order at k d high low t in
        let same = ap (λ (f : Found). is_below (name_of f.rec) name) (get_or_default l at nothing d (omega arith)) in
        let other = here (omega arith) in
        cc)
  ],
)
