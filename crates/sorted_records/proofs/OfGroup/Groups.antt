-- The records of one page in a list in order.
use Rattle.sorted_records.proofs.Common.{◌≡◌, ◌≢◌, ℕ, ◌+◌, ◌-◌, ◌<◌, ◌≤◌, true, false, ◌⊎◌, List, length, get_or, refl, sym, ap, ◌∙◌, inl, inr, arith, ne_eqb, slice_range, IsPartitionPoint, cases_lt, get_or_default, length-between, get_or-between, Link, Rec, Found, greatest, name_of, record_at, nothing, straddling_version, straddling_upto, greatest_bound, is_below}
use Rattle.record_list.proofs.OfFacts.Names.{greatest_attained}
use Rattle.sorted_records.proofs.OfSort.Order.{below_cases, below_true, true_below}
use Rattle.sorted_records.proofs.OfGroup.Readings.{greatest_is}

-- what straddles a name is of its page
pub straddling_elsewhere : (name : Link) (r : Rec) → r.page ≢ name.page → straddling_version name r ≡ 0
straddling_elsewhere name r other = rw (ne_eqb r.page name.page other) refl

pub upto_elsewhere : (top : ℕ) (name : Link) (r : Rec) → r.page ≢ name.page → straddling_upto top name r ≡ 0
upto_elsewhere top name r other = rw (ne_eqb r.page name.page other) refl

module _ (l : List Found) (page from to : ℕ)
    (before : IsPartitionPoint (λ f. is_below (name_of f.rec) record { page = page; version = 0 } ≡ true)
    (λ f. is_below (name_of f.rec) record { page = page; version = 0 } ≡ false) l from)
    (upto : IsPartitionPoint (λ f. f.rec.page ≤ page) (λ f. page < f.rec.page) l to) (within : from ≤ length l)
    (inside : to ≤ length l) where
  page_before : (k : ℕ) → k < from → (record_at l k).page < page
  page_before k low = elim (below_true (name_of (record_at l k)) record { page = page; version = 0 }
      (before.0 k nothing (omega arith) low)) [
        | inl p ↦ p
        | inr p ↦ absurd (omega arith)
      ]

  pub group_goes_up : from ≤ to
  group_goes_up = elim (cases_lt to from) [
    | inl less ↦ absurd (let a = page_before to less in let b = upto.1 to nothing (omega arith) (omega arith) in
        omega arith)
    | inr more ↦ more
  ]

  pub group_greatest : (of : Rec → ℕ) → ((r : Rec) → r.page ≢ page → of r ≡ 0) →
      greatest of (slice_range l from to) ≡ greatest of l
  group_greatest of elsewhere = sym (greatest_is of l (greatest of (slice_range l from to)) bound one)
    where
      size : length (slice_range l from to) ≡ to - from
      size = length-between l from to inside

      bound : (k : ℕ) → k < length l → of (record_at l k) ≤ greatest of (slice_range l from to)
      bound k low = elim (cases_lt k from) [
        | inl early ↦ (let p = page_before k early in let z = elsewhere (record_at l k) (λ e. omega arith) in
            omega arith)
        | inr late ↦ elim (cases_lt k to) [
          | inr past ↦ (let p = upto.1 k nothing past low in let z = elsewhere (record_at l k) (λ e. omega arith) in
              omega arith)
          | inl here ↦ (
              let sum : from + (k - from) ≡ k = omega arith in
              let e : get_or (slice_range l from to) (k - from) nothing ≡ get_or l k nothing =
              get_or-between l from to (k - from) nothing (omega arith) ∙ ap (λ n. get_or l n nothing) sum in
              let few : k - from < length (slice_range l from to) = let s = size in omega arith in
              greatest_bound of (slice_range l from to) (get_or l k nothing)
              (k - from, few, get_or_default (slice_range l from to) (k - from) (get_or l k nothing) nothing few ∙ e))
        ]
      ]

      one : (greatest of (slice_range l from to) ≡ 0)
          ⊎ ((k : ℕ) × (k < length l) × (of (record_at l k) ≡ greatest of (slice_range l from to)))
      one = elim (cases_lt 0 (greatest of (slice_range l from to))) [
        | inr none ↦ inl (omega arith)
        | inl some ↦ (
            let top = greatest_attained of (slice_range l from to) some in
            let c = top.1 in
            let s = size in
            let low = c.1 in
            let e : get_or l (from + c.0) nothing ≡ top.0 =
            sym (get_or-between l from to c.0 nothing (omega arith))
            ∙ get_or_default (slice_range l from to) c.0 nothing top.0 low ∙ c.2 in
            inr (from + c.0, omega arith, ap (λ f. of f.rec) e ∙ top.2))
      ]

-- names of earlier pages are below one, and those of later pages are not
module _ (l : List Found) (name : Link) (from to : ℕ)
    (before : IsPartitionPoint (λ f. is_below (name_of f.rec) record { page = name.page; version = 0 } ≡ true)
    (λ f. is_below (name_of f.rec) record { page = name.page; version = 0 } ≡ false) l from)
    (upto : IsPartitionPoint (λ f. f.rec.page ≤ name.page) (λ f. name.page < f.rec.page) l to)
    (within : from ≤ length l) (inside : to ≤ length l) where
  pub earlier_below : (k : ℕ) → k < from → is_below (name_of (record_at l k)) name ≡ true
  earlier_below k low = true_below (name_of (record_at l k)) name
      (inl (page_before l name.page from to before upto within inside k low))

  pub later_not_below : (k : ℕ) → to ≤ k → k < length l → is_below (name_of (record_at l k)) name ≡ false
  later_not_below k high low = elim (below_cases (name_of (record_at l k)) name) [
    | inr x ↦ x.1
    | inl x ↦ absurd (let above = upto.1 k nothing high low in elim x.0 [ inl p ↦ omega arith | inr p ↦ omega arith ])
  ]
