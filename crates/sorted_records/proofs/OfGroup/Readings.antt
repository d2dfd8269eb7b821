-- Greatest versions in a list in order.
use Rattle.sorted_records.proofs.Common.{◌≡◌, ◌≢◌, ◌-◌, ℕ, zero, suc, ◌<◌, ◌≤◌, true, false, ◌⊎◌, List, length, get_or, refl, sym, ◌∙◌, subst, inl, inr, arith, eq-eqb, ne_eqb, lt-ltb, le-ltb, IsPartitionPoint, cases_lt, cases_eq, get_or_default, Rec, Found, greatest, version_of, newest, name_of, record_at, nothing, greatest_bound, greatest_least, is_below, IsInOrder, ap, Link}
use Rattle.record_list.proofs.OfFacts.Names.{same_name}
use Rattle.record_list.specs.Records.{version_below, next_older}
use Rattle.sorted_records.specs.SortedRecords.{last_version}
use Rattle.sorted_records.proofs.OfSort.Order.{below_true, below_false, later_from, page_rises}

pub version_same : (page : ℕ) (r : Rec) → r.page ≡ page → version_of page r ≡ r.version
version_same page r e = rw (eq-eqb r.page page e) refl

pub version_other : (page : ℕ) (r : Rec) → r.page ≢ page → version_of page r ≡ 0
version_other page r e = rw (ne_eqb r.page page e) refl

older_same : (page below : ℕ) (r : Rec) → r.page ≡ page → r.version < below →
    version_below page below r ≡ version_of page r
older_same page below r e less = rw (eq-eqb r.page page e, lt-ltb r.version below less) refl

older_high : (page below : ℕ) (r : Rec) → r.page ≡ page → below ≤ r.version → version_below page below r ≡ 0
older_high page below r e more = rw (eq-eqb r.page page e, le-ltb r.version below more) refl

older_other : (page below : ℕ) (r : Rec) → r.page ≢ page → version_below page below r ≡ 0
older_other page below r e = rw (ne_eqb r.page page e) refl

-- a number that bounds that of each record, and is that of one or 0
pub greatest_is : (of : Rec → ℕ) (l : List Found) (n : ℕ) → ((k : ℕ) → k < length l → of (record_at l k) ≤ n) →
    ((n ≡ 0) ⊎ ((k : ℕ) × (k < length l) × (of (record_at l k) ≡ n))) → greatest of l ≡ n
greatest_is of l n bound one =
    let low = greatest_least of l n (λ f i.
    let e : get_or l i.0 nothing ≡ f = get_or_default l i.0 nothing f i.1 ∙ i.2 in
    subst (λ g. of g.rec ≤ n) e (bound i.0 i.1)) in
    elim one [
      | inl none ↦ omega arith
      | inr some ↦ (
          let (k, within, e) = some in
          let high = greatest_bound of l (get_or l k nothing)
          (k, within, get_or_default l k (get_or l k nothing) nothing within) in
          omega arith)
    ]

-- the last record of a page before a place has the greatest version, where those from there on do not count
last_is : (of : Rec → ℕ) (l : List Found) → IsInOrder l → (page end : ℕ) → end ≤ length l →
    ((k : ℕ) → k < end → ((record_at l k).page ≤ page) × (of (record_at l k) ≡ version_of page (record_at l k))) →
    ((k : ℕ) → end ≤ k → k < length l → of (record_at l k) ≡ 0) → last_version l end page ≡ greatest of l
last_is of l order page zero within before behind =
    sym (greatest_is of l 0 (λ k low. let e = behind k (omega arith) low in omega arith) (inl refl))
last_is of l order page (suc i) within before behind = elim (cases_eq (record_at l i).page page) [
  | inl same ↦ (
      let e = version_same page (record_at l i) same in
      let here = before i (omega arith) in
      sym (greatest_is of l (version_of page (record_at l i))
      (λ k low. elim (cases_lt k (suc i)) [
        | inl few ↦ (let b = before k few in elim (cases_eq (record_at l k).page page) [
          | inl too ↦ (
              let f = version_same page (record_at l k) too in
              elim (split k (omega arith)) [ inl p ↦ absurd (omega arith) | inr p ↦ omega arith ])
          | inr other ↦ (let f = version_other page (record_at l k) other in omega arith)
        ])
        | inr many ↦ (let b = behind k many low in omega arith)
      ])
      (inr (i, omega arith, here.1))))
  | inr other ↦ (
      let e = version_other page (record_at l i) other in
      let here = before i (omega arith) in
      e ∙ sym (greatest_is of l 0
      (λ k low. elim (cases_lt k (suc i)) [
        | inl few ↦ (
            let b = before k few in
            let rises = page_rises l order k i nothing (omega arith) (omega arith) in
            let f = version_other page (record_at l k) (λ too. omega arith) in
            omega arith)
        | inr many ↦ (let b = behind k many low in omega arith)
      ])
      (inl refl)))
]
  where
    split : (k : ℕ) → k ≤ i → ((record_at l k).page < (record_at l i).page)
        ⊎ (((record_at l k).page ≡ (record_at l i).page) ×
        ((record_at l k).version ≤ (record_at l i).version))
    split k low = later_from l order k i nothing low (omega arith)

pub newest_is : (l : List Found) → IsInOrder l → (page end : ℕ) → end ≤ length l →
    IsPartitionPoint (λ f. f.rec.page ≤ page) (λ f. page < f.rec.page) l end → last_version l end page ≡ newest l page
newest_is l order page end within parts =
    last_is (version_of page) l order page end within
    (λ k low. (parts.0 k nothing (omega arith) low, refl))
    (λ k low high. version_other page (record_at l k) (λ e. let p = parts.1 k nothing low high in omega arith))

pub next_older_is : (l : List Found) → IsInOrder l → (page below end : ℕ) → end ≤ length l →
    IsPartitionPoint (λ f. is_below (name_of f.rec) record { page = page; version = below } ≡ true)
    (λ f. is_below (name_of f.rec) record { page = page; version = below } ≡ false) l end →
    last_version l end page ≡ next_older l page below
next_older_is l order page below end within parts =
    last_is (version_below page below) l order page end within before behind
  where
    before : (k : ℕ) → k < end → ((record_at l k).page ≤ page)
        × (version_below page below (record_at l k) ≡ version_of page (record_at l k))
    before k low = elim (below_true (name_of (record_at l k)) record { page = page; version = below }
        (parts.0 k nothing (omega arith) low)) [
          | inl p ↦ (
            omega arith,
            older_other page below (record_at l k) (λ e. omega arith)
                ∙ sym (version_other page (record_at l k) (λ e. omega arith)),
          )
          | inr p ↦ (omega arith, older_same page below (record_at l k) p.0 p.1)
        ]

    behind : (k : ℕ) → end ≤ k → k < length l → version_below page below (record_at l k) ≡ 0
    behind k low high = elim (below_false (name_of (record_at l k)) record { page = page; version = below }
        (parts.1 k nothing low high)) [
          | inl p ↦ older_other page below (record_at l k) (λ e. omega arith)
          | inr p ↦ older_high page below (record_at l k) (sym p.0) p.1
        ]

-- the last record of the pages up to one has the newest name of that page, if it is of that page
pub newest_named : (l : List Found) → IsInOrder l → (name : Link) (end : ℕ) → end ≤ length l →
    IsPartitionPoint (λ f. f.rec.page ≤ name.page) (λ f. name.page < f.rec.page) l end → 0 < end →
    (record_at l (end - 1)).page ≡ name.page → name.version ≡ newest l name.page →
    name_of (record_at l (end - 1)) ≡ name
newest_named l order name end within parts some own is =
    let i = end - 1 in
    let next : suc i ≡ end = omega arith in
    same_name (name_of (record_at l i)) name own
    (sym (version_same name.page (record_at l i) own) ∙ ap (λ n. last_version l n name.page) next
    ∙ newest_is l order name.page end within parts ∙ sym is)

-- a record behind which none of its page comes is the newest of its page
pub last_newest : (l : List Found) → IsInOrder l → (at : ℕ) → at < length l →
    (suc at < length l → (record_at l (suc at)).page ≢ (record_at l at).page) →
    newest l (record_at l at).page ≡ (record_at l at).version
last_newest l order at within other =
    let page = (record_at l at).page in
    sym (newest_is l order page (suc at) (omega arith) (
      λ k d from low. subst (λ (g : Found). g.rec.page ≤ page) (sym (get_or_default l k d nothing (omega arith)))
          (page_rises l order k at nothing (omega arith) within),
      λ k d from low. subst (λ (g : Found). page < g.rec.page) (sym (get_or_default l k d nothing low))
          (let differs = other (omega arith) in
          let up = page_rises l order at (suc at) nothing (omega arith) (omega arith) in
          let rises = page_rises l order (suc at) k nothing from low in
          omega arith),
    )) ∙ version_same page (record_at l at) refl
