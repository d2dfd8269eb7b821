-- Straddlers among the records of a page.
use Rattle.sorted_records.proofs.Common.{◌≡◌, ℕ, ◌+◌, ◌<◌, ◌≤◌, true, false, leb, ◌⊎◌, Some, List, [], length, get_or, sym, ap, ◌∙◌, inl, inr, arith, slice_range, IsPartitionPoint, cases_lt, length-between, get_or-between, Link, Rec, Found, greatest, name_of, record_at, nothing, straddling_version, straddling, straddling_upto, is_below, IsInOrder}
use Rattle.std.proofs.Common.{slice_get, le-leb}
use Rattle.std.proofs.Common.{leb-true}
use Rattle.std.proofs.lemmas.Option.{slice_get_past}
use Rattle.straddle_sets.proofs.Straddle.{straddling_is, straddling_none, upto_is, upto_none}
use Rattle.sorted_records.specs.Minima.{is_up_to, counts, AreMinima, last_above}
use Rattle.sorted_records.proofs.OfSort.Order.{below_true, below_false, later_from}
use Rattle.sorted_records.proofs.OfGroup.Straddlers.{last_is}

-- the records of a page that count stand from one place to another
pub record IsStretch (l : List Found) (tops : List ℕ) (page from end : ℕ) : Type 0 where
  pub up : from ≤ end
  pub within : end ≤ length l
  pub inside : (i : ℕ) → from ≤ i → i < end → ((record_at l i).page ≡ page) × (counts tops (record_at l i) ≡ true)
  pub outside : (i : ℕ) → i < length l → (record_at l i).page ≡ page → counts tops (record_at l i) ≡ true →
      (from ≤ i) × (i < end)

module _ (l : List Found) (tops least : List ℕ) (name : Link) (from end : ℕ) (order : IsInOrder l)
    (min : AreMinima l tops least)
    (stretch : IsStretch l tops name.page from end) where
  same_page : (i k : ℕ) → from ≤ i → i < end → from ≤ k → k < end → (record_at l k).page ≡ (record_at l i).page
  same_page i k a b x y = (stretch.inside k x y).0 ∙ sym (stretch.inside i a b).0

  rises : (i j : ℕ) → from ≤ i → i ≤ j → j < end → (record_at l i).version ≤ (record_at l j).version
  rises i j a up b =
      let w = stretch.within in
      let p = same_page i j a (omega arith) (omega arith) b in
      elim (later_from l order i j nothing up (omega arith)) [
        | inl q ↦ absurd (omega arith)
        | inr q ↦ q.1
      ]

  low : (i k : ℕ) → from ≤ i → i ≤ k → k < end → get_or least i 0 ≤ (record_at l k).back
  low i k a up b =
      let w = stretch.within in
      min.low i k (omega arith) up (omega arith) (same_page i k a (omega arith) (omega arith) b)
      (stretch.inside k (omega arith) b).1

  one : (i : ℕ) → from ≤ i → i < end → (k : ℕ) × (i ≤ k) × (k < end) × ((record_at l k).back ≡ get_or least i 0)
  one i a b =
      let w = stretch.within in
      let in_i = stretch.inside i a b in
      let (k, up, inside, page, counted, back) = min.one i (omega arith) (omega arith) in_i.1 in
      let out = stretch.outside k inside (page ∙ in_i.0) counted in
      (k, up, out.1, back)

  -- the least back versions do not fall along them
  pub stretch_rises : (i j : ℕ) → i ≤ j → j < length (slice_range least from end) →
      get_or (slice_range least from end) i 0 ≤ get_or (slice_range least from end) j 0
  stretch_rises i j up inside =
      let w = stretch.within in
      let s = min.size in
      let u = stretch.up in
      let long = length-between least from end (omega arith) in
      let a = get_or-between least from end i 0 (omega arith) in
      let b = get_or-between least from end j 0 (omega arith) in
      let (k, on, in_k, back) = one (from + j) (omega arith) (omega arith) in
      let d = low (from + i) k (omega arith) (omega arith) in_k in
      omega arith

  pub stretch_greatest : (count : ℕ) → count ≤ length (slice_range least from end) →
      IsPartitionPoint (λ m. m < name.version) (λ m. name.version ≤ m) (slice_range least from end) count →
      (of : Rec → ℕ) →
      ((i : ℕ) → i < length l → (i < from) ⊎ (end ≤ i) → of (record_at l i) ≡ 0) →
      ((i : ℕ) → from ≤ i → i < end → (record_at l i).back < name.version → name.version < (record_at l i).version →
      of (record_at l i) ≡ (record_at l i).version) →
      ((i : ℕ) → from ≤ i → i < end → (name.version ≤ (record_at l i).back) ⊎ ((record_at l i).version ≤ name.version) →
      of (record_at l i) ≡ 0) →
      last_above l from count name.version ≡ greatest of l
  stretch_greatest count few parts of elsewhere straddles other =
      last_is l least from end name.version count of stretch.up stretch.within min.size elsewhere straddles other rises
      low one few parts

no_bound : (r : Rec) → counts [] r ≡ true
no_bound r =
    let none : List ℕ = [] in
    ap (λ o. is_up_to o r.version) (slice_get_past none r.page (omega arith))

-- what straddles a name
module _ (l : List Found) (least : List ℕ) (name : Link) (from end : ℕ) (order : IsInOrder l)
    (min : AreMinima l [] least)
    (before : IsPartitionPoint (λ f. is_below (name_of f.rec) record { page = name.page; version = 0 } ≡ true)
    (λ f. is_below (name_of f.rec) record { page = name.page; version = 0 } ≡ false) l from)
    (upto : IsPartitionPoint (λ f. f.rec.page ≤ name.page) (λ f. name.page < f.rec.page) l end)
    (within : from ≤ length l) (inside : end ≤ length l)
    (up : from ≤ end) where
  page_before : (k : ℕ) → k < from → (record_at l k).page < name.page
  page_before k low = elim (below_true (name_of (record_at l k)) record { page = name.page; version = 0 }
      (before.0 k nothing (omega arith) low)) [
        | inl p ↦ p
        | inr p ↦ absurd (omega arith)
      ]

  page_from : (k : ℕ) → from ≤ k → k < length l → name.page ≤ (record_at l k).page
  page_from k high low = elim (below_false (name_of (record_at l k)) record { page = name.page; version = 0 }
      (before.1 k nothing high low)) [
        | inl p ↦ omega arith
        | inr p ↦ omega arith
      ]

  pub whole : IsStretch l [] name.page from end
  whole = record {
    up = up;
    within = inside;
    inside = λ i a b. (let p = page_from i a (omega arith) in let q = upto.0 i nothing (omega arith) b in
        (omega arith, no_bound (record_at l i)));
    outside = λ i low page counted. (
      elim (cases_lt i from) [ inl p ↦ absurd (let q = page_before i p in omega arith) | inr p ↦ p ],
      elim (cases_lt i end) [ inl p ↦ p | inr p ↦ absurd (let q = upto.1 i nothing p low in omega arith) ],
    );
  }

  pub straddling_is_last : (count : ℕ) → (few : count ≤ length (slice_range least from end)) →
      IsPartitionPoint (λ m. m < name.version) (λ m. name.version ≤ m) (slice_range least from end) count →
      last_above l from count name.version ≡ straddling l name
  straddling_is_last count few parts =
      stretch_greatest l [] least name from end order min whole count few parts (straddling_version name)
      (λ i low out. straddling_none (record_at l i) name (λ s. elim out [
        | inl p ↦ (let q = page_before i p in let e = s.0 in omega arith)
        | inr p ↦ (let q = upto.1 i nothing p low in let e = s.0 in omega arith)
      ]))
      (λ i a b back over. straddling_is (record_at l i) name ((whole.inside i a b).0, back, over))
      (λ i a b out. straddling_none (record_at l i) name (λ s. (let x = s.1 in let y = s.2 in
      elim out [ inl p ↦ omega arith | inr p ↦ omega arith ])))

-- what straddles a name up to the bound of its page
module _ (l : List Found) (tops least : List ℕ) (name : Link) (top from end : ℕ) (order : IsInOrder l)
    (min : AreMinima l tops least)
    (bound : slice_get tops name.page ≡ Some top)
    (before : IsPartitionPoint (λ f. is_below (name_of f.rec) record { page = name.page; version = 0 } ≡ true)
    (λ f. is_below (name_of f.rec) record { page = name.page; version = 0 } ≡ false) l from)
    (upto : IsPartitionPoint (λ f. is_below record { page = name.page; version = top } (name_of f.rec) ≡ false)
    (λ f. is_below record { page = name.page; version = top } (name_of f.rec) ≡ true) l end) (within : from ≤ length l)
    (inside : end ≤ length l) where
  first_before : (k : ℕ) → k < from → (record_at l k).page < name.page
  first_before k low = elim (below_true (name_of (record_at l k)) record { page = name.page; version = 0 }
      (before.0 k nothing (omega arith) low)) [
        | inl p ↦ p
        | inr p ↦ absurd (omega arith)
      ]

  first_from : (k : ℕ) → from ≤ k → k < length l → name.page ≤ (record_at l k).page
  first_from k high low = elim (below_false (name_of (record_at l k)) record { page = name.page; version = 0 }
      (before.1 k nothing high low)) [
        | inl p ↦ omega arith
        | inr p ↦ omega arith
      ]

  last_within : (k : ℕ) → k < end → (record_at l k).page ≡ name.page → (record_at l k).version ≤ top
  last_within k low page = elim (below_false record { page = name.page; version = top } (name_of (record_at l k))
      (upto.0 k nothing (omega arith) low)) [
        | inl p ↦ absurd (omega arith)
        | inr p ↦ p.1
      ]

  last_page : (k : ℕ) → k < end → (record_at l k).page ≤ name.page
  last_page k low = elim (below_false record { page = name.page; version = top } (name_of (record_at l k))
      (upto.0 k nothing (omega arith) low)) [
        | inl p ↦ omega arith
        | inr p ↦ omega arith
      ]

  last_past : (k : ℕ) → end ≤ k → k < length l → (record_at l k).page ≡ name.page → top < (record_at l k).version
  last_past k high low page = elim (below_true record { page = name.page; version = top } (name_of (record_at l k))
      (upto.1 k nothing high low)) [
        | inl p ↦ absurd (omega arith)
        | inr p ↦ p.1
      ]

  pub bound_up : from ≤ end
  bound_up = elim (cases_lt end from) [
    | inr p ↦ p
    | inl p ↦ absurd (
        let q = first_before end p in
        elim (below_true record { page = name.page; version = top } (name_of (record_at l end))
        (upto.1 end nothing (omega arith) (omega arith))) [
          | inl r ↦ omega arith
          | inr r ↦ omega arith
        ])
  ]

  count_is : (r : Rec) → r.page ≡ name.page → counts tops r ≡ leb r.version top
  count_is r page = ap (λ o. is_up_to o r.version) (ap (slice_get tops) page ∙ bound)

  pub decided : IsStretch l tops name.page from end
  decided = record {
    up = bound_up;
    within = inside;
    inside = λ i a b. (
        let p = first_from i a (omega arith) in
        let q = last_page i b in
        let page : (record_at l i).page ≡ name.page = omega arith in
        (page, count_is (record_at l i) page ∙ le-leb (record_at l i).version top (last_within i b page)));
    outside = λ i low page counted. (
      elim (cases_lt i from) [ inl p ↦ absurd (let q = first_before i p in omega arith) | inr p ↦ p ],
      elim (cases_lt i end) [
        | inl p ↦ p
        | inr p ↦ absurd (let q = last_past i p low page in
            let c = leb-true (record_at l i).version top (sym (count_is (record_at l i) page) ∙ counted) in
            omega arith)
      ],
    );
  }

  pub upto_is_last : (count : ℕ) → (few : count ≤ length (slice_range least from end)) →
      IsPartitionPoint (λ m. m < name.version) (λ m. name.version ≤ m) (slice_range least from end) count →
      last_above l from count name.version ≡ greatest (straddling_upto top name) l
  upto_is_last count few parts =
      stretch_greatest l tops least name from end order min decided count few parts (straddling_upto top name)
      (λ i low out. upto_none top name (record_at l i) (λ s le. elim out [
        | inl p ↦ (let q = first_before i p in let e = s.0 in omega arith)
        | inr p ↦ (let q = last_past i p low s.0 in omega arith)
      ]))
      (λ i a b back over. upto_is top name (record_at l i) (
        (decided.inside i a b).0,
        back,
        over,
      ) (last_within i b (decided.inside i a b).0))
      (λ i a b out. upto_none top name (record_at l i) (λ s le. (let x = s.1 in let y = s.2 in
      elim out [ inl p ↦ omega arith | inr p ↦ omega arith ])))
