-- Least back versions, from the last record to the first.
use Rattle.sorted_records.proofs.Common.{◌≡◌, ℕ, ◌+◌, ◌<◌, ◌≤◌, Bool, true, false, ◌==◌, nat_lt, Option, Some, None, List, length, get_or, refl, sym, ap, ◌∙◌, subst, inl, inr, arith, eqb-true, eq-eqb, lt-ltb, cases_Bool, cases_lt, cases_order, cond-true, cond-false, length-set, Found, record_at, nothing, IsInOrder, AreMinimaFrom}
use Rattle.std.proofs.Common.{min, ◌&&◌, slice_get}
use Rattle.std.proofs.Common.{ltb-true, le-leb, leb-true}
use Rattle.std.specs.List.{slice_set}
use Rattle.std.proofs.lemmas.Bool.{and_parts, and_from}
use Rattle.std.proofs.lemmas.List.{get_or-set_same, get_or-set_other}
use Rattle.sorted_records.specs.Minima.{is_up_to, counts, least_from}
use Rattle.sorted_records.proofs.OfSort.Order.{later_from, page_rises}

-- a version below one that is up to a bound is up to it
lower_counts : (bound : Option ℕ) (low high : ℕ) → low ≤ high → is_up_to bound high ≡ true → is_up_to bound low ≡ true
lower_counts None low high le e = refl
lower_counts (Some top) low high le e = (let h = leb-true high top e in le-leb low top (omega arith))

module _ (l : List Found) (tops least : List ℕ) (at : ℕ) (order : IsInOrder l) (within : at < length l)
    (before : AreMinimaFrom l tops (at + 1) least) where
  abbrev test : Bool
  test = nat_lt (at + 1) (length l) && ((record_at l (at + 1)).page == (record_at l at).page)
      && counts tops (record_at l (at + 1))

  abbrev here : ℕ
  here = least_from l tops least at

  abbrev new : List ℕ
  new = slice_set least at here

  new_at : get_or new at 0 ≡ here
  new_at = get_or-set_same least at here 0 (let s = before.size in omega arith)

  new_past : (i : ℕ) → at + 1 ≤ i → get_or new i 0 ≡ get_or least i 0
  new_past i past = get_or-set_other least at i here 0 (λ e. omega arith)

  -- where a later record of the page counts, so does the next one
  next_counts : (k : ℕ) → at < k → k < length l → (record_at l k).page ≡ (record_at l at).page →
      counts tops (record_at l k) ≡ true → test ≡ true
  next_counts k less inside page is =
      let up = page_rises l order at (at + 1) nothing (omega arith) (omega arith) in
      let on = page_rises l order (at + 1) k nothing (omega arith) inside in
      let same : (record_at l (at + 1)).page ≡ (record_at l at).page = omega arith in
      let low : (record_at l (at + 1)).version ≤ (record_at l k).version =
      elim (later_from l order (at + 1) k nothing (omega arith) inside) [
        | inl p ↦ absurd (omega arith)
        | inr p ↦ p.1
      ] in
      let bound : slice_get tops (record_at l k).page ≡ slice_get tops (record_at l (at + 1)).page =
      ap (slice_get tops) (page ∙ sym same) in
      and_from (nat_lt (at + 1) (length l) && ((record_at l (at + 1)).page == (record_at l at).page))
      (counts tops (record_at l (at + 1)))
      (and_from (nat_lt (at + 1) (length l)) ((record_at l (at + 1)).page == (record_at l at).page)
      (lt-ltb (at + 1) (length l) (omega arith))
      (eq-eqb (record_at l (at + 1)).page (record_at l at).page same))
      (lower_counts (slice_get tops (record_at l (at + 1)).page) (record_at l (at + 1)).version
      (record_at l k).version low
      (subst (λ o. is_up_to o (record_at l k).version ≡ true) bound is))

  record Next : Type 0 where
    pub inside : at + 1 < length l
    pub page : (record_at l (at + 1)).page ≡ (record_at l at).page
    pub counted : counts tops (record_at l (at + 1)) ≡ true
    pub is : here ≡ min (record_at l at).back (get_or least (at + 1) 0)

  next_is : test ≡ true → Next
  next_is e =
      let parts = and_parts (nat_lt (at + 1) (length l) && ((record_at l (at + 1)).page == (record_at l at).page))
      (counts tops (record_at l (at + 1))) e in
      let first = and_parts (nat_lt (at + 1) (length l)) ((record_at l (at + 1)).page == (record_at l at).page)
      parts.0 in
      record {
        inside = ltb-true (at + 1) (length l) first.0;
        page = eqb-true (record_at l (at + 1)).page (record_at l at).page first.1;
        counted = parts.1;
        is = cond-true test (min (record_at l at).back (get_or least (at + 1) 0)) (record_at l at).back e;
      }

  here_alone : test ≡ false → here ≡ (record_at l at).back
  here_alone e = cond-false test (min (record_at l at).back (get_or least (at + 1) 0)) (record_at l at).back e

  low_here : (k : ℕ) → at ≤ k → k < length l → (record_at l k).page ≡ (record_at l at).page →
      counts tops (record_at l k) ≡ true → here ≤ (record_at l k).back
  low_here k from inside page is = elim (cases_order at k) [
    | inl e ↦ (
        let same : (record_at l at).back ≡ (record_at l k).back = ap (λ n. (record_at l n).back) e in
        elim (cases_Bool test) [
          | inl t ↦ (let n = (next_is t).is in omega arith)
          | inr f ↦ (let n = here_alone f in omega arith)
        ])
    | inr (inr more) ↦ absurd (omega arith)
    | inr (inl less) ↦ (
        let n = next_is (next_counts k less inside page is) in
        let b = before.low (at + 1) k (omega arith) (omega arith) inside (page ∙ sym n.page) is in
        let v = n.is in
        omega arith)
  ]

  pub minima_more : AreMinimaFrom l tops at new
  minima_more = record {
    size = length-set least at here ∙ before.size;
    low = λ i k start up inside page is. elim (cases_order at i) [
      | inl e ↦ (
          let value : get_or new i 0 ≡ here = ap (λ n. get_or new n 0) (sym e) ∙ new_at in
          let b = low_here k (omega arith) inside (page ∙ ap (λ n. (record_at l n).page) (sym e)) is in
          omega arith)
      | inr (inl less) ↦ (let value = new_past i (omega arith) in
          let b = before.low i k (omega arith) up inside page is in omega arith)
      | inr (inr more) ↦ absurd (omega arith)
    ];
    one = λ i start inside is. elim (cases_order at i) [
      | inl e ↦ subst (λ n. (k : ℕ) × (n ≤ k) × (k < length l) × ((record_at l k).page ≡ (record_at l n).page)
          × (counts tops (record_at l k) ≡ true) ×
          ((record_at l k).back ≡ get_or new n 0)) e
          (one_here (subst (λ n. counts tops (record_at l n) ≡ true) (sym e) is))
      | inr (inl less) ↦ (
          let (k, up, low, page, counted, back) = before.one i (omega arith) inside is in
          (k, up, low, page, counted, back ∙ sym (new_past i (omega arith))))
      | inr (inr more) ↦ absurd (omega arith)
    ];
  }
    where
      one_here : counts tops (record_at l at) ≡ true →
          (k : ℕ) × (at ≤ k) × (k < length l) × ((record_at l k).page ≡ (record_at l at).page)
          × (counts tops (record_at l k) ≡ true) ×
          ((record_at l k).back ≡ get_or new at 0)
      one_here is = elim (cases_Bool test) [
        | inr f ↦ (at, omega arith, within, refl, is, sym (new_at ∙ here_alone f))
        | inl t ↦ (
            let n = next_is t in
            let v = n.is in
            let (k, up, low, page, counted, back) = before.one (at + 1) (omega arith) n.inside n.counted in
            elim (cases_lt (record_at l at).back (get_or least (at + 1) 0)) [
              | inl less ↦ (
                at,
                omega arith,
                within,
                refl,
                is,
                (let e : (record_at l at).back ≡ here = omega arith in e ∙ sym new_at),
              )
              | inr more ↦ (
                k,
                omega arith,
                low,
                page ∙ n.page,
                counted,
                (let e : get_or least (at + 1) 0 ≡ here = omega arith in back ∙ e ∙ sym new_at),
              )
            ])
      ]

-- the first step
pub minima_none : (l : List Found) (tops least : List ℕ) (start : ℕ) → length l ≤ start → length least ≡ length l →
    AreMinimaFrom l tops start least
minima_none l tops least start past size = record {
  size = size;
  low = λ i k from up inside page is. absurd (omega arith);
  one = λ i from inside is. absurd (omega arith);
}
