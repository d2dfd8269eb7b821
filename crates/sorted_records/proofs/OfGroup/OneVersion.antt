-- Where the records of each page have one version, each is of the newest of its page.
use Rattle.sorted_records.proofs.Common.{◌≡◌, ℕ, zero, suc, ◌+◌, ◌-◌, ◌<◌, Option, Some, None, List, length, refl, sym, ap, ◌∙◌, inl, inr, arith, lt-ltb, eq-eqb, position, cases_lt, cases_eq, position-Some, Found, newest, version_of, has_name, record_at, nothing, IsInOrder, link_graph, name_graph}
use Rattle.sorted_records.specs.SortedRecords.{HaveOneVersion, newest_target}
use Rattle.sorted_records.proofs.OfSort.Order.{page_rises}
use Rattle.sorted_records.proofs.OfGroup.Readings.{version_same, version_other, greatest_is}
use Rattle.sorted_records.proofs.OfWalk.WalkOrbits.{map_alike, kept_links}

module _ (l : List Found) (order : IsInOrder l)
    (next : (k : ℕ) → suc k < length l → (record_at l (suc k)).page ≡ (record_at l k).page →
    (record_at l (suc k)).version ≡ (record_at l k).version)
  where
    onward : (i n j : ℕ) → j ≡ i + n → j < length l → (record_at l j).page ≡ (record_at l i).page →
        (record_at l j).version ≡ (record_at l i).version
    onward i zero j at within page = let here : j ≡ i = omega arith in ap (λ k. (record_at l k).version) here
    onward i (suc n) j at within page =
        let next_to : j ≡ suc (i + n) = omega arith in
        let last = ap (λ k. (record_at l k).page) next_to in
        let low = page_rises l order i (i + n) nothing (omega arith) (omega arith) in
        let high = page_rises l order (i + n) (suc (i + n)) nothing (omega arith) (omega arith) in
        ap (λ k. (record_at l k).version) next_to
        ∙ next (i + n) (omega arith) (omega arith)
        ∙ onward i n (i + n) refl (omega arith) (omega arith)

    -- where records side by side that are of one page have one version, all do
    pub one_version : HaveOneVersion l
    one_version i j in_i in_j page = elim (cases_lt i j) [
      | inl less ↦ sym (onward i (j - i) j (omega arith) in_j (sym page))
      | inr more ↦ onward j (i - j) i (omega arith) in_i page
    ]

module _ (l : List Found) (one : HaveOneVersion l) where
  newest_is : (i : ℕ) → i < length l → newest l (record_at l i).page ≡ (record_at l i).version
  newest_is i within =
      let page = (record_at l i).page in
      greatest_is (version_of page) l (record_at l i).version
      (λ k low. elim (cases_eq (record_at l k).page page) [
        | inl same ↦ (let e = version_same page (record_at l k) same in let v = one k i low within same in omega arith)
        | inr other ↦ (let e = version_other page (record_at l k) other in omega arith)
      ])
      (inr (i, within, version_same page (record_at l i) refl))

  kept : (o : Option ℕ) (f : Found) → position (λ g. has_name f.rec.next g.rec) l ≡ o → newest_target l o ≡ o
  kept None f at = refl
  kept (Some i) f at =
      let found = position-Some (λ g. has_name f.rec.next g.rec) l i nothing at in
      rw (
        lt-ltb i (length l) found.0,
        eq-eqb (newest l (record_at l i).page) (record_at l i).version
            (newest_is i found.0),
      ) refl

  -- then links lead to the places that they name
  pub own_links : name_graph l ≡ link_graph l
  own_links =
      sym (map_alike (newest_target l) (λ f. position (λ g. has_name f.rec.next g.rec) l)
      (λ f. position (λ g. has_name f.rec.next g.rec) l) l
      (λ f. kept (position (λ g. has_name f.rec.next g.rec) l) f refl))
      ∙ kept_links l
