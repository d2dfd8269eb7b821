-- The pages whose newest record a write does not touch: each counts afterwards exactly where it counted before.
use Rattle.record_list.proofs.Common.{◌≡◌, ℕ, ◌<◌, true, false, ◌⊎◌, List, refl, sym, ap, ◌∙◌, subst, inl, inr, arith, Contains, cases_Bool, cases_eq, Link, Rec, Protocol, Scc, Bpcc, Found, next_older, newest, name_of, is_present, newest_name, why, is_committed, cur, fallback}
use Rattle.list_lemmas.proofs.Values.{one_test}
use Rattle.record_list.proofs.OfFacts.Names.{newest_present}
use Rattle.record_list.proofs.OfFacts.Safe.{top_link, is_clear, Goes, IsSafe, IsLinked, Counts, counts_from, counts_safe}
use Rattle.record_list.proofs.OfFacts.Facts.{cur_committed, cur_uncommitted, bare_page}
use Rattle.record_list.proofs.OfChanges.Progress.{name_uncounted}
use Rattle.record_list.proofs.OfChanges.OneMore.{IsStep, newest_own, newest_else, older_else, top_else, back_else, clear_else, step_underway, step_linked}

-- another page than the new record's, with a newest record that is no name of the transaction
abbrev pub IsUntouched : List Found → List Link → Rec → ℕ → Type 0
IsUntouched l names r page = (0 < newest l page) × (page ≡ r.page → ⊥) × (Contains names (newest_name l page) → ⊥)

-- an old link into the new record's page goes on exactly where it is clear afterwards
abbrev pub OldLinks : Protocol → List Found → List Found → ℕ → List Link → Rec → Type 0
OldLinks p l l' logical names r = (page : ℕ) → IsUntouched l names r page → (top_link l page).page ≡ r.page →
    (Goes p l (Counts p l logical) (top_link l page) → is_clear p l' (top_link l page) ≡ true)
    × (is_clear p l' (top_link l page) ≡ true → Goes p l (Counts p l logical) (top_link l page))

module _ (p : Protocol) (l l' : List Found) (logical : ℕ) (names : List Link) (r : Rec)
    (s : IsStep l l' logical names r) (linked : IsLinked l logical)
    (old : OldLinks p l l' logical names r) where
  -- its link is lower than the transaction at each of its pages
  link_lower : (page : ℕ) → IsUntouched l names r page → (a : Link) → Contains names a →
      (top_link l page).page ≡ a.page → (top_link l page).version < a.version
  link_lower page k a i e = (s.underway.lower (newest_name l page) (newest_present l page k.0) k.2 a i).1 e

  -- a page that it leads to at the newest version is untouched too
  next_untouched : (page : ℕ) → IsUntouched l names r page → ((top_link l page).page ≡ r.page → ⊥) →
      (top_link l page).version ≡ newest l (top_link l page).page → IsUntouched l names r (top_link l page).page
  next_untouched page k off at =
      let q = top_link l page in
      let positive = (linked.versions (newest_name l page) (newest_present l page k.0)).1 in
      (omega arith, off, λ i. (let low = link_lower page k (newest_name l q.page) i refl in omega arith))

  -- from before to after
  stays_safe : IsSafe p l' logical (λ page. IsUntouched l names r page × Counts p l logical page)
  stays_safe = record {
    written = λ page x. (let e = newest_else l l' logical names r s page x.0.1 in let has = x.0.0 in omega arith);
    goes = λ page x.
        let k = x.0 in
        let q = top_link l page in
        let X : ℕ → Type 0 = λ z. IsUntouched l names r z × Counts p l logical z in
        let goes : Goes p l (Counts p l logical) q = (counts_safe p l logical linked).goes page x.1 in
        subst (Goes p l' X) (sym (top_else l l' logical names r s page k.1)) (elim (cases_eq q.page r.page) [
          | inl into ↦ (
              let low = link_lower page k (name_of r) s.of_names into in
              let own = newest_own l l' logical names r s in
              let there = ap (newest l') into in
              inl (omega arith, (old page k into).0 goes))
          | inr off ↦ (
              let e = newest_else l l' logical names r s q.page off in
              elim goes [
                | inl passes ↦ (let less = passes.0 in
                    inl (omega arith, clear_else l l' logical names r s p q off ∙ passes.1))
                | inr on ↦ inr (on.0 ∙ sym e, (next_untouched page k off on.0, on.1))
              ])
        ]);
  }

  -- from after to before
  was_safe : IsSafe p l logical (λ page. (IsUntouched l names r page × Counts p l' logical page)
      ⊎ Counts p l logical page)
  was_safe =
      let X : ℕ → Type 0 = λ z. (IsUntouched l names r z × Counts p l' logical z) ⊎ Counts p l logical z in
      record {
        written = λ page x. elim x [ inl both ↦ both.0.0 | inr c ↦ c.0 ];
        goes = λ page x. elim x [
          | inl both ↦ (
              let k = both.0 in
              let q = top_link l page in
              let goes : Goes p l' (Counts p l' logical) q =
              subst (Goes p l' (Counts p l' logical)) (top_else l l' logical names r s page k.1)
              ((counts_safe p l' logical (step_linked l l' logical names r s linked)).goes page both.1) in
              elim (cases_eq q.page r.page) [
                | inl into ↦ (
                    let low = link_lower page k (name_of r) s.of_names into in
                    let own = newest_own l l' logical names r s in
                    let there = ap (newest l') into in
                    elim goes [
                      | inl passes ↦ elim ((old page k into).1 passes.1) [
                        | inl g ↦ inl g
                        | inr on ↦ inr (on.0, inr on.1)
                      ]
                      | inr on ↦ (let at = on.0 in absurd (omega arith))
                    ])
                | inr off ↦ (
                    let e = newest_else l l' logical names r s q.page off in
                    elim goes [
                      | inl passes ↦ (let less = passes.0 in
                          inl (omega arith, sym (clear_else l l' logical names r s p q off) ∙ passes.1))
                      | inr on ↦ inr (on.0 ∙ e, inl (next_untouched page k off (on.0 ∙ e), on.1))
                    ])
              ])
          | inr c ↦ elim ((counts_safe p l logical linked).goes page c) [
            | inl passes ↦ inl passes
            | inr on ↦ inr (on.0, inr on.1)
          ]
        ];
      }

  -- an untouched page that counts counts afterwards
  pub stays : (page : ℕ) → IsUntouched l names r page → Counts p l logical page → Counts p l' logical page
  stays page k c = counts_from p l' logical (step_linked l l' logical names r s linked) (λ z. IsUntouched l names r z ×
      Counts p l logical z) stays_safe page (k, c)

  -- and one that counts afterwards counted
  pub was : (page : ℕ) → IsUntouched l names r page → Counts p l' logical page → Counts p l logical page
  was page k c = counts_from p l logical linked (λ z. (IsUntouched l names r z × Counts p l' logical z)
      ⊎ Counts p l logical z) was_safe page (inl (k, c))

  -- where the verdict on another page is as before, so is its current version
  same_cur : (page : ℕ) → (page ≡ r.page → ⊥) → is_committed (why p l' logical page)
      ≡ is_committed (why p l logical page) →
      cur p l' logical page ≡ cur p l logical page
  same_cur page off e = elim (cases_Bool (is_committed (why p l logical page))) [
    | inl yes' ↦ cur_committed p l' logical page (e ∙ yes') ∙ newest_else l l' logical names r s page off
        ∙ sym (cur_committed p l logical page yes')
    | inr not' ↦ cur_uncommitted p l' logical page (e ∙ not') ∙ same_fallback p page off
        ∙ sym (cur_uncommitted p l logical page not')
  ]
    where
      same_fallback : (q : Protocol) (page : ℕ) → (page ≡ r.page → ⊥) → fallback q l' page ≡ fallback q l page
      same_fallback Scc page off = older_else l l' logical names r s page (newest l' page) off ∙
          ap (next_older l page) (newest_else l l' logical names r s page off)
      same_fallback Bpcc page off = back_else l l' logical names r s page off

  -- an untouched page keeps its current version
  pub untouched_cur : (page : ℕ) → IsUntouched l names r page → cur p l' logical page ≡ cur p l logical page
  untouched_cur page k =
      let e = newest_else l l' logical names r s page k.1 in
      let has = k.0 in
      same_cur page k.1 (one_test (is_committed (why p l' logical page)) (is_committed (why p l logical page))
      (λ h. (was page k (omega arith, h)).1) (λ h. (stays page k (has, h)).1))

  -- so does a page without records
  pub bare_cur : (page : ℕ) → newest l page ≡ 0 → (page ≡ r.page → ⊥) → cur p l' logical page ≡ cur p l logical page
  bare_cur page none off =
      bare_page p l' logical (step_linked l l' logical names r s linked) page
      (newest_else l l' logical names r s page off ∙ none) ∙
      sym (bare_page p l logical linked page none)

  -- and a page of a present name, where some name stays absent
  pub named_cur : (gone : Link) → Contains names gone → is_present l' gone ≡ false → (a : Link) → Contains names a →
      is_present l a ≡ true →
      (a.page ≡ r.page → ⊥) →
      newest l a.page ≡ a.version → is_present l gone ≡ false → cur p l' logical a.page ≡ cur p l logical a.page
  named_cur gone j absent' a i here off top absent =
      let e = newest_else l l' logical names r s a.page off in
      let positive = (s.underway.range a i).1 in
      same_cur a.page off (one_test (is_committed (why p l' logical a.page)) (is_committed (why p l logical a.page))
      (λ h. absurd (name_uncounted l' logical names (step_underway l l' logical names r s) p
      (step_linked l l' logical names r s linked) gone j absent' a i
      (s.one.kept a here) (omega arith, h)))
      (λ h. absurd (name_uncounted l logical names s.underway p linked gone j absent a i here (omega arith, h))))
