-- Current versions in a sound list.
use Rattle.record_list.proofs.Common.{◌≡◌, ℕ, ◌<◌, ◌≤◌, true, false, eqb, ◌⊎◌, List, refl, sym, ◌∙◌, subst, inl, inr, arith, suc, eq-eqb, le-ltb, cases_Bool, cases_lt, cases_eq, cond-true, cond-false, and_from, Link, Protocol, Scc, Found, newest, is_present, is_same, newest_name, link_of, why_below_newest, is_ahead, is_behind, walk, why, is_committed, cur, fallback, current_name}
use Rattle.record_list.proofs.OfFacts.Names.{absent_link, newest_bound, newest_present, older_bound}
use Rattle.record_list.proofs.OfFacts.Safe.{top_link, IsLinked, Counts, counts_from, turn_closes}
use Rattle.record_list.proofs.OfFacts.SoundNames.{IsSoundMap}

-- the current version of a page whose newest record is committed, and of one whose newest is not
pub cur_committed : (p : Protocol) (l : List Found) (logical page : ℕ) → is_committed (why p l logical page) ≡ true →
    cur p l logical page ≡ newest l page
cur_committed p l logical page h = cond-true (is_committed (why p l logical page)) (newest l page) (fallback p l page) h

-- where the newest is not committed it is what the protocol falls back to
pub cur_uncommitted : (p : Protocol) (l : List Found) (logical page : ℕ) → is_committed (why p l logical page) ≡ false →
    cur p l logical page ≡ fallback p l page
cur_uncommitted p l logical page h = cond-false (is_committed (why p l logical page)) (newest l page)
    (fallback p l page) h

-- a page without records has no current version
pub bare_page : (p : Protocol) (l : List Found) (logical : ℕ) → IsLinked l logical → (page : ℕ) → newest l page ≡ 0 →
    cur p l logical page ≡ 0
bare_page p l logical linked page none =
    let n = newest_name l page in
    let absent : is_present l n ≡ false = elim (cases_Bool (is_present l n)) [
      | inl here ↦ (let positive = (linked.versions n here).0 in absurd (omega arith))
      | inr gone ↦ gone
    ] in
    let closes = turn_closes (is_ahead l n) (is_behind l n) (is_same n n) (why_below_newest p l n)
    (walk p l n logical (link_of l n))
    (le-ltb (newest l page) (newest l page) (omega arith)) (le-ltb (newest l page) (newest l page) (omega arith))
    (and_from (eqb page page) (eqb (newest l page) (newest l page)) (eq-eqb page page refl)
    (eq-eqb (newest l page) (newest l page) refl)) in
    cur_committed p l logical page (subst (λ q. is_committed (walk p l n (suc logical) q) ≡ true)
    (sym (absent_link l n absent)) closes) ∙ none

module _ (p : Protocol) (l : List Found) (logical : ℕ) (m : IsSoundMap p l logical) where
  -- the current version of a page is 0 or present
  pub cur_present : (page : ℕ) → (cur p l logical page ≡ 0) ⊎ (is_present l (current_name p l logical page) ≡ true)
  cur_present page = elim (cases_eq (newest l page) 0) [
    | inl none ↦ inl (bare_page p l logical m.linked page none)
    | inr some ↦ m.present page (omega arith)
  ]

  -- and at most the newest
  pub cur_le : (page : ℕ) → cur p l logical page ≤ newest l page
  cur_le page = elim (cur_present page) [
    | inl none ↦ omega arith
    | inr here ↦ newest_bound l (current_name p l logical page) here
  ]

  -- a newest record that is current is committed
  pub current_counts : (page : ℕ) → 0 < newest l page → cur p l logical page ≡ newest l page → Counts p l logical page
  current_counts page has at =
      counts_from p l logical m.linked (λ q. (0 < newest l q) × (cur p l logical q ≡ newest l q)) (record {
        written = λ q x. x.0;
        goes = λ q x.
            let here = newest_present l q x.0 in
            let law = m.counted (newest_name l q) here (sym x.1) in
            let positive = (m.linked.versions (newest_name l q) here).1 in
            let link = top_link l q in
            let bound = cur_le link.page in
            elim (cases_lt link.version (newest l link.page)) [
              | inl behind ↦ inl (behind, law.1)
              | inr at_newest ↦ (let same : link.version ≡ newest l link.page = omega arith in
                  inr (same, (omega arith, omega arith)))
            ];
      }) page (has, at)

-- under Simple Cyclic Commit the only loose version of a page is its newest
pub scc_loose : (l : List Found) (logical : ℕ) (u : Link) → is_present l u ≡ true →
    cur Scc l logical u.page < u.version →
    (u.version ≡ newest l u.page) × (is_committed (why Scc l logical u.page) ≡ false)
scc_loose l logical u here at =
    let bound = newest_bound l u here in
    elim (cases_Bool (is_committed (why Scc l logical u.page))) [
      | inl yes' ↦ (let e = cur_committed Scc l logical u.page yes' in absurd (omega arith))
      | inr not' ↦ (
          let e = cur_uncommitted Scc l logical u.page not' in
          elim (cases_lt u.version (newest l u.page)) [
            | inl below ↦ (let older = older_bound l u (newest l u.page) here below in absurd (omega arith))
            | inr newest' ↦ (omega arith, not')
          ])
    ]
