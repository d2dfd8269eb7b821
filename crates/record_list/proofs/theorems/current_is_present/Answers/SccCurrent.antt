-- Under Simple Cyclic Commit no list breaks law 4.
use Rattle.record_list.proofs.Common.{◌≡◌, ℕ, ◌<◌, true, ◌⊎◌, List, sym, subst, inl, inr, arith, cases_Bool, cases_lt, Scc, Found, newest, next_older, is_present, why, is_committed, cur, CurrentIsPresent, current_name}
use Rattle.record_list.proofs.OfFacts.Names.{named, newest_present, older_name}
use Rattle.record_list.proofs.OfFacts.Facts.{cur_committed, cur_uncommitted}

-- a version that is 0 or present, under another spelling
restated : (l : List Found) (logical page v : ℕ) → cur Scc l logical page ≡ v →
    (0 < v → is_present l (named page v) ≡ true) →
    (cur Scc l logical page ≡ 0) ⊎ (is_present l (current_name Scc l logical page) ≡ true)
restated l logical page v is there = elim (cases_lt 0 v) [
  | inl some ↦ inr (subst (λ n. is_present l (named page n) ≡ true) (sym is) (there some))
  | inr none ↦ inl (omega arith)
]

pub scc_current_present : (l : List Found) (logical : ℕ) (f : Found) → CurrentIsPresent Scc l logical f
scc_current_present l logical f _ =
    let page = f.rec.page in
    elim (cases_Bool (is_committed (why Scc l logical page))) [
      | inl committed ↦ restated l logical page (newest l page) (cur_committed Scc l logical page committed)
          (newest_present l page)
      | inr aborted ↦ restated l logical page (next_older l page (newest l page))
          (cur_uncommitted Scc l logical page aborted)
          (λ some. (older_name l page (newest l page) some).0)
    ]
