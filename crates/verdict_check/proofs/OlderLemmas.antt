-- The greatest versions below the newest ones, noted record by record.
use Rattle.verdict_check.proofs.Common.{◌≡◌, ℕ, ◌+◌, ◌<◌, ◌≤◌, List, length, set, sym, ap, ◌∙◌, inl, inr, arith, get_or-set_same, get_or-set_other, cases_eq, nat_tests, Rec, Found, newest, record_at, AreOlder}
use Rattle.std.proofs.Common.{max}
use Rattle.record_list.specs.Records.{version_below}
use Rattle.record_list.proofs.OfFacts.Greatest.{greatest_step}
use Rattle.verdict_check.specs.Older.{version_at}

-- a version below the newest of its page is taken in
pub noted_below : (older : List ℕ) (list : List Found) (r : Rec) (page : ℕ) → r.page < length older →
    r.version < newest list r.page →
    version_at (set older r.page (max (version_at older r.page) r.version)) page
    ≡ max (version_at older page) (version_below page (newest list page) r)
noted_below older list r page within low = elim (cases_eq r.page page) [
  | inl own ↦ (let e = get_or-set_same older r.page (max (version_at older r.page) r.version) 0 within in
      let v : version_below r.page (newest list r.page) r ≡ r.version = grind (arith, nat_tests) in
      rw (← own) (e ∙ ap (λ n. max (version_at older r.page) n) (sym v)))
  | inr other ↦ (let e = get_or-set_other older r.page page (max (version_at older r.page) r.version) 0
      (λ same. other (sym same)) in
      let v : version_below page (newest list page) r ≡ 0 = grind (arith, nat_tests) in
      e ∙ sym (ap (λ n. max (version_at older page) n) v ∙ omega arith))
]

-- the newest version itself is not
pub noted_not : (older : List ℕ) (list : List Found) (r : Rec) (page : ℕ) → newest list r.page ≤ r.version →
    version_at older page ≡ max (version_at older page) (version_below page (newest list page) r)
noted_not older list r page high = elim (cases_eq r.page page) [
  | inl own ↦ (let v : version_below page (newest list page) r ≡ 0 = rw (← own) (grind (arith, nat_tests)) in
      sym (ap (λ n. max (version_at older page) n) v ∙ omega arith))
  | inr other ↦ (let v : version_below page (newest list page) r ≡ 0 = grind (arith, nat_tests) in
      sym (ap (λ n. max (version_at older page) n) v ∙ omega arith))
]

-- with one record more
pub older_more : (list : List Found) (i : ℕ) (before after : List ℕ) → i < length list → AreOlder list i before →
    ((page : ℕ) → version_at after page ≡ max (version_at before page)
    (version_below page (newest list page) (record_at list i))) →
    AreOlder list (i + 1) after
older_more list i before after within was now page =
    now page ∙ ap (λ n. max n (version_below page (newest list page) (record_at list i))) (was page)
    ∙ sym (greatest_step (version_below page (newest list page)) list i within)
