-- How a count over a range changes with one of its tests.
use Rattle.slot_tables.proofs.Common.{◌≡◌, ◌≢◌, ℕ, zero, suc, ◌+◌, ◌<◌, ◌≤◌, Bool, inl, inr, refl, count_by, sym, ◌∙◌, arith, range_with_len, cases_eq, one_of}
use Rattle.list_lemmas.proofs.Counts.{count_first, count_more}

-- tests that agree on a range count the same
pub count_same : (p q : ℕ → Bool) (a n : ℕ) → ((k : ℕ) → a ≤ k → k < a + n → p k ≡ q k)
    → count_by p (range_with_len a n) ≡ count_by q (range_with_len a n)
count_same p q a n same =
    let less = count_more p q a n (λ k low high pass. same k low high ∙ pass) in
    let more = count_more q p a n (λ k low high pass. sym (same k low high) ∙ pass) in
    omega (arith, less, more)

-- tests that agree but at one number of the range count what each adds there
pub count_changed : (p q : ℕ → Bool) (a n at : ℕ) → ((k : ℕ) → k ≢ at → p k ≡ q k) → a ≤ at → at < a + n
    → count_by q (range_with_len a n) + one_of (p at) ≡ count_by p (range_with_len a n) + one_of (q at)
count_changed p q a zero at same low high = absurd (omega arith)
count_changed p q a (suc n) at same low high =
    let first_p = count_first p a n in
    let first_q = count_first q a n in
    elim (cases_eq at a) [
      | inl here ↦
          let rest = count_same p q (a + 1) n (λ k after before. same k (λ e. omega arith)) in
          rw here (omega (arith, first_p, first_q, rest))
      | inr apart ↦
          let rest = count_changed p q (a + 1) n at same (omega arith) (omega arith) in
          let first = same a (λ e. apart (sym e)) in
          let one : one_of (p a) ≡ one_of (q a) = rw first refl in
          omega (arith, first_p, first_q, rest, one)
    ]
