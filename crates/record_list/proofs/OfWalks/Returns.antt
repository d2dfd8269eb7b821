-- First returns: names whose links lead back to them, and after how many.
use Rattle.record_list.proofs.Common.{◌≡◌, ◌≢◌, ℕ, zero, suc, ◌+◌, ◌-◌, ◌<◌, ◌≤◌, true, List, length, sym, ap, ◌∙◌, inl, inr, arith, false≢true, cases_Bool, cases_lt, cases_order, Link, Found, is_present, link_of, follow}
use Rattle.record_list.specs.Counts.{IsFirstReturn}
use Rattle.record_list.proofs.OfFacts.Names.{absent_link}
use Rattle.record_list.proofs.OfWalks.Follow.{follow_add, follow_last, stays_absent, meet_on, few_met}

-- a name returns first after one number of links
pub one_return : (l : List Found) (u : Link) (m n : ℕ) → IsFirstReturn l u m → IsFirstReturn l u n → m ≡ n
one_return l u m n a b = elim (cases_order m n) [
  | inl same ↦ same
  | inr (inl less) ↦ absurd (b.first m a.some less a.back)
  | inr (inr more) ↦ absurd (a.first n b.some more b.back)
]

-- and the name that its link leads to after as many
pub next_returns : (l : List Found) (u : Link) (n : ℕ) → IsFirstReturn l u n → IsFirstReturn l (link_of l u) n
next_returns l u n r = record {
  some = r.some;
  back = follow_last l u n ∙ ap (link_of l) r.back;
  first = λ m some less e.
      let at : n + m ≡ suc m + (n - 1) = let positive = r.some in omega arith in
      let one : 1 + (n - 1) ≡ n = let positive = r.some in omega arith in
      r.first m some less (
      sym (ap (λ z. follow l z m) r.back) ∙ sym (follow_add l u n m) ∙ ap (follow l u) at
      ∙ meet_on l u (suc m) 1 (n - 1) e ∙ ap (follow l u) one ∙ r.back);
}

-- so all names that it leads to
pub all_return : (l : List Found) (u : Link) (n i : ℕ) → IsFirstReturn l u n → IsFirstReturn l (follow l u i) n
all_return l u n zero r = r
all_return l u n (suc i) r = all_return l (link_of l u) n i (next_returns l u n r)

-- the name that a present one leads to is present, where it returns
pub next_present : (l : List Found) (u : Link) (n : ℕ) → IsFirstReturn l u n → is_present l u ≡ true →
    is_present l (link_of l u) ≡ true
next_present l u n r here = elim (cases_Bool (is_present l (link_of l u))) [
  | inl yes' ↦ yes'
  | inr gone ↦ absurd (false≢true (sym (stays_absent l u 1 n r.some gone) ∙ ap (is_present l) r.back ∙ here))
]

-- so are all that it leads to
pub all_present : (l : List Found) (u : Link) (n i : ℕ) → IsFirstReturn l u n → is_present l u ≡ true →
    is_present l (follow l u i) ≡ true
all_present l u n zero r here = here
all_present l u n (suc i) r here = all_present l (link_of l u) n i (next_returns l u n r) (next_present l u n r here)

-- names before the first return are distinct
pub round_apart : (l : List Found) (u : Link) (n i j : ℕ) → IsFirstReturn l u n → i < j → j < n →
    follow l u i ≡ follow l u j → ⊥
round_apart l u n i j r less short e =
    let on : i + (j - i) ≡ j = omega arith in
    (all_return l u n i r).first (j - i) (omega arith) (omega arith) (sym (follow_add l u i (j - i))
    ∙ ap (follow l u) on ∙ sym e)

-- a present name returns within as many links as there are records, and an absent one is its own link
pub return_short : (l : List Found) (u : Link) (n : ℕ) → IsFirstReturn l u n → n ≤ length l + 1
return_short l u n r = elim (cases_Bool (is_present l u)) [
  | inl here ↦ (
      let positive = r.some in
      let few : n - 1 < length l = few_met l u (n - 1) (λ k le. all_present l u n k r here)
      (λ i j less le e. round_apart l u n i j r less (omega arith) e) in
      omega arith)
  | inr gone ↦ elim (cases_lt 1 n) [
    | inl more ↦ absurd (r.first 1 (omega arith) more (absent_link l u gone))
    | inr short ↦ omega arith
  ]
]

-- what links lead back to, having led to it after no fewer, returns first
pub first_here : (l : List Found) (u : Link) (n : ℕ) → follow l u (n + 1) ≡ u →
    ((m : ℕ) → 1 ≤ m → m ≤ n → follow l u m ≢ u) → IsFirstReturn l u (n + 1)
first_here l u n back before = record {
  some = omega arith;
  back = back;
  first = λ m some less. before m some (omega arith);
}

-- where no number of links up to one more than there are records leads back, none does
pub no_return : (l : List Found) (u : Link) → ((m : ℕ) → 1 ≤ m → m ≤ length l + 1 → follow l u m ≢ u) → (n : ℕ) →
    IsFirstReturn l u n → ⊥
no_return l u none n r = none n r.some (return_short l u n r) r.back
