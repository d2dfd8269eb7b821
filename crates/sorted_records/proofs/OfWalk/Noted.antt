-- What is known of each node after the orbit of some is noted.
use Rattle.sorted_records.proofs.Common.{◌≡◌, ◌≢◌, ℕ, zero, suc, ◌<◌, List, [], ◌∷◌, length, get_or, refl, sym, ◌∙◌, inl, inr, arith, cases_eq, length-set, Orbit, Seen, New, Known, seen_at}
use Rattle.std.proofs.Common.{set, get_or-set_same}
use Rattle.std.proofs.Common.{get_or-set_other}
use Rattle.sorted_records.specs.Seen.{noted}

pub seen_same : (seen : List Seen) (i : ℕ) (s : Seen) → i < length seen → seen_at (set seen i s) i ≡ s
seen_same seen i s within = get_or-set_same seen i s New within

pub seen_other : (seen : List Seen) (i j : ℕ) (s : Seen) → j ≢ i → seen_at (set seen i s) j ≡ seen_at seen j
seen_other seen i j s other = get_or-set_other seen i j s New other

module _ (orbit : Orbit) where
  pub length-noted : (nodes : List ℕ) (seen : List Seen) → length (noted orbit nodes seen) ≡ length seen
  unfolding noted
  length-noted [] seen = refl
  length-noted (i ∷ nodes) seen = length-noted nodes (set seen i (Known orbit)) ∙ length-set seen i (Known orbit)

  -- a node that is not among them stays as it is
  pub noted_out : (nodes : List ℕ) (seen : List Seen) (j : ℕ) → ((k : ℕ) → k < length nodes → get_or nodes k 0 ≢ j) →
      seen_at (noted orbit nodes seen) j ≡ seen_at seen j
  unfolding noted
  noted_out [] seen j out = refl
  noted_out (i ∷ nodes) seen j out =
      noted_out nodes (set seen i (Known orbit)) j (λ k h. out (suc k) (omega arith))
      ∙ seen_other seen i j (Known orbit) (λ e. out 0 (omega arith) (sym e))

  -- a node with this orbit keeps it
  noted_stays : (nodes : List ℕ) (seen : List Seen) (j : ℕ) → j < length seen → seen_at seen j ≡ Known orbit →
      seen_at (noted orbit nodes seen) j ≡ Known orbit
  unfolding noted
  noted_stays [] seen j within known = known
  noted_stays (i ∷ nodes) seen j within known =
      noted_stays nodes (set seen i (Known orbit)) j (let e = length-set seen i (Known orbit) in omega arith)
      (elim (cases_eq j i) [
        | inl same ↦ (let e = seen_same seen j (Known orbit) within in rw (← same) e)
        | inr other ↦ seen_other seen i j (Known orbit) other ∙ known
      ])

  -- one that is among them has it
  pub noted_in : (nodes : List ℕ) (seen : List Seen) (k : ℕ) → k < length nodes → get_or nodes k 0 < length seen →
      seen_at (noted orbit nodes seen) (get_or nodes k 0) ≡ Known orbit
  unfolding noted
  noted_in [] seen k low within = absurd (omega arith)
  noted_in (i ∷ nodes) seen zero low within =
      noted_stays nodes (set seen i (Known orbit)) i (let e = length-set seen i (Known orbit) in omega arith)
      (seen_same seen i (Known orbit) within)
  noted_in (i ∷ nodes) seen (suc k) low within =
      noted_in nodes (set seen i (Known orbit)) k (omega arith) (let e = length-set seen i (Known orbit) in omega arith)
