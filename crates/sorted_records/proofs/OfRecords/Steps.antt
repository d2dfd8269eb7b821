-- Steps along the next nodes.
use Rattle.sorted_records.proofs.Common.{◌≡◌, ◌≢◌, ℕ, zero, suc, ◌+◌, ◌<◌, ◌≤◌, ◌⊎◌, Option, Some, None, List, refl, sym, ◌∙◌, subst, inl, inr, arith, next_of, steps, IsEnd, IsRound}
use Rattle.std.proofs.Common.{◌*◌}
use Rattle.std.proofs.Math.Nat.{mul-le-mul_left}

-- an answer is nothing, or some node
pub some_or_none : (o : Option ℕ) → (o ≡ None) ⊎ ((j : ℕ) × (o ≡ Some j))
some_or_none None = inl refl
some_or_none (Some j) = inr (j, refl)

module _ (graph : List (Option ℕ)) where
  pub steps_none : (i : ℕ) → steps graph 0 i ≡ Some i
  unfolding steps
  steps_none i = refl

  pub steps_stop : (k i : ℕ) → next_of graph i ≡ None → steps graph (suc k) i ≡ None
  unfolding steps
  steps_stop k i e = rw (e, steps) refl

  pub steps_more : (k i j : ℕ) → next_of graph i ≡ Some j → steps graph (suc k) i ≡ steps graph k j
  unfolding steps
  steps_more k i j e = rw (e, steps) refl

  -- a node that nothing follows, and one that follows itself
  pub end_alone : (i : ℕ) → next_of graph i ≡ None → IsEnd graph i 0 i
  end_alone i none = record { leads = steps_none i; last = none }

  pub round_alone : (i : ℕ) → next_of graph i ≡ Some i → IsRound graph i 1
  round_alone i next = record {
    some = omega arith;
    back = steps_more 0 i i next ∙ steps_none i;
    first = λ k low high. absurd (omega arith);
  }

  pub steps_add : (a b n i x : ℕ) → n ≡ a + b → steps graph a i ≡ Some x → steps graph n i ≡ steps graph b x
  steps_add zero b n i x sum leads =
      let here = steps_none i in
      let same : i ≡ x = cc in
      let e : n ≡ b = omega arith in
      cc
  steps_add (suc a) b n i x sum leads = elim (some_or_none (next_of graph i)) [
    | inl stop ↦ absurd (let e = steps_stop a i stop in cc)
    | inr (j, next) ↦ (let e = steps_more a i j next in
        let rest = steps_add a b (a + b) j x refl (sym e ∙ leads) in
        let s : n ≡ suc (a + b) = omega arith in
        rw s (steps_more (a + b) i j next ∙ rest))
  ]

  -- where there are fewer steps than this many, there are not more
  pub steps_ended : (a n i : ℕ) → a ≤ n → steps graph a i ≡ None → steps graph n i ≡ None
  steps_ended zero n i low none = absurd (let here = steps_none i in cc)
  steps_ended (suc a) zero i low none = absurd (omega arith)
  steps_ended (suc a) (suc n) i low none = elim (some_or_none (next_of graph i)) [
    | inl stop ↦ steps_stop n i stop
    | inr (j, next) ↦ steps_more n i j next ∙ steps_ended a n j (omega arith) (sym (steps_more a i j next) ∙ none)
  ]

  -- fewer steps lead somewhere
  pub steps_before : (a n i y : ℕ) → a ≤ n → steps graph n i ≡ Some y → (x : ℕ) × (steps graph a i ≡ Some x)
  steps_before a n i y low leads = elim (some_or_none (steps graph a i)) [
    | inl none ↦ absurd (let e = steps_ended a n i low none in cc)
    | inr some ↦ some
  ]

  -- steps do not leave what each next node stays in
  pub steps_stay : (P : ℕ → Type 0) → ((i j : ℕ) → P i → next_of graph i ≡ Some j → P j) →
      (k i y : ℕ) → P i → steps graph k i ≡ Some y → P y
  steps_stay P stays zero i y here leads = let e : i ≡ y = (let z = steps_none i in cc) in subst P e here
  steps_stay P stays (suc k) i y here leads = elim (some_or_none (next_of graph i)) [
    | inl stop ↦ absurd (let e = steps_stop k i stop in cc)
    | inr (j, next) ↦ steps_stay P stays k j y (stays i j here next) (sym (steps_more k i j next) ∙ leads)
  ]

  -- an end is passed by no step
  pub end_stops : (i after at n : ℕ) → IsEnd graph i after at → after < n → steps graph n i ≡ None
  end_stops i after at n end past =
      steps_ended (suc after) n i (omega arith)
      (steps_add after 1 (suc after) i at (omega arith) end.leads ∙ steps_stop 0 at end.last)

  rounds : (i turns : ℕ) → IsRound graph i turns → (q n : ℕ) → n ≡ q * turns → steps graph n i ≡ Some i
  rounds i turns round zero n e = let z : n ≡ 0 = omega arith in rw z (steps_none i)
  rounds i turns round (suc q) n e =
      steps_add turns (q * turns) n i i (omega arith) round.back ∙ rounds i turns round q (q * turns) refl

  -- a round has no end
  pub round_goes_on : (i turns : ℕ) → IsRound graph i turns → (k : ℕ) → steps graph k i ≢ None
  round_goes_on i turns round k none =
      let long : k * 1 ≤ k * turns = mul-le-mul_left k round.some in
      let ended = steps_ended k (k * turns) i (omega arith) none in
      let back = rounds i turns round k (k * turns) refl in
      cc
