-- Each node of a graph has one orbit.
use Rattle.sorted_records.proofs.Common.{◌≡◌, ◌≢◌, ℕ, zero, suc, ◌+◌, ◌-◌, ◌<◌, ◌≤◌, ◌⊎◌, Option, Some, None, IfSome, List, length, refl, sym, ap, ◌∙◌, subst, inl, inr, arith, cases_eq, cases_lt, Orbit, Ends, Round, Aside, IsGraph, next_of, steps, IsEnd, IsRound, IsOrbit}
use Rattle.std.specs.Option.{unwrap_or}
use Rattle.std.proofs.lemmas.List.{get_or_past}
use Rattle.std.proofs.lemmas.List.Elements.{All-get_or}
use Rattle.sorted_records.specs.Orbits.{IsAside}
use Rattle.sorted_records.specs.Seen.{orbit_before}
use Rattle.sorted_records.proofs.OfWalk.Pigeonhole.{pigeonhole}
use Rattle.sorted_records.proofs.OfRecords.Steps.{some_or_none, steps_none, steps_more, steps_add, steps_before, steps_stay, end_stops, round_goes_on}

module _ (graph : List (Option ℕ)) where
  -- what follows a node is a node
  pub next_within : IsGraph graph → (i j : ℕ) → next_of graph i ≡ Some j → j < length graph
  next_within is i j next = elim (cases_lt i (length graph)) [
    | inr past ↦ absurd (let e = get_or_past graph i None past in cc)
    | inl within ↦ subst (λ o. IfSome o (λ n. n < length graph)) next
        (All-get_or (λ o. IfSome o (λ n. n < length graph)) graph i None within is)
  ]

  pub steps_within : IsGraph graph → (k i y : ℕ) → i < length graph → steps graph k i ≡ Some y → y < length graph
  steps_within is k i y within leads = steps_stay graph (λ n. n < length graph)
      (λ a b low next. next_within is a b next) k i y within leads

  -- a node whose next ones go on, and do not come to it
  aside : (i j : ℕ) → next_of graph i ≡ Some j → ((k : ℕ) → steps graph k j ≢ None) →
      ((k : ℕ) → steps graph k j ≢ Some i) → IsAside graph i
  aside i j next on never = record { goes_on = goes; never_back = back }
    where
      goes : (k : ℕ) → steps graph k i ≢ None
      goes zero none = let here = steps_none graph i in cc
      goes (suc k) none = on k (sym (steps_more graph k i j next) ∙ none)

      back : (k : ℕ) → 0 < k → steps graph k i ≢ Some i
      back zero some leads = omega arith
      back (suc k) some leads = never k (sym (steps_more graph k i j next) ∙ leads)

  -- the orbit of a node to which what follows it does not come back
  pub orbit_before_is : (i j : ℕ) (orbit : Orbit) → next_of graph i ≡ Some j → IsOrbit graph j orbit →
      ((k : ℕ) → steps graph k j ≢ Some i) → IsOrbit graph i (orbit_before i (Some orbit))
  orbit_before_is i j (Ends after at) next is never = record {
    leads = steps_add graph 1 after (after + 1) i j (omega arith) (steps_more graph 0 i j next ∙ steps_none graph j)
        ∙ is.leads;
    last = is.last;
  }
  orbit_before_is i j (Round turns) next is never = aside i j next (round_goes_on graph j turns is) never
  orbit_before_is i j Aside next is never = aside i j next is.goes_on never

  -- an end is fewer steps away than there are nodes
  pub end_near : IsGraph graph → (i after at : ℕ) → i < length graph → IsEnd graph i after at → after < length graph
  end_near is i after at within end =
      let few = pigeonhole (λ k. unwrap_or (steps graph k i) 0) (suc after) (length graph) below other in omega arith
    where
      below : (k : ℕ) → k < suc after → unwrap_or (steps graph k i) 0 < length graph
      below k low =
          let (x, e) = steps_before graph k after i at (omega arith) end.leads in
          rw e (steps_within is k i x within e)

      other : (a b : ℕ) → a < b → b < suc after → unwrap_or (steps graph b i) 0 ≢ unwrap_or (steps graph a i) 0
      other a b less low same =
          let (x, e) = steps_before graph a after i at (omega arith) end.leads in
          let (y, f) = steps_before graph b after i at (omega arith) end.leads in
          let xy : y ≡ x = (rw (e, f) at same) in
          let rest = sym (steps_add graph b (after - b) after i y (omega arith) f) ∙ end.leads in
          let early = steps_add graph a (after - b) (a + (after - b)) i x refl e
          ∙ ap (steps graph (after - b)) (sym xy) ∙ rest in
          let stopped = end_stops graph i (a + (after - b)) at after record { leads = early; last = end.last }
          (omega arith) in
          let leads = end.leads in
          cc

  -- a round has no more steps than there are nodes
  pub round_near : IsGraph graph → (i turns : ℕ) → i < length graph → IsRound graph i turns → turns ≤ length graph
  round_near is i turns within round = pigeonhole (λ k. unwrap_or (steps graph k i) 0) turns (length graph) below other
    where
      below : (k : ℕ) → k < turns → unwrap_or (steps graph k i) 0 < length graph
      below k low =
          let (x, e) = steps_before graph k turns i i (omega arith) round.back in
          rw e (steps_within is k i x within e)

      other : (a b : ℕ) → a < b → b < turns → unwrap_or (steps graph b i) 0 ≢ unwrap_or (steps graph a i) 0
      other a b less low same =
          let (x, e) = steps_before graph a turns i i (omega arith) round.back in
          let (y, f) = steps_before graph b turns i i (omega arith) round.back in
          let xy : y ≡ x = (rw (e, f) at same) in
          let rest = sym (steps_add graph b (turns - b) turns i y (omega arith) f) ∙ round.back in
          let early = steps_add graph a (turns - b) (a + (turns - b)) i x refl e
          ∙ ap (steps graph (turns - b)) (sym xy) ∙ rest in
          round.first (a + (turns - b)) (omega arith) (omega arith) early

  -- an end is never passed
  not_on : (i after at : ℕ) → IsEnd graph i after at → ((k : ℕ) → steps graph k i ≢ None) → ⊥
  not_on i after at end on = on (suc after) (end_stops graph i after at (suc after) end (omega arith))

  pub one_orbit : (i : ℕ) (o p : Orbit) → IsOrbit graph i o → IsOrbit graph i p → o ≡ p
  one_orbit i (Ends a x) (Ends b y) is other = elim (cases_lt a b) [
    | inl less ↦ absurd (let e = end_stops graph i a x b is less in let f = other.leads in cc)
    | inr more ↦ elim (cases_lt b a) [
      | inl less ↦ absurd (let e = end_stops graph i b y a other less in let f = is.leads in cc)
      | inr same ↦ (let s : a ≡ b = omega arith in let e = is.leads in let f = other.leads in let g : x ≡ y = cc in cc)
    ]
  ]
  one_orbit i (Ends a x) (Round n) is other = absurd (not_on i a x is (round_goes_on graph i n other))
  one_orbit i (Ends a x) Aside is other = absurd (not_on i a x is other.goes_on)
  one_orbit i (Round n) (Ends b y) is other = absurd (not_on i b y other (round_goes_on graph i n is))
  one_orbit i (Round n) (Round m) is other = elim (cases_lt n m) [
    | inl less ↦ absurd (other.first n is.some less is.back)
    | inr more ↦ elim (cases_lt m n) [
      | inl less ↦ absurd (is.first m other.some less other.back)
      | inr same ↦ (let s : n ≡ m = omega arith in ap Round s)
    ]
  ]
  one_orbit i (Round n) Aside is other = absurd (other.never_back n is.some is.back)
  one_orbit i Aside (Ends b y) is other = absurd (not_on i b y other is.goes_on)
  one_orbit i Aside (Round m) is other = absurd (is.never_back m other.some other.back)
  one_orbit i Aside Aside is other = refl

  -- within this many steps there is an end, or there are more
  end_or_on : (i n : ℕ) → ((after : ℕ) × (at : ℕ) × IsEnd graph i after at) ⊎ ((k : ℕ) → k ≤ n → steps graph k i ≢ None)
  end_or_on i zero = inr (λ k low none. let z : k ≡ 0 = omega arith in let here = steps_none graph i in cc)
  end_or_on i (suc n) = elim (end_or_on i n) [
    | inl end ↦ inl end
    | inr on ↦ elim (some_or_none (steps graph (suc n) i)) [
      | inl none ↦ (elim (some_or_none (steps graph n i)) [
        | inl early ↦ absurd (on n (omega arith) early)
        | inr there ↦ (
            let (x, e) = there in
            let f = steps_add graph n 1 (suc n) i x (omega arith) e in
            elim (some_or_none (next_of graph x)) [
              | inl last ↦ inl (n, x, record { leads = e; last = last })
              | inr next ↦ absurd (let (j, g) = next in let h = steps_more graph 0 x j g in
                  let z = steps_none graph j in cc)
            ])
      ])
      | inr more ↦ inr (λ k low none. elim (cases_lt k (suc n)) [
        | inl before ↦ on k (omega arith) none
        | inr last ↦ (let (x, e) = more in let s : k ≡ suc n = omega arith in cc)
      ])
    ]
  ]

  -- within this many steps there is a round, or none lead back
  back_or_not : (i n : ℕ) → ((turns : ℕ) × IsRound graph i turns) ⊎ ((k : ℕ) → 0 < k → k ≤ n → steps graph k i ≢ Some i)
  back_or_not i zero = inr (λ k some low leads. omega arith)
  back_or_not i (suc n) = elim (back_or_not i n) [
    | inl round ↦ inl round
    | inr not ↦ elim (comes_back (steps graph (suc n) i)) [
      | inl back ↦ inl (
        suc n,
        record {
          some = omega arith;
          back = back;
          first = λ k some low. not k some (omega arith);
        },
      )
      | inr other ↦ inr (λ k some low leads. elim (cases_lt k (suc n)) [
        | inl before ↦ not k some (omega arith) leads
        | inr last ↦ (let s : k ≡ suc n = omega arith in other (sym (ap (λ m. steps graph m i) s) ∙ leads))
      ])
    ]
  ]
    where
      comes_back : (o : Option ℕ) → (o ≡ Some i) ⊎ (o ≢ Some i)
      comes_back None = inr (λ e. cc)
      comes_back (Some j) = elim (cases_eq j i) [
        | inl same ↦ inl (ap Some same)
        | inr apart ↦ inr (λ e. apart cc)
      ]

  pub some_orbit : (i : ℕ) → IsGraph graph → i < length graph → (o : Orbit) × IsOrbit graph i o
  some_orbit i is within = elim (end_or_on i (length graph)) [
    | inl end ↦ (let (after, at, e) = end in (Ends after at, e))
    | inr on ↦ elim (back_or_not i (length graph)) [
      | inl round ↦ (let (turns, r) = round in (Round turns, r))
      | inr not ↦ (Aside, record { goes_on = goes on; never_back = never not })
    ]
  ]
    where
      goes : ((k : ℕ) → k ≤ length graph → steps graph k i ≢ None) → (k : ℕ) → steps graph k i ≢ None
      goes on k none = elim (end_or_on i k) [
        | inl end ↦ (
            let (after, at, e) = end in
            let near = end_near is i after at within e in
            on (suc after) (omega arith) (end_stops graph i after at (suc after) e (omega arith)))
        | inr more ↦ more k (omega arith) none
      ]

      never : ((k : ℕ) → 0 < k → k ≤ length graph → steps graph k i ≢ Some i) → (k : ℕ) → 0 < k →
          steps graph k i ≢ Some i
      never not k some leads = elim (back_or_not i k) [
        | inl round ↦ (
            let (turns, r) = round in
            not turns r.some (round_near is i turns within r) r.back)
        | inr more ↦ more k some (omega arith) leads
      ]
