-- The nodes of a path from the one on that comes after its last are a ring.
use Rattle.sorted_records.proofs.Common.{◌≡◌, ◌≢◌, ℕ, zero, suc, ◌+◌, ◌-◌, ◌<◌, ◌≤◌, ◌⊎◌, Option, Some, List, length, get_or, take, drop, refl, sym, ap, ◌∙◌, subst, inl, inr, arith, cases_lt, Orbit, Round, Seen, New, OnPath, Known, next_of, steps, IsRound, IsOrbit, seen_at, IsFollowed, IsBehind, ComesAfterPath, StaysSeen}
use Rattle.std.proofs.Common.{All}
use Rattle.std.proofs.lemmas.List.{get_or-drop, get_or-take, length-drop, length-take-le}
use Rattle.std.proofs.lemmas.List.Elements.{All-from_get_or}
use Rattle.sorted_records.specs.Seen.{IsKnown, noted}
use Rattle.sorted_records.proofs.OfWalk.Noted.{length-noted, noted_out, noted_in}
use Rattle.sorted_records.proofs.OfRecords.Steps.{steps_none, steps_more, steps_add}
use Rattle.sorted_records.proofs.OfWalk.Paths.{seen_within}

-- a node is on the path at or behind a place, or not
on_path : (s : Seen) (place : ℕ) → ((k : ℕ) → place ≤ k → s ≢ OnPath k) ⊎ ((k : ℕ) × (place ≤ k) × (s ≡ OnPath k))
on_path New place = inl (λ k high e. cc)
on_path (Known orbit) place = inl (λ k high e. cc)
on_path (OnPath n) place = elim (cases_lt n place) [
  | inl low ↦ inl (λ k high e. let same : n ≡ k = cc in omega arith)
  | inr high ↦ inr (n, high, refl)
]

-- all its nodes are nodes of the graph
pub path_within : (graph : List (Option ℕ)) (seen : List Seen) (path : List ℕ) (place : ℕ) →
    IsFollowed graph seen path →
    All (λ i. i < length seen) (drop place path)
path_within graph seen path place is =
    All-from_get_or (λ i. i < length seen) (drop place path) 0
    (λ k low. let l = length-drop place path in
    rw (get_or-drop place path k 0) (seen_within seen (get_or path (place + k) 0)
    (λ new. let e = is.noted (place + k) (omega arith) in cc)))

module _ (graph : List (Option ℕ)) (seen : List Seen) (path : List ℕ) (place : ℕ) (is : IsFollowed graph seen path)
    (low : place < length path) (ring : ComesAfterPath graph path (get_or path place 0)) where
  apart : (a b : ℕ) → a < length path → b < length path → get_or path a 0 ≡ get_or path b 0 → a ≡ b
  apart a b la lb same = let e = is.noted a la in let f = is.noted b lb in let g = ap (seen_at seen) same in cc

  -- steps along the path
  along : (k n i : ℕ) → n ≡ i + k → n < length path → steps graph k (get_or path i 0) ≡ Some (get_or path n 0)
  along zero n i sum within = let e : n ≡ i = omega arith in rw e (steps_none graph (get_or path i 0))
  along (suc k) n i sum within =
      steps_more graph k (get_or path i 0) (get_or path (suc i) 0) (is.linked i (omega arith))
      ∙ along k n (suc i) (omega arith) within

  -- and round
  around : (k n i : ℕ) → i < length path → i + k ≡ length path + n → place + n < length path →
      steps graph k (get_or path i 0) ≡ Some (get_or path (place + n) 0)
  around k n i within sum short =
      let last : ℕ = length path - 1 in
      steps_add graph (last - i) (suc n) k (get_or path i 0) (get_or path last 0) (omega arith)
      (along (last - i) last i (omega arith) (omega arith))
      ∙ steps_more graph n (get_or path last 0) (get_or path place 0) (ring last (omega arith))
      ∙ along n (place + n) place refl short

  is_round : (i : ℕ) → place ≤ i → i < length path → IsRound graph (get_or path i 0) (length path - place)
  is_round i high within = record {
    some = omega arith;
    back =
        let e : place + (i - place) ≡ i = omega arith in
        around (length path - place) (i - place) i within (omega arith) (omega arith)
        ∙ ap (λ n. Some (get_or path n 0)) e;
    first = λ k some few leads. elim (cases_lt (i + k) (length path)) [
      | inl before ↦ (
          let e = along k (i + k) i refl before in
          let same : get_or path (i + k) 0 ≡ get_or path i 0 = cc in
          let f = apart (i + k) i before within same in
          omega arith)
      | inr behind ↦ (
          let e = around k (i + k - length path) i within (omega arith) (omega arith) in
          let same : get_or path (place + (i + k - length path)) 0 ≡ get_or path i 0 = cc in
          let f = apart (place + (i + k - length path)) i (omega arith) within same in
          omega arith)
    ];
  }

  orbit : Orbit
  orbit = Round (length path - place)

  after : List Seen
  after = noted orbit (drop place path) seen

  in_ring : (j k : ℕ) → seen_at seen j ≡ OnPath k → place ≤ k → seen_at after j ≡ Known orbit
  unfolding after
  in_ring j k on high =
      let at = is.placed j k on in
      let l = length-drop place path in
      let sum : place + (k - place) ≡ k = omega arith in
      let here : get_or (drop place path) (k - place) 0 ≡ j = get_or-drop place path (k - place) 0
      ∙ ap (λ n. get_or path n 0) sum ∙ at.1 in
      let within = seen_within seen j (λ new. cc) in
      subst (λ n. seen_at after n ≡ Known orbit) here
      (noted_in orbit (drop place path) seen (k - place) (let few = at.0 in omega arith) (rw here within))

  out_of_ring : (j : ℕ) → ((k : ℕ) → place ≤ k → seen_at seen j ≢ OnPath k) → seen_at after j ≡ seen_at seen j
  unfolding after
  out_of_ring j out =
      noted_out orbit (drop place path) seen j
      (λ k few same.
      let l = length-drop place path in
      let here : get_or path (place + k) 0 ≡ j = sym (get_or-drop place path k 0) ∙ same in
      out (place + k) (omega arith) (sym (ap (seen_at seen) here) ∙ is.noted (place + k) (omega arith)))

  -- a node is in the ring, or stays as it is
  Split : ℕ → Type 0
  Split j = ((seen_at after j ≡ seen_at seen j) × ((k : ℕ) → place ≤ k → seen_at seen j ≢ OnPath k))
      ⊎ ((k : ℕ) × (place ≤ k) × (seen_at seen j ≡ OnPath k) × (seen_at after j ≡ Known orbit))

  split : (j : ℕ) → Split j
  unfolding Split
  split j = elim (on_path (seen_at seen j) place) [
    | inl out ↦ inl (out_of_ring j out, out)
    | inr ring_at ↦ (let (k, high, on) = ring_at in inr (k, high, on, in_ring j k on high))
  ]

  still_known : (j : ℕ) → IsKnown seen j → IsKnown after j
  unfolding Split
  still_known j (o, known) = elim (split j) [
    | inl same ↦ (o, same.0 ∙ known)
    | inr ring_at ↦ (orbit, ring_at.3)
  ]

  right : (j : ℕ) (o : Orbit) → seen_at after j ≡ Known o → IsOrbit graph j o
  unfolding Split orbit
  right j o known = elim (split j) [
    | inl same ↦ is.right j o (sym same.0 ∙ known)
    | inr ring_at ↦ (
        let (k, high, on, now) = ring_at in
        let at = is.placed j k on in
        let e : Round (length path - place) ≡ o = cc in
        subst (IsOrbit graph j) e (subst (λ n. IsRound graph n (length path - place)) at.1 (is_round k high at.0)))
  ]

  closed : (j : ℕ) → IsKnown after j → (n : ℕ) → next_of graph j ≡ Some n → IsKnown after n
  unfolding Split
  closed j (o, known) n next = elim (split j) [
    | inl same ↦ still_known n (is.closed j (o, sym same.0 ∙ known) n next)
    | inr ring_at ↦ (
        let (k, high, on, now) = ring_at in
        let at = is.placed j k on in
        elim (cases_lt (suc k) (length path)) [
          | inl before ↦ (
              let e = is.linked k before in
              let f = ap (next_of graph) at.1 in
              let g : get_or path (suc k) 0 ≡ n = cc in
              (orbit, in_ring n (suc k) (sym (ap (seen_at seen) g) ∙ is.noted (suc k) before) (omega arith)))
          | inr last ↦ (
              let few = at.0 in
              let e = ring k (omega arith) in
              let f = ap (next_of graph) at.1 in
              let g : get_or path place 0 ≡ n = cc in
              (orbit, in_ring n place (sym (ap (seen_at seen) g) ∙ is.noted place low) (omega arith)))
        ])
  ]

  -- the path before the ring is followed, with the orbit of the ring noted
  pub ring_followed : IsFollowed graph (noted (Round (length path - place)) (drop place path) seen) (take place path)
  unfolding Split after orbit
  ring_followed = record {
    size = length-noted orbit (drop place path) seen ∙ is.size;
    right = right;
    closed = closed;
    noted = λ k few. let l = length-take-le place path (omega arith) in
        rw (get_or-take place path k 0 (omega arith))
        (out_of_ring (get_or path k 0) (λ n high on. let e = is.noted k (omega arith) in let f : k ≡ n = cc in
        omega arith) ∙ is.noted k (omega arith));
    linked = λ k few. let l = length-take-le place path (omega arith) in
        rw (get_or-take place path k 0 (omega arith), get_or-take place path (suc k) 0 (omega arith))
        (is.linked k (omega arith));
    placed = λ j k on. let l = length-take-le place path (omega arith) in elim (split j) [
      | inl same ↦ (
          let was = sym same.0 ∙ on in
          let at = is.placed j k was in
          elim (cases_lt k place) [
            | inl few ↦ (omega arith, get_or-take place path k 0 few ∙ at.1)
            | inr high ↦ absurd (same.1 k high was)
          ])
      | inr ring_at ↦ absurd (let now = ring_at.3 in cc)
    ];
  }

  -- and the ring comes after it
  pub ring_behind : IsBehind graph (noted (Round (length path - place)) (drop place path) seen) (take place path)
      (Some (Round (length path - place)))
  unfolding after orbit
  ring_behind = (
    get_or path place 0,
    λ k here. let l = length-take-le place path (omega arith) in
        let e : suc k ≡ place = omega arith in
        rw (get_or-take place path k 0 (omega arith)) (is.linked k (omega arith) ∙ ap (λ n. Some (get_or path n 0)) e),
    in_ring (get_or path place 0) place (is.noted place low) (omega arith),
  )

  pub ring_seen : StaysSeen seen (noted (Round (length path - place)) (drop place path) seen)
  unfolding Split after orbit
  ring_seen j old new = elim (split j) [
    | inl same ↦ old (sym same.0 ∙ new)
    | inr ring_at ↦ (let now = ring_at.3 in cc)
  ]
