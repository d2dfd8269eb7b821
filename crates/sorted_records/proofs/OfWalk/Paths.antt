-- A path that is followed: a node more, and its last node decided.
use Rattle.sorted_records.proofs.Common.{◌≡◌, ◌≢◌, ℕ, suc, ◌<◌, ◌≤◌, Option, Some, None, List, [], ◌∷◌, ◌++◌, length, get_or, refl, sym, ap, ◌∙◌, subst, inl, inr, arith, cases_eq, cases_lt, length-set, Orbit, Ends, Round, Aside, Seen, New, OnPath, Known, IsGraph, next_of, steps, IsOrbit, seen_at, IsFollowed, IsBehind, ComesAfterPath, StaysSeen}
use Rattle.std.proofs.Common.{◌^◌, set}
use Rattle.std.proofs.lemmas.List.{length_push, get_or_push, get_or_append_left, get_or_past}
use Rattle.sorted_records.specs.Seen.{IsKnown, LeadsToKnown, IsStarted, LeadsNoFurther, orbit_before}
use Rattle.sorted_records.specs.Seen.{MayGrow}
use Rattle.sorted_records.proofs.OfWalk.Noted.{seen_same, seen_other}
use Rattle.sorted_records.proofs.OfWalk.Pigeonhole.{pigeonhole}
use Rattle.sorted_records.proofs.OfRecords.Steps.{steps_none, steps_stay}
use Rattle.sorted_records.proofs.OfWalk.OneOrbit.{orbit_before_is, end_near}

-- a node that was seen is within the list
pub seen_within : (seen : List Seen) (i : ℕ) → seen_at seen i ≢ New → i < length seen
seen_within seen i old = elim (cases_lt i (length seen)) [
  | inl within ↦ within
  | inr past ↦ absurd (old (get_or_past seen i New past))
]

-- a write that makes no node new
pub stays_set : (seen : List Seen) (i : ℕ) (s : Seen) → s ≢ New → i < length seen → StaysSeen seen (set seen i s)
stays_set seen i s other within j old now = elim (cases_eq j i) [
  | inl same ↦ other (sym (seen_same seen i s within) ∙ (rw same at now))
  | inr apart ↦ old (sym (seen_other seen i j s apart) ∙ now)
]

-- as the last of several
pub stays_on : (old seen new : List Seen) (i : ℕ) (s : Seen) → StaysSeen old seen → s ≢ New → i < length seen →
    new ≡ set seen i s → StaysSeen old new
stays_on old seen new i s so_far other within e j was now =
    stays_set seen i s other within j (so_far j was) (rw e at now)

-- the first of a path was seen before what comes after its last
pub started_on : (seen new : List Seen) (start i j k : ℕ) → IsStarted seen start i → i < length seen →
    new ≡ set seen i (OnPath k) → IsStarted new start j
started_on seen new start i j k was within e other now = elim (cases_eq start i) [
  | inl same ↦ (let f = seen_same seen i (OnPath k) within in let g = (rw (same, e) at now) in cc)
  | inr apart ↦ was apart (sym (seen_other seen i start (OnPath k) apart) ∙ (rw e at now))
]

module _ (graph : List (Option ℕ)) where
  -- a path has no more nodes than the graph
  pub path_short : (seen : List Seen) (path : List ℕ) → IsFollowed graph seen path → length path ≤ length graph
  path_short seen path is =
      pigeonhole (λ k. get_or path k 0) (length path) (length graph)
      (λ k low. let within = seen_within seen (get_or path k 0) (λ new. let e = is.noted k low in cc) in
      let s = is.size in omega arith)
      (λ a b less low same.
      let e = is.noted a (omega arith) in let f = is.noted b low in let g = ap (seen_at seen) same in
      let h : a ≡ b = cc in omega arith)

  -- a known node is still known after a write at a node that was not
  known_set : (seen : List Seen) (i j : ℕ) (s : Seen) → ((orbit : Orbit) → seen_at seen i ≢ Known orbit) →
      IsKnown seen j → IsKnown (set seen i s) j
  known_set seen i j s was (orbit, known) = elim (cases_eq j i) [
    | inl same ↦ absurd (was orbit (rw same at known))
    | inr apart ↦ (orbit, seen_other seen i j s apart ∙ known)
  ]

  -- a new node that comes after the last one goes to its end
  pub path_more : (seen : List Seen) (path : List ℕ) (i : ℕ) → IsFollowed graph seen path → seen_at seen i ≡ New →
      i < length seen →
      ComesAfterPath graph path i → IsFollowed graph (set seen i (OnPath (length path))) (path ++ i ∷ [])
  path_more seen path i is new within comes = record {
    size = length-set seen i (OnPath (length path)) ∙ is.size;
    right = λ j orbit known. elim (cases_eq j i) [
      | inl same ↦ absurd (let e = seen_same seen i (OnPath (length path)) within in let g = (rw same at known) in cc)
      | inr apart ↦ is.right j orbit (sym (seen_other seen i j (OnPath (length path)) apart) ∙ known)
    ];
    closed = λ j known k next. let (orbit, e) = known in elim (cases_eq j i) [
      | inl same ↦ absurd (let f = seen_same seen i (OnPath (length path)) within in let g = (rw same at e) in cc)
      | inr apart ↦ known_set seen i k (OnPath (length path)) (λ o was. cc)
          (is.closed j (orbit, sym (seen_other seen i j (OnPath (length path)) apart) ∙ e) k next)
    ];
    noted = noted;
    linked = linked;
    placed = placed;
  }
    where
      n : ℕ
      n = length path

      noted : (k : ℕ) → k < length (path ++ i ∷ []) →
          seen_at (set seen i (OnPath (length path))) (get_or (path ++ i ∷ []) k 0) ≡ OnPath k
      noted k low = elim (cases_lt k (length path)) [
        | inl before ↦ (
            let e = get_or_append_left path (i ∷ []) 0 k before in
            let was = is.noted k before in
            let apart : get_or path k 0 ≢ i = (λ same. let f = ap (seen_at seen) same in cc) in
            rw e (seen_other seen i (get_or path k 0) (OnPath (length path)) apart ∙ was))
        | inr last ↦ (
            let l = length_push path i in
            let here : length path ≡ k = omega arith in
            let e = get_or_push path i 0 k here in
            rw e (seen_same seen i (OnPath (length path)) within ∙ ap OnPath here))
      ]

      linked : (k : ℕ) → suc k < length (path ++ i ∷ []) → next_of graph (get_or (path ++ i ∷ []) k 0)
          ≡ Some (get_or (path ++ i ∷ []) (suc k) 0)
      linked k low =
          let l = length_push path i in
          let e = get_or_append_left path (i ∷ []) 0 k (omega arith) in
          elim (cases_lt (suc k) (length path)) [
            | inl before ↦ (let f = get_or_append_left path (i ∷ []) 0 (suc k) before in rw (e, f) (is.linked k before))
            | inr last ↦ (
                let here : length path ≡ suc k = omega arith in
                let f = get_or_push path i 0 (suc k) here in
                rw (e, f) (comes k (sym here)))
          ]

      placed : (j k : ℕ) → seen_at (set seen i (OnPath (length path))) j ≡ OnPath k → (k < length (path ++ i ∷ []))
          × (get_or (path ++ i ∷ []) k 0 ≡ j)
      placed j k on = let l = length_push path i in elim (cases_eq j i) [
        | inl same ↦ (
            let e = seen_same seen i (OnPath (length path)) within in let g = (rw same at on) in
            let here : length path ≡ k = cc in
            (omega arith, get_or_push path i 0 k here ∙ sym same))
        | inr apart ↦ (
            let was = is.placed j k (sym (seen_other seen i j (OnPath (length path)) apart) ∙ on) in
            (omega arith, get_or_append_left path (i ∷ []) 0 k was.0 ∙ was.1))
      ]

  -- and so it does by other names
  pub path_taken : (seen new : List Seen) (path longer : List ℕ) (i : ℕ) → IsFollowed graph seen path →
      seen_at seen i ≡ New →
      i < length graph → ComesAfterPath graph path i → new ≡ set seen i (OnPath (length path)) → longer ≡ path ++ i ∷ [] →
      IsFollowed graph new longer
  path_taken seen new path longer i is fresh within comes e f =
      rw (e, f) (path_more seen path i is fresh (let s = is.size in omega arith) comes)

  -- what comes after its new last node
  pub comes_after : (path longer : List ℕ) (i j : ℕ) → longer ≡ path ++ i ∷ [] → next_of graph i ≡ Some j →
      ComesAfterPath graph longer j
  comes_after path longer i j e next k here =
      let l = length_push path i in
      let f = ap length e in
      rw (e, get_or_push path i 0 k (let g : length path ≡ k = omega arith in g)) next

  -- a node of it that comes after its last closes a ring
  pub path_closes : (seen : List Seen) (path : List ℕ) (j place : ℕ) → IsFollowed graph seen path →
      seen_at seen j ≡ OnPath place →
      ComesAfterPath graph path j → (place < length path) × ComesAfterPath graph path (get_or path place 0)
  path_closes seen path j place is on comes =
      let at = is.placed j place on in
      (at.0, subst (ComesAfterPath graph path) (sym at.1) comes)

  -- its last node leaves it when its orbit is known, and what comes after it
  pub path_less : (seen : List Seen) (path : List ℕ) (i : ℕ) (orbit : Orbit) → IsFollowed graph seen (path ++ i ∷ []) →
      IsOrbit graph i orbit → LeadsToKnown graph seen i → IsFollowed graph (set seen i (Known orbit)) path
  path_less seen path i orbit is right leads = record {
    size = length-set seen i (Known orbit) ∙ is.size;
    right = λ j o known. elim (cases_eq j i) [
      | inl same ↦ (
          let e = seen_same seen i (Known orbit) within in let g = (rw same at known) in
          let h : orbit ≡ o = cc in
          subst (λ u. IsOrbit graph j u) h (subst (λ u. IsOrbit graph u orbit) (sym same) right))
      | inr apart ↦ is.right j o (sym (seen_other seen i j (Known orbit) apart) ∙ known)
    ];
    closed = λ j known k next. let (o, e) = known in elim (cases_eq j i) [
      | inl same ↦ known_set seen i k (Known orbit) not_known (leads k (rw same at next))
      | inr apart ↦ known_set seen i k (Known orbit) not_known
          (is.closed j (o, sym (seen_other seen i j (Known orbit) apart) ∙ e) k next)
    ];
    noted = λ k low. let e = get_or_append_left path (i ∷ []) 0 k low in
        let was = (rw e at (is.noted k (let l = length_push path i in omega arith))) in
        seen_other seen i (get_or path k 0) (Known orbit) (apart k low was) ∙ was;
    linked = λ k low. let e = get_or_append_left path (i ∷ []) 0 k (omega arith) in
        let f = get_or_append_left path (i ∷ []) 0 (suc k) low in
        rw (e, f) at (is.linked k (let l = length_push path i in omega arith));
    placed = placed;
  }
    where
      last : seen_at seen i ≡ OnPath (length path)
      last = let l = length_push path i in let e = get_or_push path i 0 (length path) refl in
          rw e at (is.noted (length path) (omega arith))

      within : i < length seen
      within = seen_within seen i (λ new. let e = last in cc)

      not_known : (o : Orbit) → seen_at seen i ≢ Known o
      not_known o known = let e = last in cc

      apart : (k : ℕ) → k < length path → seen_at seen (get_or path k 0) ≡ OnPath k → get_or path k 0 ≢ i
      apart k low was same = let e = last in let f = ap (seen_at seen) same in
          let h : k ≡ length path = cc in omega arith

      placed : (j k : ℕ) → seen_at (set seen i (Known orbit)) j ≡ OnPath k → (k < length path) × (get_or path k 0 ≡ j)
      placed j k on = elim (cases_eq j i) [
        | inl same ↦ absurd (let e = seen_same seen i (Known orbit) within in let g = (rw same at on) in cc)
        | inr other ↦ (
            let was = is.placed j k (sym (seen_other seen i j (Known orbit) other) ∙ on) in
            let l = length_push path i in
            elim (cases_lt k (length path)) [
              | inl before ↦ (before, sym (get_or_append_left path (i ∷ []) 0 k before) ∙ was.1)
              | inr here ↦ absurd (
                  let e : length path ≡ k = omega arith in
                  let f = get_or_push path i 0 k e in
                  other (sym was.1 ∙ f))
            ])
      ]

  -- a new node that nothing follows but itself is decided at once
  pub decided_alone : (seen : List Seen) (i : ℕ) (orbit : Orbit) → IsFollowed graph seen [] → seen_at seen i ≡ New →
      i < length seen →
      IsOrbit graph i orbit → LeadsNoFurther graph seen i → IsFollowed graph (set seen i (Known orbit)) []
  decided_alone seen i orbit is fresh within right alone = record {
    size = length-set seen i (Known orbit) ∙ is.size;
    right = λ j o known. elim (cases_eq j i) [
      | inl same ↦ (
          let e = seen_same seen i (Known orbit) within in let g = (rw same at known) in
          let h : orbit ≡ o = cc in
          subst (λ u. IsOrbit graph j u) h (subst (λ u. IsOrbit graph u orbit) (sym same) right))
      | inr apart ↦ is.right j o (sym (seen_other seen i j (Known orbit) apart) ∙ known)
    ];
    closed = λ j known k next. let (o, e) = known in elim (cases_eq j i) [
      | inl same ↦ elim (alone k (rw same at next)) [
        | inl itself ↦ (orbit, rw itself (seen_same seen i (Known orbit) within))
        | inr other ↦ known_set seen i k (Known orbit) (λ o was. cc) other
      ]
      | inr apart ↦ known_set seen i k (Known orbit) (λ o was. cc)
          (is.closed j (o, sym (seen_other seen i j (Known orbit) apart) ∙ e) k next)
    ];
    noted = λ k low. absurd (omega arith);
    linked = λ k low. absurd (omega arith);
    placed = λ j k on. elim (cases_eq j i) [
      | inl same ↦ absurd (let e = seen_same seen i (Known orbit) within in let g = (rw same at on) in cc)
      | inr apart ↦ is.placed j k (sym (seen_other seen i j (Known orbit) apart) ∙ on)
    ];
  }

  -- no steps lead from a known node to one that is not
  pub known_stay : (seen : List Seen) (path : List ℕ) → IsFollowed graph seen path → (k j y : ℕ) → IsKnown seen j →
      steps graph k j ≡ Some y → IsKnown seen y
  known_stay seen path is k j y known leads =
      steps_stay graph (IsKnown seen) (λ a b here next. is.closed a here b next) k j y known leads

  -- the last node of a path is a node
  pub last_within : (seen : List Seen) (path : List ℕ) (i : ℕ) → IsFollowed graph seen (path ++ i ∷ []) →
      i < length seen
  last_within seen path i is =
      let l = length_push path i in
      let e = get_or_push path i 0 (length path) refl in
      let on = (rw e at (is.noted (length path) (omega arith))) in
      seen_within seen i (λ new. cc)

  -- what is known after the last node of a path gives its orbit
  pub last_orbit : (seen : List Seen) (path : List ℕ) (i : ℕ) (behind : Option Orbit) →
      IsFollowed graph seen (path ++ i ∷ []) →
      IsBehind graph seen (path ++ i ∷ []) behind → IsOrbit graph i (orbit_before i behind) × LeadsToKnown graph seen i
  last_orbit seen path i None is behind =
      let l = length_push path i in
      let e = get_or_push path i 0 (length path) refl in
      let stops = (rw e at (behind (length path) (omega arith))) in
      (record { leads = steps_none graph i; last = stops }, λ j next. absurd cc)
  last_orbit seen path i (Some orbit) is (j, comes, known) =
      let l = length_push path i in
      let e = get_or_push path i 0 (length path) refl in
      let next = (rw e at (comes (length path) (omega arith))) in
      let on = (rw e at (is.noted (length path) (omega arith))) in (
        orbit_before_is graph i j orbit next (is.right j orbit known)
            (λ k leads. let (o, f) = known_stay seen (path ++ i ∷ []) is k j i (orbit, known) leads in cc),
        λ k next2. let same : j ≡ k = cc in subst (IsKnown seen) same (orbit, known),
      )

  -- and can be counted one step further
  pub may_grow : (seen : List Seen) (path : List ℕ) (i : ℕ) (behind : Option Orbit) → IsGraph graph →
      length graph < 2 ^ 32 →
      IsFollowed graph seen (path ++ i ∷ []) → IsBehind graph seen (path ++ i ∷ []) behind → MayGrow behind
  may_grow seen path i None graph_is few is behind = tt
  may_grow seen path i (Some (Ends after at)) graph_is few is (j, comes, known) =
      let within = seen_within seen j (λ new. cc) in
      let s = is.size in
      let near = end_near graph graph_is j after at (omega arith) (is.right j (Ends after at) known) in
      omega arith
  may_grow seen path i (Some (Round turns)) graph_is few is behind = tt
  may_grow seen path i (Some Aside) graph_is few is behind = tt

  -- a decided node is what comes after the one before it
  pub behind_decided : (seen : List Seen) (path : List ℕ) (i : ℕ) (orbit : Orbit) →
      IsFollowed graph seen (path ++ i ∷ []) →
      IsBehind graph (set seen i (Known orbit)) path (Some orbit)
  behind_decided seen path i orbit is =
      let l = length_push path i in
      let e = get_or_push path i 0 (length path) refl in
      let on = (rw e at (is.noted (length path) (omega arith))) in
      let within = seen_within seen i (λ new. cc) in (
        i,
        λ k here.
            let a = get_or_append_left path (i ∷ []) 0 k (omega arith) in
            let b = get_or_push path i 0 (suc k) (sym here) in
            (rw (a, b) at (is.linked k (omega arith))),
        seen_same seen i (Known orbit) within,
      )
