-- What is known of nodes before any is followed: a node more, and all of them.
use Rattle.sorted_records.proofs.Common.{◌≡◌, ◌≢◌, ℕ, ◌<◌, ◌+◌, ◌⊎◌, ◌==◌, inl, inr, Option, Some, None, List, [], ◌∷◌, ◌++◌, length, get_or, refl, sym, ap, ◌∙◌, subst, arith, cases_lt, cases_eq, cond-true, cond-false, eq-eqb, ne_eqb, Orbit, Ends, Round, Seen, New, OnPath, Known, IsOrbit, next_of, seen_at, IsFollowed, StaysSeen}
use Rattle.std.proofs.lemmas.List.{length_push, get_or_push, get_or_append_left}
use Rattle.sorted_records.specs.Seen.{lone_of, with_new, AreLone}
use Rattle.sorted_records.proofs.OfRecords.Steps.{end_alone, round_alone}
use Rattle.sorted_records.proofs.OfWalk.Paths.{seen_within}

-- a node is new, or is not
is_new : (s : Seen) → (s ≡ New) ⊎ (s ≢ New)
is_new New = inl refl
is_new (OnPath place) = inr (λ e. cc)
is_new (Known orbit) = inr (λ e. cc)

-- the list has nodes that were noted alone
within_more : (s : Seen) (n : ℕ) (others : List ℕ) → ((k : ℕ) → k < length others → get_or others k 0 < n) →
    (k : ℕ) → k < length (with_new s n others) → get_or (with_new s n others) k 0 < n + 1
within_more New n others was k low = let l = length_push others n in elim (cases_lt k (length others)) [
  | inl before ↦ (
      let e = get_or_append_left others (n ∷ []) 0 k before in let w = was k before in
      rw e (omega arith))
  | inr last ↦ (
      let e = get_or_push others n 0 k (let g : length others ≡ k = omega arith in g) in
      rw e (omega arith))
]
within_more (OnPath place) n others was k low = let w = was k low in omega arith
within_more (Known orbit) n others was k low = let w = was k low in omega arith

-- each new node is in the list
listed_more : (s : Seen) (n : ℕ) (seen : List Seen) (others : List ℕ) → length seen ≡ n →
    ((i : ℕ) → i < n → seen_at seen i ≡ New → (k : ℕ) × (k < length others) × (get_or others k 0 ≡ i)) →
    (i : ℕ) → i < n + 1 → seen_at (seen ++ s ∷ []) i ≡ New →
    (k : ℕ) × (k < length (with_new s n others)) × (get_or (with_new s n others) k 0 ≡ i)
listed_more s n seen others size was i low new = elim (cases_lt i n) [
  | inl before ↦ (
      let (k, few, at) = was i before (sym (get_or_append_left seen (s ∷ []) New i (omega arith)) ∙ new) in
      still s k few i at)
  | inr here ↦ (
      let last : length seen ≡ i = omega arith in
      let same : n ≡ i = omega arith in
      rw (← same) (now s (sym (get_or_push seen s New i last) ∙ new)))
]
  where
    still : (s : Seen) (k : ℕ) → k < length others → (i : ℕ) → get_or others k 0 ≡ i →
        (k : ℕ) × (k < length (with_new s n others)) × (get_or (with_new s n others) k 0 ≡ i)
    still New k few i at = let l = length_push others n in
        (k, omega arith, get_or_append_left others (n ∷ []) 0 k few ∙ at)
    still (OnPath place) k few i at = (k, few, at)
    still (Known orbit) k few i at = (k, few, at)

    now : (s : Seen) → s ≡ New →
        (k : ℕ) × (k < length (with_new s n others)) × (get_or (with_new s n others) k 0 ≡ n)
    now New new = let l = length_push others n in
        (length others, omega arith, get_or_push others n 0 (length others) refl)
    now (OnPath place) new = absurd cc
    now (Known orbit) new = absurd cc

module _ (graph : List (Option ℕ)) where
  pub lone_none : AreLone graph 0 [] []
  lone_none = record {
    size = refl;
    each = λ i low. absurd (omega arith);
    within = λ k low. absurd (omega arith);
    listed = λ i low new. absurd (omega arith);
  }

  -- one node more
  pub lone_more : (n : ℕ) (seen : List Seen) (others : List ℕ) (next : Option ℕ) → AreLone graph n seen others →
      next_of graph n ≡ next →
      AreLone graph (n + 1) (seen ++ lone_of next n ∷ []) (with_new (lone_of next n) n others)
  lone_more n seen others next are leads = record {
    size = (let l = length_push seen (lone_of next n) in let e = are.size in omega arith);
    each = λ i low. let size = are.size in elim (cases_lt i n) [
      | inl before ↦ get_or_append_left seen (lone_of next n ∷ []) New i (omega arith) ∙ are.each i before
      | inr here ↦ subst (λ k. seen_at (seen ++ lone_of next n ∷ []) k ≡ lone_of (next_of graph k) k)
          (let same : n ≡ i = omega arith in same)
          (get_or_push seen (lone_of next n) New n size ∙ ap (λ u. lone_of u n) (sym leads))
    ];
    within = within_more (lone_of next n) n others are.within;
    listed = listed_more (lone_of next n) n seen others are.size are.listed;
  }

  -- what is known stays where the graph gets a node more
  pub lone_grown : (n : ℕ) (seen : List Seen) (others : List ℕ) (next : Option ℕ) → length graph ≡ n →
      AreLone graph n seen others → AreLone (graph ++ next ∷ []) n seen others
  lone_grown n seen others next size are = record {
    size = are.size;
    each = λ i low. are.each i low
        ∙ ap (λ u. lone_of u i) (sym (get_or_append_left graph (next ∷ []) None i (omega arith)));
    within = are.within;
    listed = are.listed;
  }

  -- the orbit that is known is right, and leads to no other node
  lone_right : (i : ℕ) (next : Option ℕ) (orbit : Orbit) → next_of graph i ≡ next → lone_of next i ≡ Known orbit →
      IsOrbit graph i orbit × ((j : ℕ) → next_of graph i ≡ Some j → j ≡ i)
  lone_right i None orbit leads known =
      let e : Ends 0 i ≡ orbit = cc in
      (subst (λ o. IsOrbit graph i o) e (end_alone graph i leads), λ j next. absurd cc)
  lone_right i (Some j) orbit leads known = elim (cases_eq j i) [
    | inl same ↦ (
        let is : lone_of (Some j) i ≡ Known (Round 1) = cond-true (j == i) (Known (Round 1)) New (eq-eqb j i same) in
        let e : Round 1 ≡ orbit = cc in (
          subst (λ o. IsOrbit graph i o) e (round_alone graph i (leads ∙ ap Some same)),
          λ k next. let f : j ≡ k = cc in sym f ∙ same,
        ))
    | inr apart ↦ absurd
        (let is : lone_of (Some j) i ≡ New = cond-false (j == i) (Known (Round 1)) New (ne_eqb j i apart) in cc)
  ]

  -- all of them are followed by no path
  pub lone_followed : (seen : List Seen) (others : List ℕ) → AreLone graph (length graph) seen others →
      IsFollowed graph seen []
  lone_followed seen others are = record {
    size = are.size;
    right = λ i orbit known. (at_known i orbit known).0;
    closed = λ i known j next. let (orbit, e) = known in
        let same : j ≡ i = (at_known i orbit e).1 j next in (orbit, rw same e);
    noted = λ k low. absurd (omega arith);
    linked = λ k low. absurd (omega arith);
    placed = λ i k on. absurd (none_on (next_of graph i) i k (sym (at_seen i (λ new. cc)) ∙ on));
  }
    where
      at_seen : (i : ℕ) → seen_at seen i ≢ New → seen_at seen i ≡ lone_of (next_of graph i) i
      at_seen i old = let within = seen_within seen i old in let e = are.size in are.each i (omega arith)

      at_known : (i : ℕ) (orbit : Orbit) → seen_at seen i ≡ Known orbit →
          IsOrbit graph i orbit × ((j : ℕ) → next_of graph i ≡ Some j → j ≡ i)
      at_known i orbit known =
          lone_right i (next_of graph i) orbit refl (sym (at_seen i (λ new. cc)) ∙ known)

      none_on : (next : Option ℕ) (i k : ℕ) → lone_of next i ≢ OnPath k
      none_on None i k on = cc
      none_on (Some j) i k on = elim (cases_eq j i) [
        | inl same ↦ (let is : lone_of (Some j) i ≡ Known (Round 1)
            = cond-true (j == i) (Known (Round 1)) New (eq-eqb j i same) in cc)
        | inr apart ↦ (let is : lone_of (Some j) i ≡ New
            = cond-false (j == i) (Known (Round 1)) New (ne_eqb j i apart) in cc)
      ]

  -- once those that are listed are seen, all are
  pub all_seen : (seen new : List Seen) (others : List ℕ) → AreLone graph (length graph) seen others →
      StaysSeen seen new → ((k : ℕ) → k < length others → seen_at new (get_or others k 0) ≢ New) →
      (i : ℕ) → i < length graph → seen_at new i ≢ New
  all_seen seen new others are stays each i low now = elim (is_new (seen_at seen i)) [
    | inl fresh ↦ (let (k, few, at) = are.listed i low fresh in each k few (rw at now))
    | inr old ↦ stays i old now
  ]
