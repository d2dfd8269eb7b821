-- A cycle of names: what passes from each name to the one that follows it goes round.
use Rattle.record_list.proofs.Common.{◌≡◌, ℕ, ◌≢◌, ◌⊎◌, List, [], ◌∷◌, zip, sym, ap, ◌∙◌, subst, inl, inr, Contains, cases_eq, Contains-cases, Contains-first, Contains-nil, Contains-rest, Link, next_names}
use Rattle.std.proofs.Common.{◌++◌, AllPairs}
use Rattle.list_lemmas.proofs.Membership.{Contains-here, Contains-one}
use Rattle.list_lemmas.proofs.Pairs.{pairs_head, pairs_tail}
use Rattle.record_list.proofs.OfFacts.Names.{same_name}

-- a name of the cycle and the name after it
abbrev pub Follows : List Link → Link → Link → Type 0
Follows names a b = Contains (zip names (next_names names)) (a, b)

-- each name with the next, the last with `end`
abbrev pub chain : Link → List Link → Link → List (Link × Link)
chain x xs end = zip (x ∷ xs) (xs ++ end ∷ [])

-- a name is in the list or not
pub cases_in : (names : List Link) (u : Link) → Contains names u ⊎ (Contains names u → ⊥)
cases_in [] u = inr (Contains-nil u)
cases_in (x ∷ xs) u =
    let rest = cases_in xs u in
    elim (cases_eq x.page u.page) [
      | inl e ↦ elim (cases_eq x.version u.version) [
        | inl f ↦ inl (Contains-here x xs u (same_name x u e f))
        | inr other ↦ elim rest [
          | inl i ↦ inl (Contains-rest x xs u i)
          | inr out ↦ inr (λ i. elim (Contains-cases x xs u i) [
            | inl same ↦ other (ap (λ n. n.version) same)
            | inr j ↦ out j
          ])
        ]
      ]
      | inr other ↦ elim rest [
        | inl i ↦ inl (Contains-rest x xs u i)
        | inr out ↦ inr (λ i. elim (Contains-cases x xs u i) [
          | inl same ↦ other (ap (λ n. n.page) same)
          | inr j ↦ out j
        ])
      ]
    ]

-- each of its names has one after it
chain_of : (x : Link) (xs : List Link) (end a : Link) → Contains (x ∷ xs) a →
    (b : Link) × Contains (chain x xs end) (a, b)
chain_of x [] end a c = (end, Contains-here (x, end) [] (a, end) (ap (λ n. (n, end)) (Contains-one x a c)))
chain_of x (y ∷ ys) end a c = elim (Contains-cases x (y ∷ ys) a c) [
  | inl e ↦ (y, Contains-here (x, y) (chain y ys end) (a, y) (ap (λ n. (n, y)) e))
  | inr i ↦ (let rest = chain_of y ys end a i in (rest.0, Contains-rest (x, y) (chain y ys end) (a, rest.0) rest.1))
]

-- and the one after it is a name or the end
chain_in : (x : Link) (xs : List Link) (end a b : Link) → Contains (chain x xs end) (a, b) → Contains (x ∷ xs) a
    × (Contains xs b ⊎ (b ≡ end))
chain_in x [] end a b c =
    let e : (x, end) ≡ (a, b) = Contains-one (x, end) (a, b) c in
    (Contains-here x [] a (ap (λ n. n.0) e), inr (sym (ap (λ n. n.1) e)))
chain_in x (y ∷ ys) end a b c = elim (Contains-cases (x, y) (chain y ys end) (a, b) c) [
  | inl e ↦ (Contains-here x (y ∷ ys) a (ap (λ n. n.0) e), inl (Contains-here y ys b (ap (λ n. n.1) e)))
  | inr i ↦ (
      let rest = chain_in y ys end a b i in
      (Contains-rest x (y ∷ ys) a rest.0, elim rest.1 [ inl j ↦ inl (Contains-rest y ys b j) | inr e ↦ inr e ]))
]

module _ (P : Link → Type 0) where
  -- forwards: to the end, and from the start
  on_to_end : (x : Link) (xs : List Link) (end : Link) → ((a b : Link) → Contains (chain x xs end) (a, b) → P a → P b) →
      (a : Link) → Contains (x ∷ xs) a →
      P a → P end
  on_to_end x [] end step a c h = step x end (Contains-first (x, end) []) (subst P (sym (Contains-one x a c)) h)
  on_to_end x (y ∷ ys) end step a c h =
      let later : (b d : Link) → Contains (chain y ys end) (b, d) → P b →
      P d = λ b d j. step b d (Contains-rest (x, y) (chain y ys end) (b, d) j) in
      elim (Contains-cases x (y ∷ ys) a c) [
        | inl e ↦ on_to_end y ys end later y (Contains-first y ys)
            (step x y (Contains-first (x, y) (chain y ys end)) (subst P (sym e) h))
        | inr i ↦ on_to_end y ys end later a i h
      ]

  -- from the start to each
  on_from_start : (x : Link) (xs : List Link) (end : Link) →
      ((a b : Link) → Contains (chain x xs end) (a, b) → P a → P b) → P x → (c : Link) →
      Contains (x ∷ xs) c → P c
  on_from_start x [] end step h c k = subst P (Contains-one x c k) h
  on_from_start x (y ∷ ys) end step h c k = elim (Contains-cases x (y ∷ ys) c k) [
    | inl e ↦ subst P e h
    | inr i ↦ on_from_start y ys end (λ a b j. step a b (Contains-rest (x, y) (chain y ys end) (a, b) j))
        (step x y (Contains-first (x, y) (chain y ys end)) h) c i
  ]

  -- backwards: from the end, and to the start
  back_from_end : (x : Link) (xs : List Link) (end : Link) →
      ((a b : Link) → Contains (chain x xs end) (a, b) → P b → P a) → P end → (c : Link) →
      Contains (x ∷ xs) c → P c
  back_from_end x [] end step h c k = subst P (Contains-one x c k) (step x end (Contains-first (x, end) []) h)
  back_from_end x (y ∷ ys) end step h c k =
      let later : (a b : Link) → Contains (chain y ys end) (a, b) → P b →
      P a = λ a b j. step a b (Contains-rest (x, y) (chain y ys end) (a, b) j) in
      elim (Contains-cases x (y ∷ ys) c k) [
        | inl e ↦ subst P e (step x y (Contains-first (x, y) (chain y ys end))
            (back_from_end y ys end later h y (Contains-first y ys)))
        | inr i ↦ back_from_end y ys end later h c i
      ]

  -- from each to the start
  back_to_start : (x : Link) (xs : List Link) (end : Link) →
      ((a b : Link) → Contains (chain x xs end) (a, b) → P b → P a) → (a : Link) → Contains (x ∷ xs) a →
      P a → P x
  back_to_start x [] end step a c h = subst P (sym (Contains-one x a c)) h
  back_to_start x (y ∷ ys) end step a c h = elim (Contains-cases x (y ∷ ys) a c) [
    | inl e ↦ subst P (sym e) h
    | inr i ↦ step x y (Contains-first (x, y) (chain y ys end))
        (back_to_start y ys end (λ b d j. step b d (Contains-rest (x, y) (chain y ys end) (b, d) j)) a i h)
  ]

  -- what passes to the next name, and is so of one, is so of all
  pub round_on : (names : List Link) → ((a b : Link) → Follows names a b → P a → P b) → (a : Link) → Contains names a →
      P a → (c : Link) → Contains names c →
      P c
  round_on [] step a i h c j = absurd (Contains-nil c j)
  round_on (x ∷ xs) step a i h c j = on_from_start x xs x step (on_to_end x xs x step a i h) c j

  -- what passes back from the next name, and is so of one, is so of all
  pub round_back : (names : List Link) → ((a b : Link) → Follows names a b → P b → P a) → (a : Link) →
      Contains names a → P a → (c : Link) → Contains names c →
      P c
  round_back [] step a i h c j = absurd (Contains-nil c j)
  round_back (x ∷ xs) step a i h c j = back_from_end x xs x step (back_to_start x xs x step a i h) c j

-- each name has one after it, which is a name too
pub follows_of : (names : List Link) (a : Link) → Contains names a → (b : Link) × Follows names a b
follows_of [] a i = absurd (Contains-nil a i)
follows_of (x ∷ xs) a i = chain_of x xs x a i

-- a name and the one after it are names of the cycle
pub follows_in : (names : List Link) (a b : Link) → Follows names a b → Contains names a × Contains names b
follows_in [] a b i = absurd (Contains-nil (a, b) i)
follows_in (x ∷ xs) a b i =
    let at = chain_in x xs x a b i in
    (at.0, elim at.1 [ inl j ↦ Contains-rest x xs b j | inr e ↦ Contains-here x xs b (sym e) ])

-- names of distinct pages
abbrev pub Apart : List Link → Type 0
Apart names = AllPairs (λ a b. a.page ≢ b.page) names

-- the first page is none of the others, which are distinct
pub head_apart : (x : Link) (xs : List Link) (y : Link) → Apart (x ∷ xs) → Contains xs y → x.page ≡ y.page → ⊥
head_apart x xs y all i = pairs_head (λ a b. a.page ≢ b.page) x xs y all i

tail_apart : (x : Link) (xs : List Link) → Apart (x ∷ xs) → Apart xs
tail_apart x xs all = pairs_tail (λ a b. a.page ≢ b.page) x xs all

-- two names before one are one
chain_once : (x : Link) (xs : List Link) (end a c b : Link) → Apart (x ∷ xs) →
    ((y : Link) → Contains xs y → y.page ≡ end.page → ⊥) →
    Contains (chain x xs end) (a, b) → Contains (chain x xs end) (c, b) → a ≡ c
chain_once x [] end a c b all off i j =
    let e : (x, end) ≡ (a, b) = Contains-one (x, end) (a, b) i in
    let f : (x, end) ≡ (c, b) = Contains-one (x, end) (c, b) j in
    sym (ap (λ n. n.0) e) ∙ ap (λ n. n.0) f
chain_once x (y ∷ ys) end a c b all off i j = elim (Contains-cases (x, y) (chain y ys end) (a, b) i) [
  | inl e ↦ elim (Contains-cases (x, y) (chain y ys end) (c, b) j) [
    | inl f ↦ sym (ap (λ n. n.0) e) ∙ ap (λ n. n.0) f
    | inr later ↦ absurd (twice c later (ap (λ n. n.1.page) e))
  ]
  | inr i' ↦ elim (Contains-cases (x, y) (chain y ys end) (c, b) j) [
    | inl f ↦ absurd (twice a i' (ap (λ n. n.1.page) f))
    | inr j' ↦ chain_once y ys end a c b (tail_apart x (y ∷ ys) all) (λ z k. off z (Contains-rest y ys z k)) i' j'
  ]
]
  where
    twice : (d : Link) → Contains (chain y ys end) (d, b) → y.page ≡ b.page → ⊥
    twice d k same = elim (chain_in y ys end d b k).1 [
      | inl l ↦ head_apart y ys b (tail_apart x (y ∷ ys) all) l same
      | inr g ↦ off y (Contains-first y ys) (same ∙ ap (λ n. n.page) g)
    ]

-- a name follows one name only
pub follows_once : (names : List Link) (a c b : Link) → Apart names → Follows names a b → Follows names c b → a ≡ c
follows_once [] a c b all i j = absurd (Contains-nil (a, b) i)
follows_once (x ∷ xs) a c b all i j = chain_once x xs x a c b all (λ y k e. head_apart x xs y all k (sym e)) i j

-- a page is one of the names' or none
pub cases_page : (names : List Link) (page : ℕ) → ((a : Link) × Contains names a × (a.page ≡ page))
    ⊎ ((a : Link) → Contains names a → a.page ≡ page → ⊥)
cases_page [] page = inr (λ a i e. Contains-nil a i)
cases_page (x ∷ xs) page = elim (cases_eq x.page page) [
  | inl e ↦ inl (x, Contains-first x xs, e)
  | inr off ↦ elim (cases_page xs page) [
    | inl at ↦ inl (at.0, Contains-rest x xs at.0 at.1, at.2)
    | inr out ↦ inr (λ a i e. elim (Contains-cases x xs a i) [
      | inl same ↦ off (ap (λ n. n.page) same ∙ e)
      | inr j ↦ out a j e
    ])
  ]
]
