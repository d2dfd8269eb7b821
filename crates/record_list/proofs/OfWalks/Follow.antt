-- Links followed from a name: an absent one is not left again, and no more distinct present ones are met than there are
-- records.
use Rattle.record_list.proofs.Common.{◌≡◌, ℕ, zero, suc, ◌+◌, ◌<◌, ◌≤◌, Bool, true, false, ◌||◌, eqb, List, [], ◌∷◌, length, refl, sym, ap, ◌∙◌, subst, inl, inr, arith, if◌then◌else◌, ne_eqb, add-one, ◌-◌, false≢true, cases_Bool, cases_lt, cond-true, cond-false, or_cases, Link, Found, has_name, is_present, link_of, follow}
use Rattle.std.proofs.Common.{add-zero, add-suc}
use Rattle.std.specs.List.{AllByRecursion, IsDistinct}
use Rattle.std.proofs.lemmas.Map.Steps.{length-le_from_distinct_below}
use Rattle.list_lemmas.proofs.Tests.{below_any}
use Rattle.record_list.proofs.OfFacts.Names.{has_name_true, absent_link}

-- the place of the first record with a name
abbrev place : List Found → Link → ℕ
place [] u = 0
place (f ∷ fs) u = if has_name u f.rec then 0 else suc (place fs u)

-- it is in the list where the name is present
place_within : (l : List Found) (u : Link) → is_present l u ≡ true → place l u < length l
place_within [] u h = absurd (false≢true h)
place_within (f ∷ fs) u h = elim (or_cases (has_name u f.rec) (is_present fs u) h) [
  | inl e ↦ (let at = cond-true (has_name u f.rec) 0 (suc (place fs u)) e in omega arith)
  | inr more ↦ (let ih = place_within fs u more in elim (cases_Bool (has_name u f.rec)) [
    | inl e ↦ (let at = cond-true (has_name u f.rec) 0 (suc (place fs u)) e in omega arith)
    | inr e ↦ (let at = cond-false (has_name u f.rec) 0 (suc (place fs u)) e in omega arith)
  ])
]

-- and two present names have two places
place_once : (l : List Found) (u v : Link) → is_present l u ≡ true → is_present l v ≡ true →
    place l u ≡ place l v → u ≡ v
place_once [] u v hu hv e = absurd (false≢true hu)
place_once (f ∷ fs) u v hu hv e = elim (cases_Bool (has_name u f.rec)) [
  | inl a ↦ elim (cases_Bool (has_name v f.rec)) [
    | inl b ↦ sym (has_name_true u f.rec a) ∙ has_name_true v f.rec b
    | inr b ↦ (
        let at = cond-true (has_name u f.rec) 0 (suc (place fs u)) a in
        let other = cond-false (has_name v f.rec) 0 (suc (place fs v)) b in
        absurd (omega arith))
  ]
  | inr a ↦ elim (cases_Bool (has_name v f.rec)) [
    | inl b ↦ (
        let at = cond-false (has_name u f.rec) 0 (suc (place fs u)) a in
        let other = cond-true (has_name v f.rec) 0 (suc (place fs v)) b in
        absurd (omega arith))
    | inr b ↦ (
        let at = cond-false (has_name u f.rec) 0 (suc (place fs u)) a in
        let other = cond-false (has_name v f.rec) 0 (suc (place fs v)) b in
        place_once fs u v (rest (has_name u f.rec) (is_present fs u) a hu)
        (rest (has_name v f.rec) (is_present fs v) b hv) (omega arith))
  ]
]
  where
    rest : (a b : Bool) → a ≡ false → (a || b) ≡ true → b ≡ true
    rest true b e k = absurd (false≢true (sym e))
    rest false b e k = k

-- one link more, taken last
pub follow_last : (l : List Found) (u : Link) (n : ℕ) → follow l u (suc n) ≡ link_of l (follow l u n)
follow_last l u zero = refl
follow_last l u (suc n) = follow_last l (link_of l u) n

-- the link of the name that this many links lead to
pub one_more_link : (l : List Found) (u at : Link) (n : ℕ) → at ≡ follow l u n → link_of l at ≡ follow l u (n + 1)
one_more_link l u at n e = ap (link_of l) e ∙ sym (follow_last l u n) ∙ ap (follow l u) (sym (add-one n))

-- this many links and then this many more
pub follow_add : (l : List Found) (u : Link) (m n : ℕ) → follow l u (m + n) ≡ follow l (follow l u m) n
follow_add l u zero n = let same : 0 + n ≡ n = omega arith in ap (follow l u) same
follow_add l u (suc m) n = let one : suc m + n ≡ suc (m + n) = omega arith in ap (follow l u) one
    ∙ follow_add l (link_of l u) m n

-- an absent name is not left again
pub stays_absent : (l : List Found) (u : Link) (n k : ℕ) → n ≤ k → is_present l (follow l u n) ≡ false →
    is_present l (follow l u k) ≡ false
stays_absent l u zero zero le h = h
stays_absent l u (suc n) zero le h = absurd (omega arith)
stays_absent l u n (suc k) le h =
    let ih = stays_absent l u n k in
    elim (cases_lt k n) [
      | inl at ↦ (let same : n ≡ suc k = omega arith in subst (λ z. is_present l (follow l u z) ≡ false) same h)
      | inr before ↦ (
          let gone = ih before h in
          subst (λ z. is_present l z ≡ false) (sym (follow_last l u k ∙ absent_link l (follow l u k) gone)) gone)
    ]

-- names that meet go on alike
pub meet_on : (l : List Found) (u : Link) (i j k : ℕ) → follow l u i ≡ follow l u j →
    follow l u (i + k) ≡ follow l u (j + k)
meet_on l u i j zero e = ap (follow l u) (add-zero i) ∙ e ∙ ap (follow l u) (sym (add-zero j))
meet_on l u i j (suc k) e =
    let ih = meet_on l u i j k e in
    ap (follow l u) (add-suc i k) ∙ follow_last l u (i + k) ∙ ap (link_of l) ih ∙ sym (follow_last l u (j + k))
    ∙ ap (follow l u) (sym (add-suc j k))

-- where links come back to a name, with all up to there present, none leads to an absent name
pub never_absent : (l : List Found) (u : Link) (i j : ℕ) → i < j → follow l u i ≡ follow l u j →
    ((k : ℕ) → k ≤ j → is_present l (follow l u k) ≡ true) →
    (n k : ℕ) → k ≤ n → is_present l (follow l u k) ≡ true
never_absent l u i j less e here zero k le = here k (omega arith)
never_absent l u i j less e here (suc n) k le =
    let ih = never_absent l u i j less e here n in
    elim (cases_lt j k) [
      | inr at ↦ here k at
      | inl after ↦ (
          let back : is_present l (follow l u (i + (k - j))) ≡ true = ih (i + (k - j)) (omega arith) in
          let k_is : j + (k - j) ≡ k = omega arith in
          subst (λ z. is_present l z ≡ true) (meet_on l u i j (k - j) e ∙ ap (follow l u) k_is) back)
    ]

-- the places of the names up to the n-th
abbrev places : List Found → Link → ℕ → List ℕ
places l u zero = place l u ∷ []
places l u (suc n) = place l (follow l u (suc n)) ∷ places l u n

-- they are one more than the links
places_length : (l : List Found) (u : Link) (n : ℕ) → length (places l u n) ≡ suc n
places_length l u zero = refl
places_length l u (suc n) = ap suc (places_length l u n)

-- what is so of each of these places
along_places : (Q : ℕ → Type 0) (l : List Found) (u : Link) (n : ℕ) → ((k : ℕ) → k ≤ n → Q (place l (follow l u k))) →
    AllByRecursion Q (places l u n)
along_places Q l u zero h = (h zero (omega arith), tt)
along_places Q l u (suc n) h = (h (suc n) (omega arith), along_places Q l u n (λ k le. h k (omega arith)))

module _ (l : List Found) (u : Link) (m : ℕ) (here : (k : ℕ) → k ≤ m → is_present l (follow l u k) ≡ true)
    (apart : (i j : ℕ) → i < j → j ≤ m → follow l u i ≡ follow l u j → ⊥) where
  -- distinct present names have distinct places
  distinct : (n : ℕ) → n ≤ m → IsDistinct eqb (places l u n)
  unfolding IsDistinct
  distinct zero le = (tt, tt)
  distinct (suc n) le = (
    along_places (λ y. eqb (place l (follow l u (suc n))) y ≡ false) l u n
        (λ k lk. ne_eqb (place l (follow l u (suc n))) (place l (follow l u k)) (λ e.
        apart k (suc n) (omega arith) le (sym (place_once l (follow l u (suc n)) (follow l u k) (here (suc n) le)
        (here k (omega arith)) e)))),
    distinct n (omega arith),
  )

  -- so they are no more than there are records
  pub few_met : m < length l
  few_met =
      let n = length l in
      let len = length-le_from_distinct_below (places l u m) n (distinct m (omega arith))
      (λ q h. below_any (places l u m) n q (along_places (λ x. x < n) l u m
      (λ k le. place_within l (follow l u k) (here k le))) h) in
      let e = places_length l u m in
      omega arith
