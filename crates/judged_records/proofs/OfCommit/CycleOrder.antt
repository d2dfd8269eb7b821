-- The names of a cycle from one of them on, in the order in which they follow each other.
use Rattle.judged_records.proofs.Common.{◌≡◌, ◌≢◌, ℕ, ◌<◌, ◌≤◌, false, eqb, List, [], ◌∷◌, ◌++◌, length, map, zip, Contains, refl, sym, ap, ◌∙◌, subst, inl, inr, ne_eqb, eqb-true, length-map, Contains-get_or, Contains-cases, Contains-first, Contains-nil, Contains-rest, any_of, pairs_head, pairs_tail, Link, Follows, Apart}
use Rattle.std.specs.List.{AllByRecursion, IsDistinct}
use Rattle.std.proofs.lemmas.List.{append_assoc}
use Rattle.std.proofs.lemmas.List.Elements.{Contains-append_left, Contains-push_cases, Contains-push}
use Rattle.std.proofs.lemmas.List.Quantifiers.{all_pairs_push}
use Rattle.std.proofs.lemmas.Map.Steps.{length-le_from_distinct_below}
use Rattle.list_lemmas.proofs.Membership.{in_map, Contains-here}

-- one name more at the end
pairs_push : (y : Link) (ys : List Link) (x end : Link) →
    zip (y ∷ ys ++ x ∷ []) ((ys ++ x ∷ []) ++ end ∷ []) ≡ zip (y ∷ ys) (ys ++ x ∷ []) ++ (x, end) ∷ []
pairs_push y [] x end = refl
pairs_push y (z ∷ zs) x end = ap (λ ps. (y, z) ∷ ps) (pairs_push z zs x end)

-- the first name behind the others
abbrev behind : Link → List Link → List Link
behind x xs = xs ++ x ∷ []

-- names follow each other as before where the first one is put behind the others
turn_on : (x : Link) (xs : List Link) (u v : Link) → Follows (x ∷ xs) u v → Follows (behind x xs) u v
turn_on x [] u v i = i
turn_on x (y ∷ ys) u v i = subst (λ ps. Contains ps (u, v)) (sym (pairs_push y ys x y))
    (elim (Contains-cases (x, y) (zip (y ∷ ys) (ys ++ x ∷ [])) (u, v) i) [
      | inl e ↦ subst (λ p. Contains (zip (y ∷ ys) (ys ++ x ∷ []) ++ (x, y) ∷ []) p) e
          (Contains-push (zip (y ∷ ys) (ys ++ x ∷ [])) (x, y))
      | inr j ↦ Contains-append_left (zip (y ∷ ys) (ys ++ x ∷ [])) ((x, y) ∷ []) (u, v) j
    ])

turn_back : (x : Link) (xs : List Link) (u v : Link) → Follows (behind x xs) u v → Follows (x ∷ xs) u v
turn_back x [] u v i = i
turn_back x (y ∷ ys) u v i = elim (Contains-push_cases (zip (y ∷ ys) (ys ++ x ∷ [])) (x, y) (u, v)
    (subst (λ ps. Contains ps (u, v)) (pairs_push y ys x y) i)) [
      | inl j ↦ Contains-rest (x, y) (zip (y ∷ ys) (ys ++ x ∷ [])) (u, v) j
      | inr e ↦ Contains-here (x, y) (zip (y ∷ ys) (ys ++ x ∷ [])) (u, v) e
    ]

turn_apart : (x : Link) (xs : List Link) → Apart (x ∷ xs) → Apart (behind x xs)
turn_apart x xs all =
    all_pairs_push (λ a b. a.page ≢ b.page) xs x (pairs_tail (λ a b. a.page ≢ b.page) x xs all)
    (λ k d within e. pairs_head (λ a b. a.page ≢ b.page) x xs _ all (Contains-get_or xs k d within) (sym e))

-- names that begin with this one, and follow each other as those do
pub record Turned (names : List Link) (start : Link) : Type 0 where
  pub rest : List Link
  pub onto : (u v : Link) → Follows names u v → Follows (start ∷ rest) u v
  pub back : (u v : Link) → Follows (start ∷ rest) u v → Follows names u v
  pub apart : Apart names → Apart (start ∷ rest)

turned_at : (before : List Link) (start : Link) (after : List Link) → Turned (before ++ start ∷ after) start
turned_at [] start after = record { rest = after; onto = λ u v i. i; back = λ u v i. i; apart = λ a. a }
turned_at (b ∷ bs) start after =
    let whole = bs ++ start ∷ after in
    let shift : behind b whole ≡ bs ++ start ∷ (after ++ b ∷ []) = append_assoc bs (start ∷ after) (b ∷ []) in
    let t = turned_at bs start (after ++ b ∷ []) in
    record {
      rest = t.rest;
      onto = λ u v i. t.onto u v (subst (λ ns. Follows ns u v) shift (turn_on b whole u v i));
      back = λ u v i. turn_back b whole u v (subst (λ ns. Follows ns u v) (sym shift) (t.back u v i));
      apart = λ a. t.apart (subst Apart shift (turn_apart b whole a));
    }

-- where a name stands
record Split (names : List Link) (x : Link) : Type 0 where
  before : List Link
  after : List Link
  is : names ≡ before ++ x ∷ after

split_at : (names : List Link) (x : Link) → Contains names x → Split names x
split_at [] x i = absurd (Contains-nil x i)
split_at (y ∷ ys) x i = elim (Contains-cases y ys x i) [
  | inl e ↦ record { before = []; after = ys; is = ap (λ z. z ∷ ys) e }
  | inr j ↦ (let s = split_at ys x j in record { before = y ∷ s.before; after = s.after; is = ap (λ zs. y ∷ zs) s.is })
]

pub turned : (names : List Link) (start : Link) → Contains names start → Turned names start
turned names start i = let s = split_at names start i in
    subst (λ ns. Turned ns start) (sym s.is) (turned_at s.before start s.after)

-- distinct pages below a number are at most as many
apart_distinct : (names : List Link) → Apart names → IsDistinct eqb (map (λ a. a.page) names)
unfolding IsDistinct
apart_distinct [] all = tt
apart_distinct (x ∷ xs) all = (
  others x xs (λ y i. pairs_head (λ a b. a.page ≢ b.page) x xs y all i),
  apart_distinct xs (pairs_tail (λ a b. a.page ≢ b.page) x xs all),
)
  where
    others : (x : Link) (ys : List Link) → ((y : Link) → Contains ys y → x.page ≢ y.page) →
        AllByRecursion (λ p. eqb x.page p ≡ false) (map (λ a. a.page) ys)
    others x [] h = tt
    others x (y ∷ ys) h = (
      ne_eqb x.page y.page (h y (Contains-first y ys)),
      others x ys (λ z i. h z (Contains-rest y ys z i)),
    )

pub few_names : (names : List Link) (logical : ℕ) → Apart names → ((a : Link) → Contains names a → a.page < logical) →
    length names ≤ logical
few_names names logical all below =
    subst (λ k. k ≤ logical) (length-map names (λ a. a.page))
    (length-le_from_distinct_below (map (λ a. a.page) names) logical (apart_distinct names all) (λ q h.
    let x = any_of (eqb q) (map (λ a. a.page) names) h in
    let a = in_map (λ (b : Link). b.page) names x.0 x.1 in
    subst (λ p. p < logical) (a.2 ∙ sym (eqb-true q x.0 x.2)) (below a.0 a.1)))
