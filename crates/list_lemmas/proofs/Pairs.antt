-- Relations along a list, and between two lists.
use Rattle.std.proofs.Common.{◌≡◌, ◌⊎◌, List, get_or, AllPairs, Contains, sym, ap, ◌∙◌, subst, inl, inr, suc, ◌∷◌, arith, zero, ℕ, ◌<◌, length, map, [], subst₂}
use Rattle.std.proofs.Common.{slice_get, Some, ◌++◌, refl}
use Rattle.std.specs.List.{AllZip}
use Rattle.std.proofs.lemmas.Bool.{cases_order}
use Rattle.std.proofs.lemmas.List.{get_or_default, length-map, get_or-map}
use Rattle.std.proofs.lemmas.List.Kept.{AllPairs-cons}
use Rattle.std.proofs.lemmas.Option.{none-some, same_Some}
use Rattle.list_lemmas.proofs.Membership.{all_from}

-- of two items in a list with a relation along it, one comes first or they are one
pub in_order : {X : Type 0} (R : X → X → Type 0) (xs : List X) (x y : X) → AllPairs R xs → Contains xs x →
    Contains xs y → (x ≡ y) ⊎ (R x y ⊎ R y x)
in_order R xs x y all a b =
    elim (cases_order a.0 b.0) [
      | inl e ↦ inl (sym a.2 ∙ get_or_default xs a.0 x y a.1 ∙ ap (λ k. get_or xs k y) e ∙ b.2)
      | inr (inl less) ↦ inr
          (inl (subst (λ z. R z y) a.2 (subst (λ z. R (get_or xs a.0 x) z) (get_or_default xs b.0 x y b.1 ∙ b.2)
          (all a.0 b.0 x less b.1))))
      | inr (inr more) ↦ inr
          (inr (subst (λ z. R z x) b.2 (subst (λ z. R (get_or xs b.0 y) z) (get_or_default xs a.0 y x a.1 ∙ a.2)
          (all b.0 a.0 y more a.1))))
    ]

-- a relation along a list: from its first item to each other one, and along the rest
pub pairs_head : {X : Type 0} (R : X → X → Type 0) (x : X) (xs : List X) (y : X) → AllPairs R (x ∷ xs) →
    Contains xs y → R x y
pairs_head R x xs y all c =
    subst (R x) c.2 (all 0 (suc c.0) y (omega arith) (let within = c.1 in omega arith))

-- and along the rest
pub pairs_tail : {X : Type 0} (R : X → X → Type 0) (x : X) (xs : List X) → AllPairs R (x ∷ xs) → AllPairs R xs
pairs_tail R x xs all = λ i j d less le. all (suc i) (suc j) d (omega arith) (omega arith)

-- and back
pub pairs_cons : {X : Type 0} (R : X → X → Type 0) (x : X) (xs : List X) → ((y : X) → Contains xs y → R x y) →
    AllPairs R xs → AllPairs R (x ∷ xs)
pairs_cons R x xs first all = AllPairs-cons R x xs (all_from (R x) xs first) all

-- what is so of two items of an ascending list, the one below the other, is so of any two
pub of_any_two : {X : Type 0} (at : X → ℕ) (l : List X) → AllPairs (λ x y. at x < at y) l → (P : X → X → Type 0) →
    ((x y : X) → P x y → P y x) → ((x : X) → P x x) →
    ((x y : X) → Contains l x → Contains l y → at y < at x → P x y) →
    (x y : X) → Contains l x → Contains l y → P x y
of_any_two at l up P turn self below x y i j = elim (in_order (λ a b. at a < at b) l x y up i j) [
  | inl e ↦ subst (P x) e (self x)
  | inr (inl less) ↦ turn y x (below y x j i less)
  | inr (inr more) ↦ below x y i j more
]

-- a relation along a mapped list
pub pairs_from : {X Y : Type 0} (f : X → Y) (R : Y → Y → Type 0) (xs : List X) → AllPairs R (map f xs) →
    AllPairs (λ a b. R (f a) (f b)) xs
pairs_from f R xs h i j d less within =
    let first : i < length xs = omega arith in
    let both = h i j (f d) less (subst (λ n. j < n) (sym (length-map xs f)) within) in
    subst (λ a. R a (f (get_or xs j d))) (get_or-map f xs i d (f d) first)
    (subst (λ b. R (get_or (map f xs) i (f d)) b) (get_or-map f xs j d (f d) within) both)

-- and the other way round
pub pairs_to : {X Y : Type 0} (f : X → Y) (R : Y → Y → Type 0) (xs : List X) → AllPairs (λ x y. R (f x) (f y)) xs →
    AllPairs R (map f xs)
pairs_to f R [] h i j d lt within = absurd (omega arith)
pairs_to f R (x ∷ xs) h i j d lt within =
    let long = length-map (x ∷ xs) f in
    subst₂ R (sym (get_or-map f (x ∷ xs) i x d (omega arith))) (sym (get_or-map f (x ∷ xs) j x d (omega arith)))
    (h i j x lt (omega arith))

-- what is so of each pair of two lists is so of the pair at a place
pub zip_at : {A B : Type 0} (R : A → B → Type 0) (xs : List A) (ys : List B) (k : ℕ) (x : A) (y : B) → AllZip R xs ys →
    slice_get xs k ≡ Some x →
    slice_get ys k ≡ Some y → R x y
zip_at R [] ys k x y h is_x is_y = absurd (none-some x is_x)
zip_at R (v ∷ vs) [] k x y h is_x is_y = absurd (none-some y is_y)
zip_at {A} {B} R (v ∷ vs) (w ∷ ws) zero x y h is_x is_y = subst (λ (z : A). R z y) (same_Some v x is_x)
    (subst (λ (z : B). R v z) (same_Some w y is_y) h.0)
zip_at R (v ∷ vs) (w ∷ ws) (suc k) x y h is_x is_y = zip_at R vs ws k x y h.1 is_x is_y

-- what is so of each pair follows from another thing that is
pub zip_weaker : {A B : Type 0} (R S : A → B → Type 0) → ((x : A) (y : B) → R x y → S x y) →
    (xs : List A) (ys : List B) → AllZip R xs ys → AllZip S xs ys
zip_weaker R S h [] [] all = tt
zip_weaker R S h [] (y ∷ ys) all = all
zip_weaker R S h (x ∷ xs) [] all = all
zip_weaker R S h (x ∷ xs) (y ∷ ys) all = (h x y all.0, zip_weaker R S h xs ys all.1)

-- one pair more, of items of two types
pub zip_push : {A B : Type 0} (R : A → B → Type 0) (xs : List A) (ys : List B) (x : A) (y : B) → AllZip R xs ys →
    R x y → AllZip R (xs ++ x ∷ []) (ys ++ y ∷ [])
zip_push R [] [] x y all new = (new, tt)
zip_push R [] (b ∷ bs) x y all new = absurd all
zip_push R (a ∷ rest) [] x y all new = absurd all
zip_push R (a ∷ rest) (b ∷ bs) x y all new = (all.0, zip_push R rest bs x y all.1 new)

-- pairs for a front and a back
pub record Fronts {X Y : Type 0} (R : X → Y → Type 0) (xs more : List X) (ys : List Y) : Type 0 where
  pub front : List Y
  pub back : List Y
  pub whole : ys ≡ front ++ back
  pub fronts : AllZip R xs front
  pub backs : AllZip R more back

-- pairs for a list of two parts have two parts
pub zip_front : {X Y : Type 0} (R : X → Y → Type 0) (xs more : List X) (ys : List Y) → AllZip R (xs ++ more) ys →
    Fronts R xs more ys
zip_front R [] more ys all = record { front = []; back = ys; whole = refl; fronts = tt; backs = all }
zip_front R (x ∷ xs) more [] all = absurd all
zip_front R (x ∷ xs) more (y ∷ ys) all =
    let rest = zip_front R xs more ys all.1 in
    record {
      front = y ∷ rest.front;
      back = rest.back;
      whole = ap (λ zs. y ∷ zs) rest.whole;
      fronts = (all.0, rest.fronts);
      backs = rest.backs;
    }

-- where each element has one partner, a list has one list of partners
pub zip_same : {X Y : Type 0} (R : X → Y → Type 0) → ((x : X) (y z : Y) → R x y → R x z → y ≡ z) →
    (xs : List X) (ys zs : List Y) → AllZip R xs ys →
    AllZip R xs zs → ys ≡ zs
zip_same R one [] [] [] a b = refl
zip_same R one [] [] (z ∷ zs) a b = absurd b
zip_same R one [] (y ∷ ys) zs a b = absurd a
zip_same R one (x ∷ xs) [] zs a b = absurd a
zip_same R one (x ∷ xs) (y ∷ ys) [] a b = absurd b
zip_same R one (x ∷ xs) (y ∷ ys) (z ∷ zs) a b =
    let first = one x y z a.0 b.0 in
    let rest = zip_same R one xs ys zs a.1 b.1 in
    cc
