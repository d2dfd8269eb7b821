-- What is so of all items, or of some, in lists that are joined, mapped, or changed at one place.
use Rattle.std.proofs.Common.{◌+◌, List, ◌++◌, All, subst, arith, length, ℕ, suc, ◌-◌, take, drop, [], ◌∷◌, map, ◌≡◌, slice_get, Any, Some, ◌∙◌, ◌⊎◌, sym, inl}
use Rattle.std.proofs.Common.{inr, ◌<◌, get_or, ap, ◌≢◌}
use Rattle.std.specs.Prelude.{remove}
use Rattle.std.proofs.lemmas.Bool.{cases_lt}
use Rattle.std.proofs.lemmas.List.{get_or_append_left, length-append, get_or-append-add, length_push, get_or_push, get_or_default, length-map, get_or-map}
use Rattle.std.proofs.lemmas.List.Edits.{length-remove, get_or-remove_below, get_or-remove_above}
use Rattle.std.proofs.lemmas.List.Elements.{All-append, All-take, All-drop, All-cons, All-head, All-nil, All-tail}
use Rattle.std.proofs.lemmas.Option.{slice_get_within, get_or_from_slice_get}

-- what is so of two lists end to end is so of the first
pub all_left : {X : Type 0} (P : X → Type 0) (xs ys : List X) → All P (xs ++ ys) → All P xs
all_left P xs ys h k d inside = subst P (get_or_append_left xs ys d k inside)
    (h k d (omega (arith, length-append xs ys)))

-- and of the second
pub all_right : {X : Type 0} (P : X → Type 0) (xs ys : List X) → All P (xs ++ ys) → All P ys
all_right P xs ys h k d inside = subst P (get_or-append-add xs ys k d)
    (h (length xs + k) d (omega (arith, length-append xs ys)))

-- and of a list without one
pub all_remove : {X : Type 0} (P : X → Type 0) (xs : List X) (i : ℕ) → All P xs → All P (remove xs i)
all_remove P xs i h = All-append P (take i xs) (drop (suc i) xs) (All-take P i xs h) (All-drop P (suc i) xs h)

-- what is so of all mapped items
pub all_mapped : {X Y : Type 0} (P : X → Type 0) (f : Y → X) (ys : List Y) → All P (map f ys) → All (λ y. P (f y)) ys
all_mapped P f [] h = All-nil (λ y. P (f y))
all_mapped P f (y ∷ ys) h =
    All-cons (λ y. P (f y)) y ys (All-head P (f y) (map f ys) h) (all_mapped P f ys (All-tail P (f y) (map f ys) h))

-- two facts at once
pub all_both : {X : Type 0} (P Q : X → Type 0) (xs : List X) → All P xs → All Q xs → All (λ x. P x × Q x) xs
all_both P Q xs h k = λ i d within. (h i d within, k i d within)

-- what is so of the item at a place is so of some item
pub any_got : {X : Type 0} (P : X → Type 0) (xs : List X) (k : ℕ) (x : X) → slice_get xs k ≡ Some x → P x → Any P xs
any_got P xs k x is h = (k, x, slice_get_within xs k x is, get_or_from_slice_get xs k x x is, h)

-- some item is still there with one more
pub any_before : {X : Type 0} (P : X → Type 0) (xs : List X) (y : X) → Any P xs → Any P (xs ++ y ∷ [])
any_before P xs y any = (
  any.0,
  any.1,
  omega (arith, any.2, length_push xs y),
  get_or_append_left xs (y ∷ []) any.1 any.0 any.2
      ∙ any.3,
  any.4,
)

-- and with one more it was there before, or is that one
pub any_push_cases : {X : Type 0} (P : X → Type 0) (xs : List X) (y : X) → Any P (xs ++ y ∷ []) → Any P xs ⊎ P y
any_push_cases P xs y any = elim (cases_lt any.0 (length xs)) [
  | inl less ↦ inl (any.0, any.1, less, sym (get_or_append_left xs (y ∷ []) any.1 any.0 less) ∙ any.3, any.4)
  | inr past ↦ (
      let last : length xs ≡ any.0 = omega (arith, any.2, length_push xs y) in
      inr (subst P (sym any.3 ∙ get_or_push xs y any.1 any.0 last) any.4))
]

-- what is so of some mapped item
pub any_from_map : {X Y : Type 0} (f : X → Y) (P : Y → Type 0) (xs : List X) (d : X) → Any P (map f xs) →
    Any (λ x. P (f x)) xs
any_from_map f P xs d h =
    let inside : h.0 < length xs = subst (λ n. h.0 < n) (length-map xs f) h.2 in
    let at : f (get_or xs h.0 d) ≡ h.1 = sym (get_or-map f xs h.0 d h.1 inside) ∙ h.3 in
    (h.0, get_or xs h.0 d, inside, get_or_default xs h.0 (get_or xs h.0 d) d inside, subst P (sym at) h.4)

-- and the other way round
pub any_to_map : {X Y : Type 0} (f : X → Y) (P : Y → Type 0) (xs : List X) → Any (λ x. P (f x)) xs → Any P (map f xs)
any_to_map f P xs h =
    (h.0, f h.1, subst (λ n. h.0 < n) (sym (length-map xs f)) h.2, get_or-map f xs h.0 h.1 (f h.1) h.2 ∙ ap f h.3, h.4)

-- what is so of an element beside the removed one
pub any_beside : {X : Type 0} (P : X → Type 0) (xs : List X) (i j : ℕ) (d : X) → i < length xs → j < length xs → j ≢ i →
    P (get_or xs j d) → Any P (remove xs i)
any_beside P xs i j d within inside other h =
    let long = length-remove xs i within in
    elim (cases_lt j i) [
      | inl less ↦ (
        j,
        get_or xs j d,
        omega arith,
        get_or-remove_below xs i (get_or xs j d) j less within
            ∙ get_or_default xs j (get_or xs j d) d inside,
        h,
      )
      | inr past ↦ (
          let k = j - 1 in
          let up : k + 1 ≡ j = omega (arith, other) in (
            k,
            get_or xs j d,
            omega (arith, other, long),
            get_or-remove_above xs i (get_or xs j d) k (omega (arith, other)) within
                ∙ ap (λ a. get_or xs a (get_or xs j d)) up ∙ get_or_default xs j (get_or xs j d) d inside,
            h,
          ))
    ]

-- and the other way round
pub beside_any : {X : Type 0} (P : X → Type 0) (xs : List X) (i : ℕ) (d : X) → i < length xs → Any P (remove xs i) →
    (j : ℕ) × (j < length xs) × (j ≢ i) × P (get_or xs j d)
beside_any P xs i d within h =
    let long = length-remove xs i within in
    let inside = h.2 in
    elim (cases_lt h.0 i) [
      | inl less ↦ (
        h.0,
        omega arith,
        (λ e. absurd (omega arith)),
        subst P (sym h.3 ∙ get_or-remove_below xs i h.1 h.0 less within
            ∙ get_or_default xs h.0 h.1 d (omega arith)) h.4,
      )
      | inr past ↦ (
        h.0 + 1,
        omega arith,
        (λ e. absurd (omega arith)),
        subst P (sym h.3 ∙ get_or-remove_above xs i h.1 h.0 past within
            ∙ get_or_default xs (h.0 + 1) h.1 d (omega arith)) h.4,
      )
    ]
