-- What a list contains, in std's word: item by item, in a longer list, in one that is filtered, and in one that is
-- mapped.
use Rattle.std.proofs.Common.{◌≡◌, ◌⊎◌, ℕ, zero, suc, ◌<◌, Bool, true, List, [], ◌∷◌, ◌++◌, length, get_or, map, filter, slice_get, Some, All, Any, Contains}
use Rattle.std.proofs.Common.{refl, sym, ap, ◌∙◌, subst, inl, inr, arith}
use Rattle.std.proofs.lemmas.Bool.{cond-true, cond_both}
use Rattle.std.proofs.lemmas.List.{length-map, get_or-map}
use Rattle.std.proofs.lemmas.List.Elements.{All-contains, All-contains_itself, All-filter, filter_passes, Contains-get_or, Contains-append_left}
use Rattle.std.proofs.lemmas.List.Elements.{Contains-append_right, Contains-append_cases}
use Rattle.std.proofs.lemmas.Option.{slice_get_within, get_or_from_slice_get}

-- an empty list contains nothing
pub Contains-nil : {X : Type 0} (x : X) → Contains [] x → ⊥
Contains-nil x c = let within = c.1 in absurd (omega arith)

-- a list contains its first item
pub Contains-first : {X : Type 0} (x : X) (xs : List X) → Contains (x ∷ xs) x
Contains-first x xs = (0, omega arith, refl)

-- and what its rest contains
pub Contains-rest : {X : Type 0} (y : X) (xs : List X) (x : X) → Contains xs x → Contains (y ∷ xs) x
Contains-rest y xs x c = (suc c.0, (let within = c.1 in omega arith), c.2)

-- a list contains an item that its first one is
pub Contains-here : {X : Type 0} (y : X) (xs : List X) (x : X) → y ≡ x → Contains (y ∷ xs) x
Contains-here y xs x same = (0, omega arith, same)

-- an item at a place is the first, or one of the rest
cases_at : {X : Type 0} (y : X) (xs : List X) (x : X) (k : ℕ) → k < length (y ∷ xs) → get_or (y ∷ xs) k x ≡ x →
    (y ≡ x) ⊎ Contains xs x
cases_at y xs x zero within is = inl is
cases_at y xs x (suc k) within is = inr (k, omega arith, is)

-- and nothing else
pub Contains-cases : {X : Type 0} (y : X) (xs : List X) (x : X) → Contains (y ∷ xs) x → (y ≡ x) ⊎ Contains xs x
Contains-cases y xs x c = cases_at y xs x c.0 c.1 c.2

-- a list of one item contains that one alone
pub Contains-one : {X : Type 0} (y x : X) → Contains (y ∷ []) x → y ≡ x
Contains-one y x c = elim (Contains-cases y [] x c) [ inl same ↦ same | inr none ↦ absurd (Contains-nil x none) ]

-- what is so of each item that a list contains is so of all
pub all_from : {X : Type 0} (P : X → Type 0) (xs : List X) → ((x : X) → Contains xs x → P x) → All P xs
all_from P xs h k d within = h (get_or xs k d) (Contains-get_or xs k d within)

-- a list contains what a place of it gives
pub got_within : {X : Type 0} (xs : List X) (k : ℕ) (x : X) → slice_get xs k ≡ Some x → Contains xs x
got_within xs k x is = (k, slice_get_within xs k x is, get_or_from_slice_get xs k x x is)

-- some item, as one that the list contains
pub in_any : {X : Type 0} (P : X → Type 0) (xs : List X) → Any P xs → (x : X) × Contains xs x × P x
in_any P xs h = (h.1, (h.0, h.2, h.3), h.4)

-- and back
pub any_in : {X : Type 0} (P : X → Type 0) (xs : List X) (x : X) → Contains xs x → P x → Any P xs
any_in P xs x c h = (c.0, x, c.1, c.2, h)

-- of a list with one item more, it contains the new one or one of before
pub from_more : {X : Type 0} (before after : List X) (x y : X) → Contains (before ++ x ∷ after) y →
    (x ≡ y) ⊎ Contains (before ++ after) y
from_more before after x y c = elim (Contains-append_cases before (x ∷ after) y c) [
  | inl front ↦ inr (Contains-append_left before after y front)
  | inr rest ↦ elim (Contains-cases x after y rest) [
    | inl same ↦ inl same
    | inr later ↦ inr (Contains-append_right before after y later)
  ]
]

-- and it contains still what it did
pub in_more : {X : Type 0} (before after : List X) (x y : X) → Contains (before ++ after) y →
    Contains (before ++ x ∷ after) y
in_more before after x y c = elim (Contains-append_cases before after y c) [
  | inl front ↦ Contains-append_left before (x ∷ after) y front
  | inr later ↦ Contains-append_right before (x ∷ after) y (Contains-rest x after y later)
]

-- an item that passes a test is among those that pass
pub in_filter : {X : Type 0} (p : X → Bool) (x : X) (xs : List X) → Contains xs x → p x ≡ true →
    Contains (filter p xs) x
in_filter p x [] c h = absurd (Contains-nil x c)
in_filter p x (y ∷ ys) c h = elim (Contains-cases y ys x c) [
  | inl same ↦ subst (λ zs. Contains zs x) (sym (cond-true (p y) (y ∷ filter p ys) (filter p ys) (ap p same ∙ h)))
      (Contains-here y (filter p ys) x same)
  | inr i ↦ (
      let rest = in_filter p x ys i h in
      cond_both (p y) (y ∷ filter p ys) (filter p ys) (λ zs. Contains zs x)
      (λ e. Contains-rest y (filter p ys) x rest) (λ e. rest))
]

-- an item among those that pass is in the list, and passes
pub from_filter : {X : Type 0} (p : X → Bool) (x : X) (xs : List X) → Contains (filter p xs) x →
    Contains xs x × (p x ≡ true)
from_filter p x xs c = (
  All-contains (Contains xs) (filter p xs) x (All-filter p (Contains xs) xs (All-contains_itself xs)) c,
  All-contains (λ y. p y ≡ true) (filter p xs) x (filter_passes p xs) c,
)

-- an item of a mapped list is that of an item
pub in_map : {X Y : Type 0} (f : X → Y) (xs : List X) (y : Y) → Contains (map f xs) y →
    (x : X) × Contains xs x × (f x ≡ y)
in_map f [] y c = absurd (Contains-nil y c)
in_map f (x ∷ xs) y c = elim (Contains-cases (f x) (map f xs) y c) [
  | inl same ↦ (x, Contains-first x xs, same)
  | inr i ↦ (let rest = in_map f xs y i in (rest.0, Contains-rest x xs rest.0 rest.1, rest.2))
]

-- and the other way round
pub map_in : {X Y : Type 0} (f : X → Y) (xs : List X) (x : X) → Contains xs x → Contains (map f xs) (f x)
map_in f xs x c = (c.0, subst (λ n. c.0 < n) (sym (length-map xs f)) c.1, get_or-map f xs c.0 x (f x) c.1 ∙ ap f c.2)
