-- Disjoint lists of places, one for each key, and what each change leaves.
use Rattle.std.specs.Prelude.{◌≡◌, ◌≢◌, ℕ, ◌+◌, ◌<◌, ◌==◌, Option, Some, None, List, [], ◌∷◌, drop, replicate, slice_index_or, slice_set}
use Rattle.std.specs.List.{Contains, AllPairs, insert, remove, position_or_len, slice_get}

-- how many places there are, and of each key its list
pub record LinkedListsState : Type 0 where
  pub places : ℕ
  pub lists : List (List ℕ)

-- the list of a key
abbrev pub list_of : LinkedListsState → ℕ → List ℕ
list_of c key = slice_index_or c.lists key []

-- a place stands in a list
abbrev pub IsListed : LinkedListsState → ℕ → Type 0
IsListed c at = (key : ℕ) × Contains (list_of c key) at

-- each place is below their number, and stands in one list at most, and there once
pub record AreDisjoint (c : LinkedListsState) : Type 0 where
  pub within : (key at : ℕ) → Contains (list_of c key) at → at < c.places
  pub apart : (key other at : ℕ) → Contains (list_of c key) at → Contains (list_of c other) at → key ≡ other
  pub once : (key : ℕ) → AllPairs (λ x y. x ≢ y) (list_of c key)

-- how many places of a list come before one of them
abbrev pub index_in : List ℕ → ℕ → ℕ
index_in xs at = position_or_len (λ x. x == at) xs

-- the place that follows another one in a list
abbrev pub next_in : List ℕ → ℕ → Option ℕ
next_in xs at = slice_get xs (index_in xs at + 1)

-- what is left of a list from a place on: nothing where it is none
abbrev pub rest_from : List ℕ → Option ℕ → List ℕ
rest_from xs None = []
rest_from xs (Some at) = drop (index_in xs at) xs

-- no place is in a list yet
abbrev pub empty_lists : ℕ → ℕ → LinkedListsState
empty_lists keys its_places = record { places = its_places; lists = replicate keys [] }

-- a key has another list
abbrev pub with_list : LinkedListsState → ℕ → List ℕ → LinkedListsState
with_list c key xs = record c { lists = slice_set c.lists key xs }

-- a place stands in front of the list of a key
abbrev pub with_first : LinkedListsState → ℕ → ℕ → LinkedListsState
with_first c key at = with_list c key (at ∷ list_of c key)

-- a place stands behind another one in the list of a key
abbrev pub with_behind : LinkedListsState → ℕ → ℕ → ℕ → LinkedListsState
with_behind c key prev at =
    let xs = list_of c key in with_list c key (insert xs (index_in xs prev + 1) at)

-- a place has left the list of a key
abbrev pub without : LinkedListsState → ℕ → ℕ → LinkedListsState
without c key at =
    let xs = list_of c key in with_list c key (remove xs (index_in xs at))
