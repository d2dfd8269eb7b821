-- How the lists stand in the fields of `LinkedLists`.
use Rattle.std.specs.Prelude.{◌≡◌, ℕ, zero, suc, ◌+◌, ◌<◌, ◌≤◌, ◌^◌, nat_lt, cond, List, [], ◌∷◌, length, drop, map, slice_index, slice_index_or}
use Rattle.dense_tables.specs.LinkedLists.{LinkedListsState}
use Rattle.dense_tables.specs.declared.linked_lists.LinkedLists.TheInside.{Inside}

-- the places that follow one another from a number on, as long as it is a place, and at most this many of them
unfoldable pub path : List ℕ → ℕ → ℕ → ℕ → List ℕ
path next places zero at = []
path next places (suc fuel) at = cond (nat_lt at places) (at ∷ path next places fuel (slice_index next at)) []

-- of each key the places that follow one another from its first one on
unfoldable pub paths : List ℕ → ℕ → List (List ℕ)
paths next places = map (path next places places) (drop places next)

-- the list of a root is linked both ways: `next` has behind the root the first place, behind each place the next one,
-- and behind the last one the number of places, and `before` has the way back
pub record IsLinked (next before : List ℕ) (root : ℕ) (xs : List ℕ) : Type 0 where
  pub within : (k : ℕ) → k < length xs → slice_index xs k < length before
  pub forth : (k : ℕ) → k ≤ length xs →
      slice_index next (slice_index (root ∷ xs) k) ≡ slice_index_or xs k (length before)
  pub back : (k : ℕ) → k < length xs → slice_index before (slice_index xs k) ≡ slice_index (root ∷ xs) k

-- the list of each key is linked, and the root of a key is the number of places plus the key
pub record AreLinked (next before : List ℕ) (lists : List (List ℕ)) : Type 0 where
  pub count : length next ≡ length before + length lists
  pub small : length next < 2 ^ 32
  pub each : (key : ℕ) → key < length lists → IsLinked next before (length before + key) (slice_index_or lists key [])

-- what the fields stand for
abbrev pub linked_lists_of : Inside → LinkedListsState
linked_lists_of c = record { places = length c.before.items; lists = paths c.next.items (length c.before.items) }

-- it is linked
abbrev pub LinkedListsInvariant : Inside → Type 0
LinkedListsInvariant c = AreLinked c.next.items c.before.items (paths c.next.items (length c.before.items))
