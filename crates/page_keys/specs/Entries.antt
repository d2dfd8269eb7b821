-- Entries of a bucket, in ascending order of keys.
use Rattle.std.specs.Prelude.{◌≡◌, ℕ, not, List, [], ◌∷◌, length, Option, None, Some, ◌++◌, drop}
use Rattle.std.specs.List.{AllByRecursion}
use Rattle.std.specs.Ordering.{eq_by_cmp}
use Rattle.std.specs.declared.cmp.Ordering.TheVariants.{Less, Greater}
use Rattle.std.specs.FinMap.Entries as sorted
use Rattle.page_keys.specs.KeyMaps.{Pair, key_order}
use Rattle.page_keys.specs.declared.changes.Change.{Change}

-- entries with another value of a key, or without it
abbrev pub with_pair : List Pair → List ℕ → Option (List ℕ) → List Pair
with_pair pairs key None = sorted.where_key key_order (λ k. not (eq_by_cmp key_order key k)) pairs
with_pair pairs key (Some value) = sorted.put key_order key value pairs

abbrev pub changed : List Pair → List Change → List Pair
changed pairs [] = pairs
changed pairs (c ∷ cs) = changed (with_pair pairs c.key c.value) cs

-- the keys of entries are below a key
abbrev pub AreBelow : List ℕ → List Pair → Type 0
AreBelow key pairs = AllByRecursion (λ e. key_order e.0 key ≡ Less) pairs

-- there are none, or the first one's key is above a key
abbrev pub BeginsAbove : List ℕ → List Pair → Type 0
BeginsAbove key [] = Unit {0}
BeginsAbove key (e ∷ es) = key_order e.0 key ≡ Greater

-- the key stands at this place
pub record IsFoundAt (pairs : List Pair) (key : List ℕ) (at : ℕ) : Type 0 where
  pub front : List Pair
  pub value : List ℕ
  pub behind : List Pair
  pub parts : pairs ≡ front ++ (key, value) ∷ behind
  pub place : length front ≡ at
  pub below : AreBelow key front

-- the key does not stand there, and may be put there
pub record IsGapAt (pairs : List Pair) (key : List ℕ) (at : ℕ) : Type 0 where
  pub front : List Pair
  pub behind : List Pair
  pub parts : pairs ≡ front ++ behind
  pub place : length front ≡ at
  pub below : AreBelow key front
  pub above : BeginsAbove key behind

-- a value is answered by its number of bytes, which are copied to the front of the room
abbrev pub GivesValue : Option (List ℕ) → Option ℕ → List ℕ → List ℕ → Type 0
GivesValue None (Some len) before after = ⊥
GivesValue None None before after = after ≡ before
GivesValue (Some value) None before after = ⊥
GivesValue (Some value) (Some len) before after =
    (len ≡ length value) × (after ≡ value ++ drop len before)
