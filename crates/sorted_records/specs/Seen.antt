-- What is known of the nodes of a graph while their orbits are looked for.
use Rattle.std.specs.Prelude.{◌≡◌, ◌≢◌, ℕ, ◌==◌, if◌then◌else◌, ◌++◌, suc, ◌<◌, ◌+◌, ◌^◌, ◌⊎◌, Option, Some, None, List, [], ◌∷◌, length, slice_index_or, slice_set}
use Rattle.sorted_records.specs.declared.orbit.Orbit.{Orbit}
use Rattle.sorted_records.specs.declared.orbit.Orbit.TheVariants.{Ends, Round, Aside}
use Rattle.sorted_records.specs.declared.seen.Seen.{Seen}
use Rattle.sorted_records.specs.declared.seen.Seen.TheVariants.{New, OnPath, Known}
use Rattle.sorted_records.specs.declared.path_end.PathEnd.{PathEnd}
use Rattle.sorted_records.specs.declared.path_end.PathEnd.TheVariants.{Stops, Reaches, Closes}
use Rattle.sorted_records.specs.Orbits.{next_of, IsOrbit}

-- what is known of this node
abbrev pub seen_at : List Seen → ℕ → Seen
seen_at seen i = slice_index_or seen i New

-- the orbit that is known, anything where none is
abbrev pub orbit_in : Seen → Orbit
orbit_in New = Aside
orbit_in (OnPath place) = Aside
orbit_in (Known orbit) = orbit

-- the orbit of this node is known
abbrev pub IsKnown : List Seen → ℕ → Type 0
IsKnown seen i = (orbit : Orbit) × (seen_at seen i ≡ Known orbit)

-- what follows this node is known, or nothing does
abbrev pub LeadsToKnown : List (Option ℕ) → List Seen → ℕ → Type 0
LeadsToKnown graph seen i = (j : ℕ) → next_of graph i ≡ Some j → IsKnown seen j

-- nothing follows this node but itself, or what is known
abbrev pub LeadsNoFurther : List (Option ℕ) → List Seen → ℕ → Type 0
LeadsNoFurther graph seen i = (j : ℕ) → next_of graph i ≡ Some j → (j ≡ i) ⊎ IsKnown seen j

-- what is known of a node by the one that follows it: its orbit, where none does, or it follows itself
abbrev pub lone_of : Option ℕ → ℕ → Seen
lone_of None i = Known (Ends 0 i)
lone_of (Some j) i = if j == i then Known (Round 1) else New

-- with a node of which this is known, if it is new
abbrev pub with_new : Seen → ℕ → List ℕ → List ℕ
with_new New i nodes = nodes ++ i ∷ []
with_new (OnPath place) i nodes = nodes
with_new (Known orbit) i nodes = nodes

-- what is known of the first nodes of a graph before any is followed, and the list of those that are new
pub record AreLone (graph : List (Option ℕ)) (count : ℕ) (seen : List Seen) (others : List ℕ) : Type 0 where
  pub size : length seen ≡ count
  pub each : (i : ℕ) → i < count → seen_at seen i ≡ lone_of (next_of graph i) i
  pub within : (k : ℕ) → k < length others → slice_index_or others k 0 < count
  pub listed : (i : ℕ) → i < count → seen_at seen i ≡ New →
      (k : ℕ) × (k < length others) × (slice_index_or others k 0 ≡ i)

-- a path is followed: each node of it but the first follows the one before, and the places of its nodes
-- are noted. What is known is right, and leads to what is known
pub record IsFollowed (graph : List (Option ℕ)) (seen : List Seen) (path : List ℕ) : Type 0 where
  pub size : length seen ≡ length graph
  pub right : (i : ℕ) (orbit : Orbit) → seen_at seen i ≡ Known orbit → IsOrbit graph i orbit
  pub closed : (i : ℕ) → IsKnown seen i → LeadsToKnown graph seen i
  pub noted : (k : ℕ) → k < length path → seen_at seen (slice_index_or path k 0) ≡ OnPath k
  pub linked : (k : ℕ) → suc k < length path →
      next_of graph (slice_index_or path k 0) ≡ Some (slice_index_or path (suc k) 0)
  pub placed : (i k : ℕ) → seen_at seen i ≡ OnPath k → (k < length path) × (slice_index_or path k 0 ≡ i)

-- the last node of a path is one after which this one comes; the first of a path comes after none
abbrev pub ComesAfterPath : List (Option ℕ) → List ℕ → ℕ → Type 0
ComesAfterPath graph path j = (k : ℕ) → suc k ≡ length path → next_of graph (slice_index_or path k 0) ≡ Some j

-- nothing comes after the last node of a path, or a node with this orbit
abbrev pub IsBehind : List (Option ℕ) → List Seen → List ℕ → Option Orbit → Type 0
IsBehind graph seen path None = (k : ℕ) → suc k ≡ length path → next_of graph (slice_index_or path k 0) ≡ None
IsBehind graph seen path (Some orbit) = (j : ℕ) × ComesAfterPath graph path j × (seen_at seen j ≡ Known orbit)

-- what comes after the last node of a path
abbrev pub EndsBy : List (Option ℕ) → List Seen → List ℕ → PathEnd → Type 0
EndsBy graph seen path Stops = IsBehind graph seen path None
EndsBy graph seen path (Reaches orbit) = IsBehind graph seen path (Some orbit)
EndsBy graph seen path (Closes place) =
    (place < length path) × ComesAfterPath graph path (slice_index_or path place 0)

-- the orbit of a node that is in no ring, by that of the node after it
abbrev pub orbit_before : ℕ → Option Orbit → Orbit
orbit_before at None = Ends 0 at
orbit_before at (Some (Ends after last)) = Ends (after + 1) last
orbit_before at (Some (Round turns)) = Aside
orbit_before at (Some Aside) = Aside

-- one step more can be counted
abbrev pub MayGrow : Option Orbit → Type 0
MayGrow None = Unit {0}
MayGrow (Some (Ends after last)) = after + 1 < 2 ^ 32
MayGrow (Some (Round turns)) = Unit {0}
MayGrow (Some Aside) = Unit {0}

-- with the orbit of all these nodes noted
unfoldable pub noted : Orbit → List ℕ → List Seen → List Seen
noted orbit [] seen = seen
noted orbit (i ∷ nodes) seen = noted orbit nodes (slice_set seen i (Known orbit))

-- nothing that was seen is new again
abbrev pub StaysSeen : List Seen → List Seen → Type 0
StaysSeen old new = (i : ℕ) → seen_at old i ≢ New → seen_at new i ≢ New

-- the first node of a path was seen, or comes next
abbrev pub IsStarted : List Seen → ℕ → ℕ → Type 0
IsStarted seen start at = (start ≢ at) → seen_at seen start ≢ New
