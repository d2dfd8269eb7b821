-- Where following the next nodes leads, in a graph in which each node has at most one.
use Rattle.std.specs.Prelude.{◌≡◌, ◌≢◌, ℕ, zero, suc, ◌<◌, Option, Some, None, List, All, IfSome, length, slice_index_or}
use Rattle.sorted_records.specs.declared.orbit.Orbit.{Orbit}
use Rattle.sorted_records.specs.declared.orbit.Orbit.TheVariants.{Ends, Round, Aside}

-- the nodes of a graph are the numbers below its length, and what follows each is one of them or nothing
abbrev pub IsGraph : List (Option ℕ) → Type 0
IsGraph graph = All (λ next. IfSome next (λ j. j < length graph)) graph

-- the node that follows this one
abbrev pub next_of : List (Option ℕ) → ℕ → Option ℕ
next_of graph i = slice_index_or graph i None

-- the node to which this many steps from this one lead, nothing where there are fewer
unfoldable pub steps : List (Option ℕ) → ℕ → ℕ → Option ℕ
steps graph zero i = Some i
steps graph (suc k) i = elim (next_of graph i) [ None ↦ None | Some j ↦ steps graph k j ]

-- after this many steps from this node one is at a node that nothing follows
pub record IsEnd (graph : List (Option ℕ)) (i after at : ℕ) : Type 0 where
  pub leads : steps graph after i ≡ Some at
  pub last : next_of graph at ≡ None

-- this many steps, and no fewer, lead back to this node
pub record IsRound (graph : List (Option ℕ)) (i turns : ℕ) : Type 0 where
  pub some : 0 < turns
  pub back : steps graph turns i ≡ Some i
  pub first : (k : ℕ) → 0 < k → k < turns → steps graph k i ≢ Some i

-- there are always more steps from this node, and none lead back
pub record IsAside (graph : List (Option ℕ)) (i : ℕ) : Type 0 where
  pub goes_on : (k : ℕ) → steps graph k i ≢ None
  pub never_back : (k : ℕ) → 0 < k → steps graph k i ≢ Some i

-- the orbit of a node
abbrev pub IsOrbit : List (Option ℕ) → ℕ → Orbit → Type 0
IsOrbit graph i (Ends after at) = IsEnd graph i after at
IsOrbit graph i (Round turns) = IsRound graph i turns
IsOrbit graph i Aside = IsAside graph i

-- the orbits of all nodes of a graph, in order
pub record AreOrbits (graph : List (Option ℕ)) (orbits : List Orbit) : Type 0 where
  pub all : length orbits ≡ length graph
  pub each : (i : ℕ) (none : Orbit) → i < length graph → IsOrbit graph i (slice_index_or orbits i none)
