-- A new node is in no ring of known ones, so that its orbit is by one step longer than that of the known one after it.
use Rattle.sorted_records.proofs.Common.{◌≡◌, ℕ, ◌<◌, Option, Some, List, [], length, arith, Orbit, Ends, Round, Aside, Seen, Known, next_of, IsGraph, seen_at, IsFollowed}
use Rattle.std.proofs.Common.{◌^◌}
use Rattle.sorted_records.specs.Seen.{MayGrow}
use Rattle.sorted_records.proofs.OfWalk.OneOrbit.{orbit_before_is, end_near}
use Rattle.sorted_records.proofs.OfWalk.Paths.{known_stay, seen_within}
use Rattle.sorted_records.proofs.follow.orbit_at_once.Goals as goal

-- a known orbit can be counted one step further
known_grows : (graph : List (Option ℕ)) (seen : List Seen) (j : ℕ) (orbit : Orbit) → IsGraph graph →
    length graph < 2 ^ 32 →
    IsFollowed graph seen [] → seen_at seen j ≡ Known orbit → MayGrow (Some orbit)
known_grows graph seen j (Ends after at) graph_is few is known =
    let within = seen_within seen j (λ new. cc) in
    let s = is.size in
    let near = end_near graph graph_is j after at (omega arith) (is.right j (Ends after at) known) in
    omega arith
known_grows graph seen j (Round turns) graph_is few is known = tt
known_grows graph seen j Aside graph_is few is known = tt

pub orbit_before-requires : goal.orbit_before-requires
orbit_before-requires c =
    known_grows c.args.graph.now c.args.seen.now c.in_ok-next.next c.in-Known.orbit c.requires.graph c.requires.size
    c.requires.followed c.in-Known.is

pub returns-in-Known-clause-orbit : goal.returns-in-Known-clause-orbit
returns-in-Known-clause-orbit c =
    let graph = c.args.graph.now in
    let seen = c.args.seen.now in
    let is = c.requires.followed in
    rw c.orbit_before.ensures (orbit_before_is graph c.args.node c.in_ok-next.next c.in-Known.orbit c.in_ok-next.was
    (is.right c.in_ok-next.next c.in-Known.orbit c.in-Known.is)
    (λ k leads. let (o, f) = known_stay graph seen [] is k c.in_ok-next.next c.args.node (
      c.in-Known.orbit,
      c.in-Known.is,
    ) leads in
    let new = c.requires.new in cc))
