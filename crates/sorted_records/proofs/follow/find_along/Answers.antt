-- The nodes of the path are decided from the last one to the first.
mod Rings
use Rattle.sorted_records.proofs.Common.{◌≢◌, refl, arith, New, Known}
use Rattle.sorted_records.proofs.OfWalk.Paths.{path_short, path_less, last_orbit, may_grow, behind_decided, last_within, stays_on, stays_set}
use Rattle.sorted_records.proofs.follow.find_along.Answers.Rings.{path_within, ring_followed, ring_behind, ring_seen}
use Rattle.sorted_records.proofs.follow.find_along.Goals as goal
use Rattle.sorted_records.proofs.follow.find_along.Goals.{in-Stops, in-Reaches, in-Closes}

pub close-requires-clause-few : goal.close-requires-clause-few
close-requires-clause-few c =
    let short = path_short c.args.graph.now c.follow.new.seen c.follow.new.path.items c.in_ok-follow.ensures.followed in
    omega arith

pub close-requires-clause-within : goal.close-requires-clause-within
close-requires-clause-within c =
    path_within c.args.graph.now c.follow.new.seen c.follow.new.path.items c.in-Closes.place
    c.in_ok-follow.ensures.followed

pub loop-at-init : goal.loop-at-init
loop-at-init c = let was = c.in_ok-follow.ensures in elim c.match-branch-2.branch [
  | in-Stops w ↦ record {
    followed = rw (w.seen-is, w.path-is) was.followed;
    behind = rw (w.seen-is, w.path-is, w.behind-is) (rw w.in-Stops.is at was.end);
    seen = rw w.seen-is was.seen;
    start = rw w.seen-is was.start;
  }
  | in-Reaches w ↦ record {
    followed = rw (w.seen-is, w.path-is) was.followed;
    behind = rw (w.seen-is, w.path-is, w.behind-is) (rw w.in-Reaches.is at was.end);
    seen = rw w.seen-is was.seen;
    start = rw w.seen-is was.start;
  }
  | in-Closes w ↦ (
      let ring = rw w.in-Closes.is at was.end in
      let noted = ring_seen c.args.graph.now c.follow.new.seen c.follow.new.path.items w.in-Closes.place was.followed
      ring.0 ring.1 in
      record {
        followed = rw (w.seen-is, w.path-is, w.close.ensures.seen, w.close.ensures.path, w.close.ensures.orbit)
            (ring_followed c.args.graph.now c.follow.new.seen c.follow.new.path.items w.in-Closes.place was.followed
            ring.0 ring.1);
        behind = rw (
          w.seen-is,
          w.path-is,
          w.behind-is,
          w.close.ensures.seen,
          w.close.ensures.path,
          w.close.ensures.orbit,
        )
            (ring_behind c.args.graph.now c.follow.new.seen c.follow.new.path.items w.in-Closes.place was.followed
            ring.0 ring.1);
        seen = rw (w.seen-is, w.close.ensures.seen, w.close.ensures.orbit) (λ i old. noted i (was.seen i old));
        start = rw (w.seen-is, w.close.ensures.seen, w.close.ensures.orbit) (noted c.args.start was.start);
      })
]

pub orbit_before-orbit-requires : goal.orbit_before-orbit-requires
orbit_before-orbit-requires c =
    let was = c.loop-at.invariant in
    let e = c.in-Some.ensures.items in
    may_grow c.args.graph.now c.loop-at.seen c.pop.new.self.items c.in-Some.at c.loop-at.behind c.requires.graph
    c.requires.size
    (rw e at was.followed) (rw e at was.behind)

pub bounds-seen-at : goal.bounds-seen-at
bounds-seen-at c =
    let was = c.loop-at.invariant in
    last_within c.args.graph.now c.loop-at.seen c.pop.new.self.items c.in-Some.at
    (rw c.in-Some.ensures.items at was.followed)

pub loop-at-preserved : goal.loop-at-preserved
loop-at-preserved c =
    let was = c.loop-at.invariant in
    let e = c.in-Some.ensures.items in
    let followed = (rw e at was.followed) in
    let settled = last_orbit c.args.graph.now c.loop-at.seen c.pop.new.self.items c.in-Some.at c.loop-at.behind followed
    (rw e at was.behind) in
    let within = last_within c.args.graph.now c.loop-at.seen c.pop.new.self.items c.in-Some.at followed in
    let orbit = c.orbit_before-orbit.result in
    let other : Known orbit ≢ New = (λ e. cc) in
    record {
      followed = path_less c.args.graph.now c.loop-at.seen c.pop.new.self.items c.in-Some.at orbit followed
          (rw c.orbit_before-orbit.ensures settled.0) settled.1;
      behind = behind_decided c.args.graph.now c.loop-at.seen c.pop.new.self.items c.in-Some.at orbit followed;
      seen = stays_on c.args.seen.now c.loop-at.seen _ c.in-Some.at (Known orbit) was.seen other within refl;
      start = stays_set c.loop-at.seen c.in-Some.at (Known orbit) other within c.args.start was.start;
    }
