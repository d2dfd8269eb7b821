-- The node goes to the end of the path, which has room for it.
use Rattle.sorted_records.proofs.Common.{◌<◌, length, ap, arith, OnPath}
use Rattle.std.proofs.lemmas.List.{length_push}
use Rattle.sorted_records.proofs.OfWalk.OneOrbit.{next_within}
use Rattle.sorted_records.proofs.OfWalk.Paths.{path_short, path_taken, comes_after, path_closes, stays_on, started_on}
use Rattle.sorted_records.proofs.follow.follow.Goals as goal

pub take-requires-clause-few : goal.take-requires-clause-few
take-requires-clause-few c =
    let short = path_short c.args.graph.now c.loop-next.seen c.loop-next.path.items c.loop-next.invariant.followed in
    omega arith

pub returns-in_default-clause-followed : goal.returns-in_default-clause-followed
returns-in_default-clause-followed c =
    let was = c.loop-next.invariant in
    path_taken c.args.graph.now c.loop-next.seen c.take.new.seen c.loop-next.path.items c.take.new.path.items
    c.loop-next.at
    was.followed was.new was.within was.comes c.in_ok-take.ensures.seen c.in_ok-take.ensures.path

pub returns-in-OnPath-clause-followed : goal.returns-in-OnPath-clause-followed
returns-in-OnPath-clause-followed c =
    let was = c.loop-next.invariant in
    path_taken c.args.graph.now c.loop-next.seen c.take.new.seen c.loop-next.path.items c.take.new.path.items
    c.loop-next.at
    was.followed was.new was.within was.comes c.in_ok-take.ensures.seen c.in_ok-take.ensures.path

pub returns-in-Known-clause-followed : goal.returns-in-Known-clause-followed
returns-in-Known-clause-followed c =
    let was = c.loop-next.invariant in
    path_taken c.args.graph.now c.loop-next.seen c.take.new.seen c.loop-next.path.items c.take.new.path.items
    c.loop-next.at
    was.followed was.new was.within was.comes c.in_ok-take.ensures.seen c.in_ok-take.ensures.path

pub returns-in-OnPath-clause-end : goal.returns-in-OnPath-clause-end
returns-in-OnPath-clause-end c =
    let was = c.loop-next.invariant in
    let now = path_taken c.args.graph.now c.loop-next.seen c.take.new.seen c.loop-next.path.items c.take.new.path.items
    c.loop-next.at
    was.followed was.new was.within was.comes c.in_ok-take.ensures.seen c.in_ok-take.ensures.path in
    path_closes c.args.graph.now c.take.new.seen c.take.new.path.items c.in-Some.next c.in-OnPath.place now
    c.in-OnPath.is
    (comes_after c.args.graph.now c.loop-next.path.items c.take.new.path.items c.loop-next.at c.in-Some.next
    c.in_ok-take.ensures.path c.in-Some.is)

pub loop-next-smaller : goal.loop-next-smaller
loop-next-smaller c =
    let was = c.loop-next.invariant in
    let now = path_taken c.args.graph.now c.loop-next.seen c.take.new.seen c.loop-next.path.items c.take.new.path.items
    c.loop-next.at
    was.followed was.new was.within was.comes c.in_ok-take.ensures.seen c.in_ok-take.ensures.path in
    let short = path_short c.args.graph.now c.take.new.seen c.take.new.path.items now in
    let e = ap length c.in_ok-take.ensures.path in
    let l = length_push c.loop-next.path.items c.loop-next.at in
    omega arith

pub loop-next-preserved : goal.loop-next-preserved
loop-next-preserved c =
    let was = c.loop-next.invariant in
    let within : c.loop-next.at < length c.loop-next.seen = let s = was.followed.size in let w = was.within in
    omega arith in
    record {
      followed = path_taken c.args.graph.now c.loop-next.seen c.take.new.seen c.loop-next.path.items
          c.take.new.path.items c.loop-next.at
          was.followed was.new was.within was.comes c.in_ok-take.ensures.seen c.in_ok-take.ensures.path;
      within = next_within c.args.graph.now c.requires.graph c.loop-next.at c.in-Some.next c.in-Some.is;
      new = c.in-New.is;
      comes = comes_after c.args.graph.now c.loop-next.path.items c.take.new.path.items c.loop-next.at c.in-Some.next
          c.in_ok-take.ensures.path c.in-Some.is;
      seen = stays_on c.args.seen.now c.loop-next.seen c.take.new.seen c.loop-next.at
          (OnPath (length c.loop-next.path.items))
          was.seen (λ e. cc) within c.in_ok-take.ensures.seen;
      started = started_on c.loop-next.seen c.take.new.seen c.args.start c.loop-next.at c.in-Some.next
          (length c.loop-next.path.items)
          was.started within c.in_ok-take.ensures.seen;
    }
