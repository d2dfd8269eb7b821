-- A node that nothing follows but itself, or what is known, is decided at once.
use Rattle.sorted_records.proofs.Common.{◌≢◌, ◌<◌, length, arith, New, Known}
use Rattle.sorted_records.proofs.OfWalk.Noted.{seen_same}
use Rattle.sorted_records.proofs.OfWalk.Paths.{decided_alone, stays_set}
use Rattle.sorted_records.proofs.follow.find_new.Goals as goal

pub returns-in-Some-clause-followed : goal.returns-in-Some-clause-followed
returns-in-Some-clause-followed c =
    let within : c.args.start < length c.args.seen.now = let s = c.requires.followed.size in let w = c.requires.start in
    omega arith in
    decided_alone c.args.graph.now c.args.seen.now c.args.start c.in-Some.orbit c.requires.followed
    c.requires.new within
    c.in-Some.ensures.orbit c.in-Some.ensures.leads

pub returns-in-Some-clause-seen : goal.returns-in-Some-clause-seen
returns-in-Some-clause-seen c =
    let within : c.args.start < length c.args.seen.now = let s = c.requires.followed.size in let w = c.requires.start in
    omega arith in
    let other : Known c.in-Some.orbit ≢ New = (λ e. cc) in
    stays_set c.args.seen.now c.args.start (Known c.in-Some.orbit) other within

pub returns-in-Some-clause-start : goal.returns-in-Some-clause-start
returns-in-Some-clause-start c =
    let within : c.args.start < length c.args.seen.now = let s = c.requires.followed.size in let w = c.requires.start in
    omega arith in
    let e = seen_same c.args.seen.now c.args.start (Known c.in-Some.orbit) within in (λ new. cc)
