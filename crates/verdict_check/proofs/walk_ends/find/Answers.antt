use Rattle.verdict_check.proofs.Common.{arith, Some, ◌≡◌, ◌+◌, suc, sym, ap, ◌∙◌, subst, link_graph, record_at, Ends, IsWalkEnd}
use Rattle.verdict_check.specs.WalkEnds.{GoesOn}
use Rattle.verdict_check.proofs.WalkEndLemmas.{way_begins, way_comes_back, way_goes_on, way_joins, way_is_long, next_is_newest, ending_is, known_is, known_of}
use Rattle.verdict_check.proofs.WalkEndLemmas.{step_after}
use Rattle.verdict_check.proofs.walk_ends.find.Goals as goal

pub loop-taken-init : goal.loop-taken-init
loop-taken-init c = (
  way_begins (link_graph c.args.records.now.list.now) c.args.place,
  c.requires.place,
  c.requires.newest,
)

pub returns-then-next-place : goal.returns-then-next-place
returns-then-next-place c = (
  way_comes_back (link_graph c.args.records.now.list.now) c.args.place c.loop-taken.taken c.loop-taken.at
      c.loop-taken.invariant.0
      (sym c.in-Some.ensures ∙ ap Some c.if-next-place.true),
  omega arith,
)

pub bounds-records-next : goal.bounds-records-next
bounds-records-next c =
    (next_is_newest c.args.records.now.list.now c.loop-taken.at c.in-Some.next c.loop-taken.invariant.1
    c.loop-taken.invariant.2 (sym c.in-Some.ensures)).0

pub returns-in-Some-Ends : goal.returns-in-Some-Ends
returns-in-Some-Ends c =
    let list = c.args.records.now.list.now in
    let graph = link_graph list in
    let next = c.in-Some.next in
    let is = sym c.in-Some.ensures in
    let to = next_is_newest list c.loop-taken.at next c.loop-taken.invariant.1 c.loop-taken.invariant.2 is in
    let known = known_is list c.args.logical next _ (Ends c.in-Some-Ends.after c.in-Some-Ends.at) to.1
    (known_of list c.args.logical c.args.courses.now (record_at list next).page c.in-Some-Ends.field-0-is
    c.requires.known (sym c.in-Some-Ends.ensures)) in
    let all = way_joins graph c.args.place (c.loop-taken.taken + 1) next c.in-Some-Ends.after c.in-Some-Ends.at
    (step_after graph c.args.place c.loop-taken.taken c.loop-taken.at next c.loop-taken.invariant.0.leads is) known.0 in
    subst (IsWalkEnd list c.args.logical c.args.place) (sym c.ending.ensures)
    (ending_is list c.args.logical c.args.place (c.loop-taken.taken + 1 + c.in-Some-Ends.after) c.in-Some-Ends.at all)

pub loop-taken-preserved : goal.loop-taken-preserved
loop-taken-preserved c =
    let list = c.args.records.now.list.now in
    let is = sym c.in-Some.ensures in
    let to = next_is_newest list c.loop-taken.at c.in-Some.next c.loop-taken.invariant.1 c.loop-taken.invariant.2 is in (
      way_goes_on (link_graph list) c.args.place c.loop-taken.taken c.loop-taken.at c.in-Some.next
          c.loop-taken.invariant.0 is c.if-next-place.false,
      to.0,
      to.1,
    )

pub returns : goal.returns
returns c =
    let end : c.loop-taken.taken ≡ suc c.args.logical = omega arith in
    subst (GoesOn (link_graph c.args.records.now.list.now) c.args.place) end
    (way_is_long (link_graph c.args.records.now.list.now) c.args.place c.loop-taken.taken c.loop-taken.at
    c.loop-taken.invariant.0)
