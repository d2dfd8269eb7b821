use Rattle.verdict_report.proofs.Common.{◌≡◌, ℕ, arith, List, [], ◌∷◌, suc, take, ap, ◌∙◌, Found, Link, link_of, links_of, newest_name, walk_links}
use Rattle.std.proofs.Common.{length-append}
use Rattle.verdict_report.proofs.WalkLemmas.{taking_first, taking_next, taking_ended, taking_done, link_of_newest}
use Rattle.verdict_report.proofs.walk.push_links.Goals as goal

pub loop-turn-init : goal.loop-turn-init
loop-turn-init c = record {
  taken = rw (c.push_reserved.ensures.items, c.requires.empty)
      (taking_first c.args.records.now.chart c.newest_name-start.result c.newest_link-last.result _
      (c.newest_link-last.ensures ∙ link_of_newest c.args.records.now.chart c.args.page _ c.newest_name-start.ensures));
  len = rw (c.push_reserved.ensures.items, c.requires.empty) (omega arith);
  room = c.push_reserved.ensures.capacity ∙ c.requires.room;
}

pub loop-turn-preserved : goal.loop-turn-preserved
loop-turn-preserved c = record {
  taken = rw c.push_reserved-in-loop-turn.ensures.items (taking_next c.args.records.now.chart
      c.newest_name-start.result _ c.loop-turn._turn
      c.loop-turn.links.items
      c.loop-turn.last c.in-Some.link (omega arith) c.in-Some.ensures c.loop-turn.invariant.taken);
  len = rw c.push_reserved-in-loop-turn.ensures.items
      (omega (arith, length-append c.loop-turn.links.items (c.in-Some.link ∷ []), c.loop-turn.invariant.len));
  room = c.push_reserved-in-loop-turn.ensures.capacity ∙ c.loop-turn.invariant.room;
}

-- the links of the walk from the newest record of a page
same : (list : List Found) (logical page : ℕ) (start : Link) (links : List Link) → start ≡ newest_name list page →
    links ≡ take 16 (walk_links list start (suc logical) (link_of list start)) →
    links ≡ take 16 (links_of list logical page)
same list logical page start links is taken =
    taken ∙ ap (λ name. take 16 (walk_links list name (suc logical) (link_of list name))) is

pub returns-after-loop-turn : goal.returns-after-loop-turn
returns-after-loop-turn c =
    let list = c.args.records.now.chart in
    let start = c.newest_name-start.result in
    same list c.args.logical c.args.page start c.loop-turn.links.items c.newest_name-start.ensures
    (taking_done list start c.args.logical c.loop-turn._turn c.loop-turn.links.items c.loop-turn.last
    (omega arith) c.loop-turn.invariant.taken)

pub returns-in_default : goal.returns-in_default
returns-in_default c =
    let list = c.args.records.now.chart in
    let start = c.newest_name-start.result in
    same list c.args.logical c.args.page start c.loop-turn.links.items c.newest_name-start.ensures
    (taking_ended list start c.args.logical c.loop-turn._turn c.loop-turn.links.items c.loop-turn.last
    c.in_default.ensures c.loop-turn.invariant.taken)
