use Rattle.flash_picture.proofs.Common.{◌∙◌, ◌+◌, ◌∷◌, [], sym, ap, arith, To}
use Rattle.std.proofs.Common.{length-append}
use Rattle.flash_picture.proofs.Shown.{shown_all, shown_dots, shown_ended, shown_more}
use Rattle.flash_picture.proofs.walk.push_steps.Goals as goal

pub returns-then-is_end-clause-steps : goal.returns-then-is_end-clause-steps
returns-then-is_end-clause-steps c =
    c.push_reserved.ensures.items
    ∙ shown_ended c.args.chart.now c.args.start c.args.last c.args.logical c.loop-turn._turn c.loop-turn.steps.items
    c.loop-turn.link (omega arith)
    (sym c.is_end.ensures ∙ c.if-is_end.true) c.loop-turn.invariant.0

pub loop-turn-preserved : goal.loop-turn-preserved
loop-turn-preserved c = (
  rw (c.push_reserved.ensures.items, c.link_of-link-in-loop-turn.ensures)
      (shown_more c.args.chart.now c.args.start c.args.last c.args.logical c.loop-turn._turn c.loop-turn.steps.items
      c.loop-turn.link (omega arith)
      (sym c.is_end.ensures ∙ c.if-is_end.false) c.loop-turn.invariant.0),
  rw c.push_reserved.ensures.items (length-append c.loop-turn.steps.items (To c.loop-turn.link ∷ [])
      ∙ ap (λ n. n + 1) c.loop-turn.invariant.1),
  omega arith,
  c.push_reserved.ensures.capacity ∙ c.loop-turn.invariant.3,
)

pub returns-then-logical-ge-MOST_LINKS-clause-steps : goal.returns-then-logical-ge-MOST_LINKS-clause-steps
returns-then-logical-ge-MOST_LINKS-clause-steps c =
    c.push_last.ensures
    ∙ shown_dots c.args.chart.now c.args.start c.args.last c.args.logical c.loop-turn._turn c.loop-turn.steps.items
    c.loop-turn.link (omega arith)
    (omega arith) (let many = c.if-logical-ge-MOST_LINKS.true in omega arith) c.loop-turn.invariant.0

pub returns-else-logical-ge-MOST_LINKS-clause-steps : goal.returns-else-logical-ge-MOST_LINKS-clause-steps
returns-else-logical-ge-MOST_LINKS-clause-steps c =
    shown_all c.args.chart.now c.args.start c.args.last c.args.logical c.loop-turn._turn c.loop-turn.steps.items
    c.loop-turn.link (omega arith)
    (omega arith) (let few = c.if-logical-ge-MOST_LINKS.false in omega arith) c.loop-turn.invariant.0
