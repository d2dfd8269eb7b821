use Rattle.version_index.proofs.Common.{sym, ◌∙◌}
use Rattle.version_index.proofs.committing.completes.Invariants.KeptWalks.{start_walk, walk_stops, walk_comes, walk_more, walk_ends}
use Rattle.version_index.proofs.committing.completes.Goals as goal

pub loop-init : goal.loop-init
loop-init c = start_walk c.args.tables.now c.args.rec c.args.logical c.requires.next

pub loop-preserved : goal.loop-preserved
loop-preserved c =
    walk_more c.args.tables.now c.shape.ensures.kept c.requires.links c.args.rec c.args.logical c.loop.counter
    c.loop.link c.loop.invariant
    c.loop-test.true c.in-Some.next (sym c.in-Some.ensures) (sym (rw c.name.ensures at c.has_name.ensures) ∙ c.if-has_name.false)

pub returns-in-None : goal.returns-in-None
returns-in-None c = λ protocol its m may same.
    walk_stops c.args.tables.now c.shape.ensures.kept c.args.rec c.args.logical c.loop.counter c.loop.link
    c.loop.invariant c.loop-test.true
    protocol its m may same (sym c.in-None.ensures)

pub returns-then-has_name : goal.returns-then-has_name
returns-then-has_name c = λ protocol its m may same.
    walk_comes c.args.tables.now c.shape.ensures.kept c.args.rec c.args.logical c.loop.counter c.loop.link
    c.loop.invariant c.loop-test.true
    protocol its m may same c.in-Some.next (sym c.in-Some.ensures) (sym (rw c.name.ensures at c.has_name.ensures) ∙ c.if-has_name.true)

pub returns : goal.returns
returns c = λ protocol its m may same.
    walk_ends c.args.tables.now c.args.rec c.args.logical c.loop.counter c.loop.link c.loop.invariant c.loop-test.false
    protocol its m may same
