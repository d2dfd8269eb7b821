-- Each turn notes the first of the nodes that are left.
use Rattle.sorted_records.proofs.Common.{sym, ◌∙◌, arith}
use Rattle.std.proofs.lemmas.List.{at_drop_more, at_drop_all}
use Rattle.sorted_records.specs.Seen.{noted}
use Rattle.sorted_records.proofs.follow.note.Goals as goal

pub loop-node-preserved : goal.loop-node-preserved
unfolding noted
loop-node-preserved c =
    sym (at_drop_more (λ nodes. noted c.args.orbit nodes c.loop-node.seen) c.args.nodes.now c.loop-node.node-index 0
    (omega arith))
    ∙ c.loop-node.invariant

pub returns : goal.returns
unfolding noted
returns c =
    sym (at_drop_all (λ nodes. noted c.args.orbit nodes c.loop-node.seen) c.args.nodes.now c.loop-node.node-index
    (omega arith))
    ∙ c.loop-node.invariant
