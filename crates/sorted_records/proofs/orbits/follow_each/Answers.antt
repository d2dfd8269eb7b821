-- Nothing is followed at first.
use Rattle.sorted_records.proofs.Common.{arith}
use Rattle.sorted_records.proofs.OfWalk.Lone.{lone_followed}
use Rattle.sorted_records.proofs.orbits.follow_each.Goals as goal

pub loop-node-init : goal.loop-node-init
loop-node-init c = record {
  path = c.new-path.ensures.items;
  followed = lone_followed c.args.graph.now c.args.seen.now c.args.nodes.now c.requires.lone;
  stays = λ i old new. old new;
  before = λ k low new. absurd (omega arith);
}
