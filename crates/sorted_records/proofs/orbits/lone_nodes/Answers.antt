-- One node more.
use Rattle.sorted_records.proofs.Common.{◌≡◌, Option, length, get_or, None, refl, sym, ◌∙◌, arith}
use Rattle.sorted_records.proofs.OfWalk.Lone.{lone_more}
use Rattle.sorted_records.proofs.orbits.lone_nodes.Goals as goal

pub loop-node-preserved : goal.loop-node-preserved
loop-node-preserved c =
    let was = c.loop-node.invariant in
    let node = c.loop-node.node in
    record {
      lone = rw (c.note.ensures.seen, c.note.ensures.others)
          (lone_more c.args.graph.now node c.loop-node.lone.seen.items c.loop-node.lone.others.items
          (get_or c.args.graph.now node None) was.lone refl);
      seen_room = rw c.note.ensures.seen_room was.seen_room;
      others_room = rw c.note.ensures.others_room was.others_room;
      few = (let m = c.note.ensures.others_len in let e = was.few in omega arith);
    }
