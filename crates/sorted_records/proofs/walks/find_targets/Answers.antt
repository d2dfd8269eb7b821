-- One target more, and at the end all of them.
use Rattle.sorted_records.proofs.Common.{◌+◌, ◌∷◌, ◌++◌, [], None, ◌∙◌, sym, ap, arith, length, map, position, take_all, has_name, nothing}
use Rattle.std.proofs.lemmas.List.{length_push, get_or_push}
use Rattle.sorted_records.proofs.OfSort.Arranged.{mapped_more}
use Rattle.sorted_records.proofs.OfWalk.Lone.{lone_grown, lone_more}
use Rattle.sorted_records.proofs.walks.find_targets.Goals as goal

pub loop-at-preserved : goal.loop-at-preserved
loop-at-preserved c =
    let was = c.loop-at.invariant in
    let before = c.loop-at.targets.items in
    let at = c.loop-at.at in
    let target = c.next_target-target.result in
    let longer = c.push_reserved.ensures.items in
    record {
      targets = longer
          ∙ mapped_more (λ f. position (λ g. has_name f.rec.next g.rec) c.args.records.now) c.args.records.now
          before at nothing target c.loop-at-test.true was.targets c.next_target-target.ensures;
      count = (let l = length_push before target in let e = was.count in let m = ap length longer in omega arith);
      lone = rw (c.note.ensures.seen, c.note.ensures.others, longer)
          (lone_more (before ++ target ∷ []) at c.loop-at.lone.seen.items c.loop-at.lone.others.items target
          (lone_grown before at c.loop-at.lone.seen.items c.loop-at.lone.others.items target was.count was.lone)
          (get_or_push before target None at was.count));
      few = (let l = c.note.ensures.others_len in let e = was.few in omega arith);
      targets_room = rw c.push_reserved.ensures.capacity was.targets_room;
      seen_room = rw c.note.ensures.seen_room was.seen_room;
      others_room = rw c.note.ensures.others_room was.others_room;
    }
