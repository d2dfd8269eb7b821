-- One target and one link more, and at the end all of them.
use Rattle.sorted_records.proofs.Common.{◌+◌, ◌∷◌, ◌++◌, [], None, ◌∙◌, ap, ap₂, sym, arith, length, map, position, take_all, has_name, nothing}
use Rattle.std.proofs.lemmas.List.{map-append, length_push, get_or_push}
use Rattle.sorted_records.specs.SortedRecords.{newest_target}
use Rattle.sorted_records.proofs.OfSort.Arranged.{mapped_more}
use Rattle.sorted_records.proofs.OfWalk.Lone.{lone_grown, lone_more}
use Rattle.sorted_records.proofs.walks.find_graphs.Goals as goal

pub loop-at-preserved : goal.loop-at-preserved
loop-at-preserved c =
    let l = c.args.records.now in
    let was = c.loop-at.invariant in
    let at = c.loop-at.at in
    let before = c.loop-at.links.items in
    let target = c.next_target-target.result in
    let link = c.newest_target-link.result in
    let longer = c.push_reserved-in-loop-at.ensures.items in
    record {
      targets = c.push_reserved.ensures.items
          ∙ mapped_more (λ f. position (λ g. has_name f.rec.next g.rec) l) l
          c.loop-at.targets.items at nothing
          target c.loop-at-test.true was.targets c.next_target-target.ensures;
      links = longer
          ∙ ap₂ (λ a b. a ++ b ∷ []) was.links c.newest_target-link.ensures
          ∙ sym (map-append (newest_target l) c.loop-at.targets.items (target ∷ []))
          ∙ ap (map (newest_target l)) (sym c.push_reserved.ensures.items);
      count = (let m = length_push before link in let e = was.count in let n = ap length longer in omega arith);
      lone = rw (c.note.ensures.seen, c.note.ensures.others, longer)
          (lone_more (before ++ link ∷ []) at c.loop-at.lone.seen.items c.loop-at.lone.others.items link
          (lone_grown before at c.loop-at.lone.seen.items c.loop-at.lone.others.items link was.count was.lone)
          (get_or_push before link None at was.count));
      few = (let m = c.note.ensures.others_len in let e = was.few in omega arith);
      targets_room = rw c.push_reserved.ensures.capacity was.targets_room;
      links_room = rw c.push_reserved-in-loop-at.ensures.capacity was.links_room;
      seen_room = rw c.note.ensures.seen_room was.seen_room;
      others_room = rw c.note.ensures.others_room was.others_room;
    }

pub returns-clause-targets : goal.returns-clause-targets
returns-clause-targets c =
    c.loop-at.invariant.targets
    ∙ ap (map (λ f. position (λ g. has_name f.rec.next g.rec) c.args.records.now))
    (take_all c.loop-at.at c.args.records.now (let end = c.loop-at-test.false in omega arith))
