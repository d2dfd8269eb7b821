use Rattle.verdict_check.proofs.Common.{arith, refl, sym, ◌∙◌, Some, length-set, record_at, nothing, link_graph, steps_none}
use Rattle.verdict_check.specs.declared.walk_end.WalkEnd.TheVariants.{Round}
use Rattle.verdict_check.proofs.WalkEndLemmas.{round_on_way, note_keeps, next_is_newest, step_after}
use Rattle.verdict_check.proofs.walk_ends.note_round.Goals as goal

pub loop-taken-init : goal.loop-taken-init
loop-taken-init c = (
  steps_none (link_graph c.args.records.now.list.now) c.args.place,
  c.requires.place,
  c.requires.newest,
  c.requires.known,
  refl,
)

pub returns-in_default-clause-known : goal.returns-in_default-clause-known
returns-in_default-clause-known c =
    let list = c.args.records.now.list.now in
    let (leads, within, newest_at, known, size) = c.loop-taken.invariant in
    let fits = c.requires.pages c.loop-taken.at nothing within in
    note_keeps list c.args.logical c.loop-taken.at (Round c.args.links) c.loop-taken.courses (omega arith) newest_at (
      round_on_way (link_graph list) c.args.place c.loop-taken._taken c.loop-taken.at c.args.links leads
          c.requires.round
          (omega arith),
      omega arith,
    ) known

pub loop-taken-preserved : goal.loop-taken-preserved
loop-taken-preserved c =
    let list = c.args.records.now.list.now in
    let (leads, within, newest_at, known, size) = c.loop-taken.invariant in
    let fits = c.requires.pages c.loop-taken.at nothing within in
    let is = sym c.in-Some.ensures in
    let to = next_is_newest list c.loop-taken.at c.in-Some.next within newest_at is in (
      step_after (link_graph list) c.args.place c.loop-taken._taken c.loop-taken.at c.in-Some.next leads is,
      to.0,
      to.1,
      note_keeps list c.args.logical c.loop-taken.at (Round c.args.links) c.loop-taken.courses (omega arith) newest_at (
        round_on_way (link_graph list) c.args.place c.loop-taken._taken c.loop-taken.at c.args.links leads
            c.requires.round (omega arith),
        omega arith,
      ) known,
      length-set c.loop-taken.courses (record_at list c.loop-taken.at).page (Some ((Round c.args.links))) ∙ size,
    )
