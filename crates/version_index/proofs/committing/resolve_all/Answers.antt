use Rattle.version_index.proofs.Common.{sym, refl, ap, ◌∙◌, length, arith, TablesState}
use Rattle.version_index.proofs.committing.resolve_all.Invariants.AnsweredRounds.{start_answering, answering_ends, answering_fails, answering_more}
use Rattle.version_index.proofs.committing.resolve_all.Invariants.AnsweredRounds.{answering_whole}
use Rattle.version_index.proofs.committing.resolve_all.Goals as goal

pub loop-init : goal.loop-init
loop-init c = record {
  answering = start_answering c.args.tables.now c.args.start c.requires.page;
  current = refl;
}

pub resolve_waiting-requires : goal.resolve_waiting-requires
resolve_waiting-requires c =
    let h = c.loop.invariant.answering in
    let same = ap (λ (t : TablesState). length t.pages) h.judges.rest in
    let page = h.page in
    omega arith

pub loop-preserved : goal.loop-preserved
loop-preserved c = record {
  answering =
      answering_more c.args.tables.now c.loop.tables c.resolve_waiting.new.tables c.args.start c.loop.link
      c.loop.counter c.loop.invariant.answering
      c.resolve_waiting.ensures.judges c.resolve_waiting.ensures.answered c.requires.links c.in-Some.rec
      (sym c.in-Some.ensures) c.if-rec-start.false;
  current = c.resolve_waiting.ensures.answered.current ∙ c.loop.invariant.current;
}

pub returns-in-None-clause-current : goal.returns-in-None-clause-current
returns-in-None-clause-current c = c.resolve_waiting.ensures.answered.current ∙ c.loop.invariant.current

pub returns-then-rec-start-clause-current : goal.returns-then-rec-start-clause-current
returns-then-rec-start-clause-current c = c.resolve_waiting.ensures.answered.current ∙ c.loop.invariant.current

pub returns-clause-current : goal.returns-clause-current
returns-clause-current c = c.loop.invariant.current

pub returns-in-None-clause-answers : goal.returns-in-None-clause-answers
returns-in-None-clause-answers c =
    answering_fails c.args.tables.now c.loop.tables c.resolve_waiting.new.tables c.args.start c.loop.link c.loop.counter
    c.loop.invariant.answering
    c.resolve_waiting.ensures.judges c.resolve_waiting.ensures.answered c.args.logical (sym c.in-None.ensures)

pub returns-then-rec-start-clause-answers : goal.returns-then-rec-start-clause-answers
returns-then-rec-start-clause-answers c =
    answering_ends c.args.tables.now c.loop.tables c.resolve_waiting.new.tables c.args.start c.loop.link c.loop.counter
    c.loop.invariant.answering
    c.resolve_waiting.ensures.judges c.resolve_waiting.ensures.answered c.args.logical c.in-Some.rec
    (sym c.in-Some.ensures) c.if-rec-start.true

pub returns-clause-answers : goal.returns-clause-answers
returns-clause-answers c =
    answering_whole c.args.tables.now c.loop.tables c.args.start c.loop.link c.loop.counter c.args.logical
    c.loop.invariant.answering c.loop-test.false
