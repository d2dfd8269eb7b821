use Rattle.version_index.proofs.Common.{◌≡◌, sym, ap, ◌∙◌, length, arith, Link, TablesState, OnlyDerives}
use Rattle.version_index.specs.Committing.{newest_with_name}
use Rattle.version_index.proofs.OfCommit.KeptRounds.{start_taking, taking_ends, taking_fails, taking_more, taking_whole}
use Rattle.version_index.proofs.committing.make_all_current.Goals as goal

-- the newest record of a page stays
kept_top : (k new : TablesState) (name : Link) → OnlyDerives k new → newest_with_name new name ≡ newest_with_name k name
kept_top k new name judges = ap (λ (u : TablesState). newest_with_name u name) judges.rest

pub loop-init : goal.loop-init
loop-init c = record {
  taking = start_taking c.args.tables.now c.args.start c.requires.page;
  written = c.requires.written;
}

pub make_newest_current-requires-clause-page : goal.make_newest_current-requires-clause-page
make_newest_current-requires-clause-page c =
    let h = c.loop.invariant.taking in
    let same = ap (λ (t : TablesState). length t.pages) h.judges.rest in
    let page = h.page in
    omega arith

pub newest_with_name-newest-requires : goal.newest_with_name-newest-requires
newest_with_name-newest-requires c =
    let h = c.loop.invariant.taking in
    let same = ap (λ (t : TablesState). length t.pages) h.judges.rest in
    let page = h.page in
    omega arith

pub make_newest_current-requires-clause-few : goal.make_newest_current-requires-clause-few
make_newest_current-requires-clause-few c =
    let same = ap (λ (t : TablesState). length t.pages) c.loop.invariant.taking.judges.rest in
    let few = c.requires.few in
    omega arith

pub loop-preserved : goal.loop-preserved
loop-preserved c = record {
  taking =
      taking_more c.args.tables.now c.loop.tables c.make_newest_current.new.tables c.args.start c.loop.link
      c.loop.counter c.loop.invariant.taking
      c.make_newest_current.ensures.judges c.make_newest_current.ensures.taken c.requires.links c.in-Some.rec
      (kept_top c.loop.tables c.make_newest_current.new.tables c.loop.link c.make_newest_current.ensures.judges
      ∙ sym c.newest_with_name-newest.ensures ∙ c.in-Some.is) c.if-rec-start.false;
  written = c.make_newest_current.ensures.written;
}

pub returns-in-None-clause-takes : goal.returns-in-None-clause-takes
returns-in-None-clause-takes c =
    taking_fails c.args.tables.now c.loop.tables c.make_newest_current.new.tables c.args.start c.loop.link
    c.loop.counter c.loop.invariant.taking
    c.make_newest_current.ensures.judges c.make_newest_current.ensures.taken c.args.logical (kept_top c.loop.tables c.make_newest_current.new.tables c.loop.link c.make_newest_current.ensures.judges
    ∙ sym c.newest_with_name-newest.ensures ∙ c.in-None.is)

pub returns-then-rec-start-clause-takes : goal.returns-then-rec-start-clause-takes
returns-then-rec-start-clause-takes c =
    taking_ends c.args.tables.now c.loop.tables c.make_newest_current.new.tables c.args.start c.loop.link c.loop.counter
    c.loop.invariant.taking
    c.make_newest_current.ensures.judges c.make_newest_current.ensures.taken c.args.logical c.in-Some.rec
    (kept_top c.loop.tables c.make_newest_current.new.tables c.loop.link c.make_newest_current.ensures.judges
    ∙ sym c.newest_with_name-newest.ensures ∙ c.in-Some.is) c.if-rec-start.true

pub returns-clause-takes : goal.returns-clause-takes
returns-clause-takes c =
    taking_whole c.args.tables.now c.loop.tables c.args.start c.loop.link c.loop.counter c.args.logical c.loop.invariant.taking
    c.loop-test.false
