-- One record after the other.
use Rattle.version_index.proofs.Common.{◌≡◌, length, ap, subst, ◌∙◌, arith, TablesState, AreDecided}
use Rattle.version_index.proofs.OfOpening.ScanDecided.{start_decided, numbered_in}
use Rattle.version_index.proofs.deciding.decide_records.Goals as goal

pub loop-at-init : goal.loop-at-init
loop-at-init c = start_decided c.args.standing.now.protocol c.args.standing.now.list c.args.numbers.now c.args.logical
    c.args.tables.now c.requires.undecided

pub decide_record-requires-clause-numbered : goal.decide_record-requires-clause-numbered
decide_record-requires-clause-numbered c =
    numbered_in c.args.standing.now.list c.args.numbers.now c.args.tables.now c.loop-at.tables c.requires.numbered
    (ap (λ (t : TablesState). t.records) c.loop-at.invariant.rest)

pub decide_record-requires-clause-pages : goal.decide_record-requires-clause-pages
decide_record-requires-clause-pages c =
    ap (λ (t : TablesState). length t.pages) c.loop-at.invariant.rest ∙ c.requires.pages

pub decide_record-requires-clause-within : goal.decide_record-requires-clause-within
decide_record-requires-clause-within c =
    let long = ap length (c.records-at-end.ensures.records ∙ c.sorted_records.ensures) in
    let below = c.loop-at-test.true in
    omega arith

pub loop-at-preserved : goal.loop-at-preserved
loop-at-preserved c = c.decide_record.ensures c.args.tables.now c.loop-at.invariant

pub returns : goal.returns
returns c =
    let long = ap length (c.records-at-end.ensures.records ∙ c.sorted_records.ensures) in
    let all = c.loop-at-test.false in
    let end = c.loop-at.auto.at-end in
    subst (AreDecided c.args.standing.now.protocol c.args.standing.now.list c.args.numbers.now c.args.logical
    c.args.tables.now c.loop-at.tables)
    (let same : c.loop-at.at ≡ length c.args.standing.now.list = omega arith in same) c.loop-at.invariant
