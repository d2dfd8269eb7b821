use Rattle.verdict_check.proofs.Common.{arith, eqb-true, eq-eqb, refl, sym, ap, ◌∙◌, subst, None, Some, length, ◌+◌, verdict_line, last_line, AreWalkEnds, behind}
use Rattle.std.proofs.lemmas.List.{nil_from_length}
use Rattle.verdict_report.proofs.PageLemmas.{length-pages}
use Rattle.verdict_check.proofs.PlaceLemmas.{nothing_at}
use Rattle.verdict_check.proofs.ReportLemmas.{AreLinesRead, no_line_read, one_line_read, no_line_here, has_some, has_none, page_is_wrong, end_is_wrong}
use Rattle.verdict_check.proofs.ReportLemmas.{all_read, more_is_left, piece_missing, piece_there}
use Rattle.verdict_check.proofs.check.read_report.Goals as goal
use Rattle.verdict_check.proofs.check.read_report.Goals.{in-Some+in-Some-rest, in_default}

pub loop-page-init : goal.loop-page-init
loop-page-init c = (
  no_line_read (verdict_line c.args.judge.now.protocol c.args.judge.now.records.list.now c.args.judge.now.logical)
      c.args.judge.now.records.list.now
      c.args.report.now,
  (λ page course some. absurd (let none = nothing_at c.args.courses.now None c.requires.empty page in cc)),
  refl,
)

pub overflow_add-result : goal.overflow_add-result
overflow_add-result c = let few = length-pages c.args.judge.now.records.list.now c.loop-page.page in
    let n = c.loop-page.invariant.0.count_is in omega arith

pub overflow_add-count : goal.overflow_add-count
overflow_add-count c = let few = length-pages c.args.judge.now.records.list.now c.loop-page.page in
    let n = c.loop-page.invariant.0.count_is in omega arith

pub returns-in-None-clause-wrong : goal.returns-in-None-clause-wrong
returns-in-None-clause-wrong c =
    let list = c.args.judge.now.records.list.now in
    let line = c.read_line.ensures c.args.judge.now.protocol c.args.judge.now.logical c.line-line.ensures.is in
    let none = piece_missing (verdict_line c.args.judge.now.protocol list c.args.judge.now.logical
    c.line-line.result.page) c.loop-page.rest.now c.of.result
    c.read_line.result
    c.of.ensures line c.in-None.is in
    page_is_wrong c.args.judge.now.protocol list c.args.judge.now.logical c.loop-page.page c.args.report.now
    c.loop-page.rest.now c.loop-page.count
    (c.loop-page.count + 1)
    (omega arith) (has_some list c.loop-page.page c.in-Some.place c.in-Some.ensures) c.loop-page.invariant.0
    (none ∙ ap (λ n. behind (verdict_line c.args.judge.now.protocol list c.args.judge.now.logical n)
    c.loop-page.rest.now) c.line-line.ensures.page) refl

pub loop-page-preserved : goal.loop-page-preserved
loop-page-preserved c =
    let list = c.args.judge.now.records.list.now in
    elim c.match-place.branch [
      | in-Some+in-Some-rest w ↦ (
          let line = w.read_line.ensures c.args.judge.now.protocol c.args.judge.now.logical w.line-line.ensures.is in
          let some = piece_there (verdict_line c.args.judge.now.protocol list c.args.judge.now.logical
          w.line-line.result.page) c.loop-page.rest.now w.of.result
          w.read_line.result
          _ w.of.ensures line w.in-Some-rest.is in (
            one_line_read (verdict_line c.args.judge.now.protocol list c.args.judge.now.logical) list c.loop-page.page
                c.args.report.now c.loop-page.rest.now _
                c.loop-page.count _
                (has_some list c.loop-page.page w.in-Some.place w.in-Some.ensures) c.loop-page.invariant.0
                (ap (λ r. Some r.now) w.rest-is ∙ some
                ∙ ap (λ n. behind (verdict_line c.args.judge.now.protocol list c.args.judge.now.logical n)
                c.loop-page.rest.now) w.line-line.ensures.page)
                w.count-is,
            subst (AreWalkEnds list c.args.judge.now.logical) (sym w.courses-is) w.line-line.ensures.known,
            ap length w.courses-is ∙ w.line-line.ensures.size ∙ c.loop-page.invariant.2,
          ))
      | in_default w ↦ (
        no_line_here (verdict_line c.args.judge.now.protocol list c.args.judge.now.logical) list c.loop-page.page
            c.args.report.now _ _
            (has_none list c.loop-page.page c.requires.scanned w.in_default.ensures)
            (subst (λ r. AreLinesRead (verdict_line c.args.judge.now.protocol list c.args.judge.now.logical) list
            c.loop-page.page c.args.report.now r.now
            c.match-place.count) (sym w.rest-is)
            (subst (λ n. AreLinesRead (verdict_line c.args.judge.now.protocol list c.args.judge.now.logical) list
            c.loop-page.page c.args.report.now
            c.loop-page.rest.now n) (sym w.count-is)
            c.loop-page.invariant.0)),
        subst (AreWalkEnds list c.args.judge.now.logical) (sym w.courses-is) c.loop-page.invariant.1,
        ap length w.courses-is ∙ c.loop-page.invariant.2,
      )
    ]

pub overflow_add-result-in_default-rest : goal.overflow_add-result-in_default-rest
overflow_add-result-in_default-rest c = let few = length-pages c.args.judge.now.records.list.now c.loop-page.page in
    let n = c.loop-page.invariant.0.count_is in
    omega arith

pub overflow_add-result-else-is_empty : goal.overflow_add-result-else-is_empty
overflow_add-result-else-is_empty c = let few = length-pages c.args.judge.now.records.list.now c.loop-page.page in
    let n = c.loop-page.invariant.0.count_is in
    omega arith

pub returns-in_default-rest-clause-wrong : goal.returns-in_default-rest-clause-wrong
returns-in_default-rest-clause-wrong c =
    end_is_wrong c.args.judge.now.protocol c.args.judge.now.records.list.now c.args.judge.now.logical c.loop-page.page
    c.args.report.now c.loop-page.rest.now
    c.loop-page.count (c.loop-page.count + 1)
    (omega arith) c.loop-page.invariant.0
    (piece_missing (last_line c.loop-page.count) c.loop-page.rest.now c.of-2.result c.read_last.result c.of-2.ensures
    c.read_last.ensures c.in_default-rest.is)
    refl

pub returns-then-is_empty-clause-good : goal.returns-then-is_empty-clause-good
returns-then-is_empty-clause-good c =
    all_read c.args.judge.now.protocol c.args.judge.now.records.list.now c.args.judge.now.logical c.loop-page.page
    c.args.report.now c.loop-page.rest.now
    c.in-Some-rest-2.behind.now c.loop-page.count
    (omega arith)
    (nil_from_length c.in-Some-rest-2.behind.now (eqb-true (length c.in-Some-rest-2.behind.now) 0
    (sym c.is_empty.ensures ∙ c.if-is_empty.true)))
    c.loop-page.invariant.0
    (piece_there (last_line c.loop-page.count) c.loop-page.rest.now c.of-2.result c.read_last.result
    c.in-Some-rest-2.behind c.of-2.ensures c.read_last.ensures
    c.in-Some-rest-2.is)

pub returns-else-is_empty-clause-wrong : goal.returns-else-is_empty-clause-wrong
returns-else-is_empty-clause-wrong c =
    more_is_left c.args.judge.now.protocol c.args.judge.now.records.list.now c.args.judge.now.logical c.loop-page.page
    c.args.report.now c.loop-page.rest.now
    c.in-Some-rest-2.behind.now c.loop-page.count
    (c.loop-page.count + 2) (omega arith)
    (λ e. let yes = eq-eqb (length c.in-Some-rest-2.behind.now) 0 (ap length e) in let h = c.is_empty.ensures in
    let t = c.if-is_empty.false in
    absurd cc) c.loop-page.invariant.0
    (piece_there (last_line c.loop-page.count) c.loop-page.rest.now c.of-2.result c.read_last.result
    c.in-Some-rest-2.behind c.of-2.ensures c.read_last.ensures
    c.in-Some-rest-2.is) refl
