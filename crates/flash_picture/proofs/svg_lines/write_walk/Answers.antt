use Rattle.flash_picture.proofs.Common.{◌≡◌, ◌∙◌, ℕ, ◌+◌, ◌≤◌, ◌++◌, ap, ap₂, arith, length, on_ok_weaker, sym, walk_rows, walk_takes}
use Rattle.std.proofs.lemmas.Result.{IfOk-weaker}
use Rattle.flash_picture.specs.Svg.{rows_taken, walk_rows_text}
use Rattle.flash_picture.proofs.svg_lines.write_walk.Goals as goal

pub returns-in_ok-steps-in-Some-clause-text : goal.returns-in_ok-steps-in-Some-clause-text
returns-in_ok-steps-in-Some-clause-text c =
    let old = c.args.text.now.items in
    on_ok_weaker c.write_rows-outcome.result
    (λ drawn. drawn ∙ ap₂ (λ name steps. old ++ walk_rows_text name steps c.in-Some.end) c.newest_name.ensures
    (c.deref.ensures.value ∙ c.in_ok-steps-in-Some.ensures.steps)
    ∙ ap (λ e. old ++ walk_rows c.args.chart.now c.args.logical c.args.page e) (sym c.in-Some.is))
    c.write_rows-outcome.ensures.text

pub returns-in_ok-steps-in-Some-clause-lines : goal.returns-in_ok-steps-in-Some-clause-lines
returns-in_ok-steps-in-Some-clause-lines c =
    IfOk-weaker c.write_rows-outcome.result (λ (n : ℕ). n ≡ rows_taken c.newest_name.result c.deref.result.now)
    (λ (n : ℕ). n ≡ walk_takes c.args.chart.now c.args.logical c.args.page c.args.end)
    (λ n is. is ∙ ap₂ rows_taken c.newest_name.ensures
    (c.deref.ensures.value ∙ c.in_ok-steps-in-Some.ensures.steps)
    ∙ ap (walk_takes c.args.chart.now c.args.logical c.args.page) (sym c.in-Some.is))
    c.write_rows-outcome.ensures.lines

pub returns-in_ok-steps-in-Some-clause-few : goal.returns-in_ok-steps-in-Some-clause-few
returns-in_ok-steps-in-Some-clause-few c =
    let same = ap length c.deref.ensures.value in
    let few = c.in_ok-steps-in-Some.ensures.few in
    IfOk-weaker c.write_rows-outcome.result (λ (n : ℕ). n ≤ length c.deref.result.now + 1) (λ (n : ℕ). n ≤ 19)
    (λ n is. omega arith) c.write_rows-outcome.ensures.few
