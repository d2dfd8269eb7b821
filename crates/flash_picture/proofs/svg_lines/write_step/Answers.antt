use Rattle.flash_picture.proofs.Common.{◌≡◌, ◌∙◌, ℕ, ◌+◌, [], ◌++◌, ap, append_assoc, cond, le-ltb, length, lt-ltb, on_ok_weaker, step_text, sym}
use Rattle.std.proofs.lemmas.Result.{IfOk-weaker}
use Rattle.flash_picture.specs.Svg.{columns_with, row_break}
use Rattle.flash_picture.proofs.svg_lines.write_step.Goals as goal

pub returns-in_ok-add-clause-text : goal.returns-in_ok-add-clause-text
returns-in_ok-add-clause-text c =
    let old = c.args.text.now.items in
    let said = step_text c.args.step in
    on_ok_weaker c.write_behind.result
    (λ drawn. drawn ∙ ap (λ t. t ++ said) c.in_ok-add.ensures ∙ append_assoc old row_break said
    ∙ ap (λ full. old ++ (cond full row_break [] ++ said))
    (sym (lt-ltb 80 c.args.columns c.if-columns-gt-FULL_COLUMNS.true)))
    c.write_behind.ensures.text

pub returns-in_ok-add-clause-columns : goal.returns-in_ok-add-clause-columns
returns-in_ok-add-clause-columns c =
    let said = length (step_text c.args.step) in
    IfOk-weaker c.write_behind.result (λ (n : ℕ). n ≡ 0 + said)
    (λ (n : ℕ). n ≡ columns_with c.args.columns c.args.step)
    (λ n is. is ∙ ap (λ full. cond full 0 c.args.columns + said)
    (sym (lt-ltb 80 c.args.columns c.if-columns-gt-FULL_COLUMNS.true)))
    c.write_behind.ensures.columns

pub returns-in_ok-add-clause-within : goal.returns-in_ok-add-clause-within
returns-in_ok-add-clause-within c = c.write_behind.ensures.within

pub returns-else-columns-gt-FULL_COLUMNS : goal.returns-else-columns-gt-FULL_COLUMNS
returns-else-columns-gt-FULL_COLUMNS c =
    let old = c.args.text.now.items in
    let columns = c.args.columns in
    let said = step_text c.args.step in
    let few = sym (le-ltb 80 columns c.if-columns-gt-FULL_COLUMNS.false) in
    let written = c.write_behind-else-columns-gt-FULL_COLUMNS.ensures in
    record {
      text = on_ok_weaker c.write_behind-else-columns-gt-FULL_COLUMNS.result
          (λ drawn. drawn ∙ ap (λ full. old ++ (cond full row_break [] ++ said)) few) written.text;
      columns = IfOk-weaker c.write_behind-else-columns-gt-FULL_COLUMNS.result
          (λ (n : ℕ). n ≡ columns + length said) (λ (n : ℕ). n ≡ columns_with columns c.args.step)
          (λ n is. is ∙ ap (λ full. cond full 0 columns + length said) few) written.columns;
      within = written.within;
    }
