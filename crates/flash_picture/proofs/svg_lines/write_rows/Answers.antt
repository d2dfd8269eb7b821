use Rattle.flash_picture.proofs.Common.{◌≡◌, ◌∙◌, ◌-◌, ◌++◌, ap, arith, length, steps_rows}
use Rattle.std.proofs.Common.{length-append}
use Rattle.flash_picture.specs.Walks.{start_text}
use Rattle.flash_picture.proofs.Texts.{then}
use Rattle.flash_picture.proofs.svg_lines.write_rows.Goals as goal

pub returns-clause-text : goal.returns-clause-text
returns-clause-text c =
    let old = c.args.text.now.items in
    let begun = c.open_line.new.text.items in
    let all = ap length c.in_ok-write_start.ensures ∙ length-append begun (start_text c.args.start) in
    let columns : c.len.result - c.len-from.result ≡ length (start_text c.args.start) =
    omega (arith, all, c.len.ensures, c.len-from.ensures) in
    let rows = c.in_ok-begun.ensures.text ∙ ap (λ n. c.write_start.new.text.items ++ steps_rows n c.args.steps.now)
    columns in
    let words = then begun _ _ _ _ (then begun _ _ _ _ c.in_ok-write_start.ensures rows) c.in_ok-write.ensures in
    then old _ _ _ _ (then old _ _ _ _ c.in_ok-open_line.ensures words) c.in_ok-add.ensures

pub returns-clause-few : goal.returns-clause-few
returns-clause-few c = omega (arith, c.in_ok-begun.ensures.few)
