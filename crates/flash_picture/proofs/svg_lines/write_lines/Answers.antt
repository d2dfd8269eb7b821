use Rattle.flash_picture.proofs.Common.{◌≡◌, ◌∙◌, ◌+◌, ◌++◌, ap, ap₂, arith, refl, sym, walk_rows, walk_svg, walk_takes, walks_take}
use Rattle.std.proofs.Common.{add-one}
use Rattle.flash_picture.proofs.Texts.{text_all, text_more, text_none}
use Rattle.flash_picture.proofs.svg_lines.write_lines.Goals as goal

pub loop-page-preserved : goal.loop-page-preserved
loop-page-preserved c =
    let list = c.args.chart.now in
    let logical = c.args.logical in
    let page = c.loop-page.page in (
      text_more (walk_svg c.args.protocol list logical) page c.args.text.now.items c.loop-page.text.items
          _ c.loop-page.invariant.0
          (c.in_ok-lines.ensures.text ∙ ap (λ e. c.loop-page.text.items ++ walk_rows list logical page e)
          c.line_end-end.ensures),
      ap₂ (λ a b. a + b) c.loop-page.invariant.1 (c.in_ok-lines.ensures.lines
          ∙ ap (walk_takes list logical page) c.line_end-end.ensures)
          ∙ ap (walks_take c.args.protocol list logical) (sym (add-one page)),
      omega (arith, c.in_ok-lines.ensures.few, c.loop-page.invariant.2),
    )

pub loop-page-init : goal.loop-page-init
loop-page-init c =
    (text_none (walk_svg c.args.protocol c.args.chart.now c.args.logical) c.args.text.now.items, refl, omega arith)

pub returns-clause-text : goal.returns-clause-text
returns-clause-text c =
    text_all (walk_svg c.args.protocol c.args.chart.now c.args.logical) c.loop-page.page c.args.logical
    c.args.text.now.items c.loop-page.text.items
    c.loop-page.invariant.0 (omega arith)

pub returns-clause-lines : goal.returns-clause-lines
returns-clause-lines c =
    let all : c.loop-page.page ≡ c.args.logical = omega arith in
    c.loop-page.invariant.1 ∙ ap (walks_take c.args.protocol c.args.chart.now c.args.logical) all

pub returns-clause-few : goal.returns-clause-few
returns-clause-few c = omega (arith, c.loop-page.invariant.2)
