use Rattle.flash_picture.proofs.Common.{arith, ◌∙◌, ◌++◌, ap, walk_line}
use Rattle.flash_picture.specs.Walks.{walk_text}
use Rattle.flash_picture.proofs.Texts.{text_all, text_more, text_none}
use Rattle.flash_picture.proofs.walk.write_lines.Goals as goal

pub loop-page-init : goal.loop-page-init
loop-page-init c = text_none (walk_text c.args.protocol c.args.chart.now c.args.logical) c.args.text.now.items

pub loop-page-preserved : goal.loop-page-preserved
loop-page-preserved c =
    text_more (walk_text c.args.protocol c.args.chart.now c.args.logical) c.loop-page.page c.args.text.now.items
    c.loop-page.text.items _
    c.loop-page.invariant
    (c.in_ok-write_walk.ensures ∙ ap (λ e. c.loop-page.text.items ++ walk_line c.args.chart.now c.args.logical
    c.loop-page.page e) c.line_end-end.ensures)

pub returns : goal.returns
returns c =
    text_all (walk_text c.args.protocol c.args.chart.now c.args.logical) c.loop-page.page c.args.logical
    c.args.text.now.items c.loop-page.text.items
    c.loop-page.invariant (omega arith)
