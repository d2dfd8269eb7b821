mod Leaders
use Rattle.flash_picture.proofs.Common.{◌≡◌, arith}
use mathlib.Core.Path.{subst}
use Rattle.flash_picture.specs.Walks.{AreLedTo}
use Rattle.flash_picture.proofs.own_lines.pages_led_to.Answers.Leaders.{led_more}
use Rattle.flash_picture.proofs.own_lines.pages_led_to.Goals as goal

pub loop-page-preserved : goal.loop-page-preserved
loop-page-preserved c =
    rw (c.mark.ensures, c.page_behind.ensures.page)
    (led_more c.args.protocol c.args.chart.now c.args.logical c.loop-page.page c.loop-page.led.items
    c.loop-page.invariant)

pub returns : goal.returns
returns c =
    let all : c.loop-page.page ≡ c.args.logical = omega arith in
    subst (λ n. AreLedTo c.args.protocol c.args.chart.now c.args.logical n c.loop-page.led.items) all
    c.loop-page.invariant
