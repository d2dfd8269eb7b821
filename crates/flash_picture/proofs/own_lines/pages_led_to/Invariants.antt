use Rattle.flash_picture.specs.Walks.{AreLedTo}
use Rattle.flash_picture.proofs.own_lines.pages_led_to.Given as goal

abbrev pub invariant-loop-page : goal.invariant-loop-page
invariant-loop-page l = AreLedTo l.protocol l.chart l.logical l.page l.led.items
