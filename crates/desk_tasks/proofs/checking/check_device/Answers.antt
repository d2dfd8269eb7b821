use Rattle.desk_tasks.proofs.Common.{refl, Judging}
use Rattle.desk_tasks.specs.Ending.{Good}
use Rattle.desk_tasks.proofs.Works.{stopped}
use Rattle.desk_tasks.proofs.checking.check_device.Goals as goal

pub returns-in_err-pages : goal.returns-in_err-pages
returns-in_err-pages c =
    let judging = Judging c.args.config c.args.flash.image c.args.text.now in
    stopped judging judging c.from_residual.result c.in_err-pages.field-0.0 c.from_residual.ensures.1 (λ ending h. h)
    c.in_err-pages.ensures.err

pub returns : goal.returns
returns c = (
  Good c.in_ok-pages.pages,
  c.in_ok-pages.ensures.ok,
  refl,
  record { saves_nothing = refl; said = c.in_ok-line.ensures },
)
