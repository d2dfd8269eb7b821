use Rattle.desk_tasks.proofs.Common.{refl, Same, Comparing}
use Rattle.desk_tasks.proofs.Works.{stopped}
use Rattle.desk_tasks.proofs.comparing.compare_devices.Goals as goal

pub returns-in_err-logical : goal.returns-in_err-logical
returns-in_err-logical c =
    let comparing = Comparing c.args.config c.args.flash.image c.args.second c.args.other.image in
    stopped comparing comparing c.from_residual.result c.in_err-logical.field-0.0 c.from_residual.ensures.1
    (λ ending h. h) c.in_err-logical.ensures.err

pub returns : goal.returns
returns c = (
  Same c.in_ok-logical.logical,
  c.in_ok-logical.ensures.ok,
  refl,
  record { saves_nothing = refl; said = c.in_ok-line.ensures },
)
