use Rattle.desk_tasks.proofs.Common.{refl, Ok, Judging}
use Rattle.desk_tasks.specs.Steps.{Checking}
use Rattle.desk_tasks.proofs.Works.{unread_image, works_on}
use Rattle.desk_tasks.proofs.checking.check_from_bytes.Goals as goal

pub returns-in_err-config : goal.returns-in_err-config
returns-in_err-config c =
    unread_image c.args.bytes.items _ c.from_residual.result c.in_err-config.field-0.0 c.from_residual.ensures.1
    c.in_err-config.ensures.err

pub returns : goal.returns
returns c =
    let its = c.in_ok-config.config in
    let flash = c.in_ok-config.flash in
    works_on (Judging its flash.image c.args.text.now) (Checking c.args.bytes.items c.args.text.now)
    (λ ending h. (Ok (its, flash.image, flash.extras), c.in_ok-config.ensures.read, (h, refl))) c.check_device.result
    c.check_device.ensures
