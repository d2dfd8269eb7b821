use Rattle.desk_tasks.proofs.Common.{refl, Ok, Err, Comparing, Reading}
use Rattle.desk_tasks.proofs.Works.{unread_image, works_on}
use Rattle.desk_tasks.proofs.comparing.compare_from_bytes.Goals as goal

pub returns-in-Err : goal.returns-in-Err
returns-in-Err c = unread_image c.args.others.items _ (Err c.from.result) c.in-Err.stop c.from.ensures
    c.in-Err.ensures.err

pub returns : goal.returns
returns c =
    let a = c.args.config in
    let image = c.args.flash.image in
    let b = c.in-Ok.read.0 in
    let other = c.in-Ok.read.1 in
    works_on (Comparing a image b other.image) (Reading c.args.others.items (λ b other more. Comparing a image b other))
    (λ ending h. (Ok (b, other.image, other.extras), c.in-Ok.ensures.read, (h, refl))) c.compare_devices.result
    c.compare_devices.ensures
