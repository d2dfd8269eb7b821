use Rattle.desk_tasks.proofs.Common.{array_of_device, ComesTo, Same, Comparing, Opening, RefusesDevice}
use Rattle.desk_tasks.proofs.Findings.{first_opened, first_refused, leads_err, leads_ok}
use Rattle.desk_tasks.proofs.Works.{stops_by}
use Rattle.desk_tasks.proofs.comparing.compare_by.Goals as goal

pub returns-in-Ok-clause-ok : goal.returns-in-Ok-clause-ok
returns-in-Ok-clause-ok g c =
    let a = c.args.config in
    let image = c.args.flash.image in
    let b = c.args.second in
    let other = c.args.other.image in
    let one = c.in-Ok.one.machine in
    leads_ok (Opening b other (ComesTo a one.pages b (array_of_device b other))) (Comparing a image b other) Same
    (first_opened a image b other c.in-Ok.ensures.sound one c.in-Ok.ensures.ok.machine)
    c.compare_to_flash-outcome.result c.compare_to_flash-outcome.ensures.ok

pub returns-in-Ok-clause-err : goal.returns-in-Ok-clause-err
returns-in-Ok-clause-err g c =
    let a = c.args.config in
    let image = c.args.flash.image in
    let b = c.args.second in
    let other = c.args.other.image in
    let one = c.in-Ok.one.machine in
    leads_err (Opening b other (ComesTo a one.pages b (array_of_device b other))) (Comparing a image b other)
    (first_opened a image b other c.in-Ok.ensures.sound one c.in-Ok.ensures.ok.machine)
    c.compare_to_flash-outcome.result c.compare_to_flash-outcome.ensures.err

pub returns-in-Err-clause-err : goal.returns-in-Err-clause-err
returns-in-Err-clause-err g c =
    let a = c.args.config in
    let image = c.args.flash.image in
    let b = c.args.second in
    let other = c.args.other.image in
    stops_by (RefusesDevice a image) (Comparing a image b other) (first_refused a image b other) c.in-Err.stop
    c.in-Err.ensures.err
