use Rattle.desk_tasks.proofs.Common.{array_of_device, ComesTo, Same, Opening, RefusesDevice}
use Rattle.desk_tasks.proofs.Findings.{leads_err, leads_ok, leads_stop, opened_second, second_refused}
use Rattle.desk_tasks.proofs.comparing.compare_to_flash.Goals as goal

pub returns-in_err-two-clause-err : goal.returns-in_err-two-clause-err
returns-in_err-two-clause-err g c =
    let a = c.args.config in
    let pages = c.args.one.now.machine.pages in
    let b = c.args.second in
    let other = c.args.other.image in
    leads_stop (RefusesDevice b other) (Opening b other (ComesTo a pages b (array_of_device b other)))
    (second_refused a pages b other)
    c.from_residual.result c.in_err-two.field-0.0 c.from_residual.ensures.1 c.in_err-two.ensures.err

pub returns-clause-ok : goal.returns-clause-ok
returns-clause-ok g c =
    let a = c.args.config in
    let pages = c.args.one.now.machine.pages in
    let b = c.args.second in
    let other = c.args.other.image in
    let two = c.in_ok-two.two.machine in
    leads_ok (ComesTo a pages b two.pages) (Opening b other (ComesTo a pages b (array_of_device b other))) Same
    (opened_second a pages b other c.in_ok-two.ensures.sound two c.in_ok-two.ensures.ok.machine)
    c.compare_opened-outcome.result c.compare_opened-outcome.ensures.ok

pub returns-clause-err : goal.returns-clause-err
returns-clause-err g c =
    let a = c.args.config in
    let pages = c.args.one.now.machine.pages in
    let b = c.args.second in
    let other = c.args.other.image in
    let two = c.in_ok-two.two.machine in
    leads_err (ComesTo a pages b two.pages) (Opening b other (ComesTo a pages b (array_of_device b other)))
    (opened_second a pages b other c.in_ok-two.ensures.sound two c.in_ok-two.ensures.ok.machine)
    c.compare_opened-outcome.result c.compare_opened-outcome.ensures.err
