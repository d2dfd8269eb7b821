use Rattle.desk_tasks.proofs.Common.{◌∙◌, Judging, RefusesDevice}
use Rattle.desk_tasks.specs.Checking.{ChecksList}
use Rattle.desk_tasks.specs.Ending.{Good}
use Rattle.desk_tasks.specs.declared.output.Failure.TheVariants as stop
use Rattle.desk_tasks.proofs.Findings.{few_pages, judging, judging_device, leads_err, leads_ok, leads_stop, own_pages, scanned_list}
use Rattle.desk_tasks.proofs.checking.check_by.Goals as goal

pub returns-in_err-device-clause-err : goal.returns-in_err-device-clause-err
returns-in_err-device-clause-err g c =
    let its = c.args.config in
    let image = c.args.flash.image in
    leads_stop (RefusesDevice its image) (Judging its image c.args.text.now) (judging_device its image c.args.text.now)
    c.from_residual.result
    c.in_err-device.field-0.0 c.from_residual.ensures.1 c.in_err-device.ensures.err

pub check_records-requires-clause-few : goal.check_records-requires-clause-few
check_records-requires-clause-few g c = few_pages c.args.config c.requires.check

pub check_records-requires-clause-pages : goal.check_records-requires-clause-pages
check_records-requires-clause-pages g c =
    own_pages c.args.config c.args.flash.image c.deref.result.now c.in_ok-device.ensures.sound
    (c.deref.ensures.value ∙ c.in_ok-found.ensures ∙ c.in_ok-device.ensures.list)

pub check_records-requires-clause-scanned : goal.check_records-requires-clause-scanned
check_records-requires-clause-scanned g c =
    scanned_list c.args.config c.args.flash.image c.deref.result.now
    (c.deref.ensures.value ∙ c.in_ok-found.ensures ∙ c.in_ok-device.ensures.list)

pub returns-clause-ok : goal.returns-clause-ok
returns-clause-ok g c =
    let its = c.args.config in
    let image = c.args.flash.image in
    let list = c.deref.result.now in
    let text = c.args.text.now in
    leads_ok (ChecksList its.protocol list its.logical text) (Judging its image text) Good
    (judging its image text list c.in_ok-device.ensures.sound (c.deref.ensures.value ∙ c.in_ok-found.ensures
    ∙ c.in_ok-device.ensures.list))
    c.check_records.result c.check_records.ensures.ok

pub returns-clause-err : goal.returns-clause-err
returns-clause-err g c =
    let its = c.args.config in
    let image = c.args.flash.image in
    let list = c.deref.result.now in
    let text = c.args.text.now in
    leads_err (ChecksList its.protocol list its.logical text) (Judging its image text)
    (judging its image text list c.in_ok-device.ensures.sound (c.deref.ensures.value ∙ c.in_ok-found.ensures
    ∙ c.in_ok-device.ensures.list))
    c.check_records.result c.check_records.ensures.err

pub returns-in_err-found-clause-err : goal.returns-in_err-found-clause-err
returns-in_err-found-clause-err g c =
    let judging_of = Judging c.args.config c.args.flash.image c.args.text.now in
    leads_stop judging_of judging_of (λ ending h. h) c.from_residual-in_err-found.result stop.Memory
    c.from_residual-in_err-found.ensures.1 tt
