use Rattle.desk_tasks.proofs.Common.{◌≡◌, ℕ, ◌∙◌, records_in, RefusesDevice}
use Rattle.std.specs.Prelude.{Result, Ok, Err, OnOk, Vec}
use Rattle.std.specs.Global.{Global}
use Rattle.std.proofs.lemmas.Result.{IfOk-weaker}
use Rattle.verdict_report.specs.Report.{report}
use Rattle.desk_tasks.proofs.RunLemmas.{report_said}
use Rattle.desk_tasks.proofs.Works.{memory_stops}
use Rattle.desk_tasks.proofs.devices.explain_by.Goals as goal

-- what holds in any case holds after Ok
after_ok : {X E : Type 0} (r : Result X E) (P : Type 0) → P → OnOk r P
after_ok (Ok x) P h = h
after_ok (Err e) P h = tt

pub returns-clause-sound : goal.returns-clause-sound
returns-clause-sound g c = after_ok c.report_on.result _ c.in_ok-device.ensures.sound

pub returns-clause-report : goal.returns-clause-report
returns-clause-report g c =
    let its = c.args.config in
    let image = c.args.flash.image in
    let kept = g.R.CommitRule.protocol in
    let list = c.deref.result.now in
    IfOk-weaker c.report_on.result (λ (text : Vec ℕ Global). text.items ≡ report kept list its.logical)
    (λ (text : Vec ℕ Global). text.items ≡ report its.protocol (records_in its.protocol image) its.logical)
    (λ text e. report_said text.items kept its.protocol list image its.logical
    (c.deref.ensures.value ∙ c.in_ok-found.ensures ∙ c.in_ok-device.ensures.list) c.requires.rule e)
    c.report_on.ensures.ok

pub returns-clause-err : goal.returns-clause-err
returns-clause-err g c = memory_stops (RefusesDevice c.args.config c.args.flash.image) c.report_on.result
    c.report_on.ensures.err
