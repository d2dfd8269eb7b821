use Rattle.desk_tasks.proofs.Common.{◌≡◌, inl, inr, sym, ap, Some, ◌∙◌, shape_of, Ending, RefusesDevice, RefusesRetirement}
use Rattle.desk_tasks.specs.Retirements.{block_refusal}
use Rattle.desk_tasks.proofs.Findings.{leads_stop}
use Rattle.desk_tasks.proofs.Retirements.{idle_again, leaves_retired, opened_refusal, opened_shape}
use Rattle.desk_tasks.proofs.Works.{stops_by}
use Rattle.desk_tasks.proofs.retiring.retire_by.Goals as goal

pub returns-in_err-device-clause-err : goal.returns-in_err-device-clause-err
returns-in_err-device-clause-err g c =
    let flash = c.args.flash in
    leads_stop (RefusesDevice c.args.config flash.image) (RefusesRetirement c.args.config flash.image flash.extras
    c.args.block.0) (λ ending h. inl h)
    c.from_residual.result c.in_err-device.field-0.0 c.from_residual.ensures.1 c.in_err-device.ensures.err

pub retire-done-requires-clause-shape : goal.retire-done-requires-clause-shape
retire-done-requires-clause-shape g c =
    let opened = c.in_ok-device.device in
    let mounts = c.in_ok-device.ensures.ok in
    opened_shape c.args.config c.args.flash opened c.requires.ready mounts ∙ sym (ap shape_of mounts.config)

pub retire-done-requires-clause-idle : goal.retire-done-requires-clause-idle
retire-done-requires-clause-idle g c =
    idle_again c.in_ok-device.device.machine _ c.in_ok-device.ensures.ok.machine

pub returns-in-Err-clause-err : goal.returns-in-Err-clause-err
returns-in-Err-clause-err g c =
    let flash = c.args.flash in
    let opened = c.in_ok-device.device in
    let kept = c.in_ok-device.ensures in
    stops_by (λ (ending : Ending). block_refusal opened.config opened.flash.extras c.args.block.0 ≡ Some ending)
    (RefusesRetirement c.args.config flash.image flash.extras c.args.block.0)
    (λ ending h. inr (
      kept.sound,
      opened_refusal c.args.config flash opened c.requires.ready kept.ok c.args.block.0
          (Some ending) h,
    ))
    c.in-Err.stop c.in-Err.ensures.err

pub returns-in-Ok-clause-ok : goal.returns-in-Ok-clause-ok
returns-in-Ok-clause-ok g c =
    let kept = c.in_ok-device.ensures in
    leaves_retired c.args.config c.args.flash c.in_ok-device.device c.requires.ready kept.ok c.args.block.0
    c.retire-done.new.device c.close-left.result c.config.ensures.stands.matches.flash
    kept.sound c.in-Ok.ensures.refusal c.in-Ok.ensures.retires c.close-left.ensures
