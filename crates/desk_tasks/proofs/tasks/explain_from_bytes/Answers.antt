use Rattle.desk_tasks.proofs.Common.{refl, Explaining, RefusesDevice}
use Rattle.desk_tasks.specs.Ending.{Explained}
use Rattle.desk_tasks.proofs.Parts.{explaining_device, explaining_done}
use Rattle.desk_tasks.proofs.Works.{stopped, unread_image}
use Rattle.desk_tasks.proofs.tasks.explain_from_bytes.Goals as goal

pub returns-in_err-config : goal.returns-in_err-config
returns-in_err-config c =
    unread_image c.args.bytes.items _ c.from_residual.result c.in_err-config.field-0.0 c.from_residual.ensures.1
    c.in_err-config.ensures.err

pub returns-in_err-report : goal.returns-in_err-report
returns-in_err-report c =
    let its = c.in_ok-config.config in
    let image = c.in_ok-config.flash.image in
    stopped (RefusesDevice its image) (Explaining c.args.bytes.items) c.from_residual-in_err-report.result
    c.in_err-report.field-0.0
    c.from_residual-in_err-report.ensures.1 (explaining_device c.args.bytes.items its image c.in_ok-config.flash.extras
    c.in_ok-config.ensures.read)
    c.in_err-report.ensures.err

pub returns : goal.returns
returns c =
    let its = c.in_ok-config.config in
    let image = c.in_ok-config.flash.image in (
      Explained its image,
      explaining_done c.args.bytes.items its image c.in_ok-config.flash.extras c.in_ok-config.ensures.read
          c.in_ok-report.ensures.sound,
      refl,
      record {
        saves_nothing = refl;
        sound = c.in_ok-report.ensures.sound;
        said = c.in_ok-report.ensures.report;
      },
    )
