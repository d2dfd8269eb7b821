use Rattle.desk_tasks.proofs.Common.{ap, refl, Ok, MemFlashState, Trying}
use Rattle.desk_tasks.specs.Ending.{Tried}
use Rattle.desk_tasks.specs.FileServing.{RefusesFile}
use Rattle.desk_tasks.proofs.Parts.{file_blank, trying_file}
use Rattle.desk_tasks.proofs.Works.{stopped}
use Rattle.desk_tasks.proofs.tasks.try_from_bytes.Goals as goal

pub returns-in_err-flash : goal.returns-in_err-flash
returns-in_err-flash c =
    let its = c.default_config-config.result in
    let flash = c.in_ok-blank.blank in
    stopped (RefusesFile its flash c.args.lines.now) (Trying c.args.lines.now) c.from_residual-in_err-flash.result
    c.in_err-flash.field-0.0 c.from_residual-in_err-flash.ensures.1
    (trying_file its flash c.args.lines.now c.default_config-config.ensures
    (ap (λ (s : MemFlashState). s.image) c.in_ok-blank.ensures)) c.in_err-flash.ensures.err

pub returns : goal.returns
returns c =
    let served = c.in_ok-flash.ensures.run in
    let whole = file_blank c.default_config-config.result c.in_ok-blank.blank c.args.lines.now served.0
    c.in_ok-flash.field-0.flash.image c.in_ok-flash.field-0.replies c.default_config-config.ensures
    (ap (λ (s : MemFlashState). s.image) c.in_ok-blank.ensures) served.1 served.2 in (
      Tried served.0,
      (Ok served.0, whole.0, refl),
      refl,
      record { saves_nothing = refl; left = c.in_ok-flash.field-0.flash.image; run = whole.1 },
    )
