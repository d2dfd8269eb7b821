use Rattle.desk_tasks.proofs.Common.{ap, ◌∙◌, MemFlashState, RefusesDevice}
use Rattle.desk_tasks.specs.Runs.{blank_image, default_config}
use Rattle.desk_tasks.proofs.DriveLemmas.{fresh_drive, stops_in_memory}
use Rattle.desk_tasks.proofs.Parts.{blank_opens}
use Rattle.desk_tasks.proofs.driving.drive_fresh.Goals as goal

pub returns-clause-ok : goal.returns-clause-ok
returns-clause-ok c =
    let blank = ap (λ (s : MemFlashState). s.image) c.in_ok-blank.ensures in
    let its = default_config c.args.protocol in
    fresh_drive c.default_config-config.result its c.in_ok-blank.blank.image (blank_image its) c.args.start c.args.count
    c.drive_flash.result c.default_config-config.ensures
    (blank ∙ ap blank_image c.default_config-config.ensures) c.drive_flash.ensures.ok

pub returns-clause-err : goal.returns-clause-err
returns-clause-err c =
    let its = c.default_config-config.result in
    let image = c.in_ok-blank.blank.image in
    stops_in_memory (RefusesDevice its image)
    (blank_opens c.args.protocol its image c.default_config-config.ensures
    (ap (λ (s : MemFlashState). s.image) c.in_ok-blank.ensures)) c.drive_flash.result c.drive_flash.ensures.err
