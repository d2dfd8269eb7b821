use Rattle.desk_tasks.proofs.Common.{Ran, OpensAndServes, Running}
use Rattle.desk_tasks.specs.Steps.{Parsing}
use Rattle.desk_tasks.proofs.Parts.{running_on}
use Rattle.desk_tasks.proofs.Works.{unread_image, works_on}
use Rattle.desk_tasks.proofs.tasks.run_from_bytes.Goals as goal

pub returns-in_err-config : goal.returns-in_err-config
returns-in_err-config c =
    unread_image c.args.bytes.items _ c.from_residual.result c.in_err-config.field-0.0 c.from_residual.ensures.1
    c.in_err-config.ensures.err

pub returns : goal.returns
returns c =
    let its = c.in_ok-config.config in
    let flash = c.in_ok-config.flash in
    let name = c.args.name.now in
    works_on (Parsing its.page_bytes c.args.lines.now
    (λ commands. OpensAndServes its flash.image (Ran name its flash.image flash.extras commands)))
    (Running name c.args.bytes.items c.args.lines.now)
    (running_on name c.args.bytes.items c.args.lines.now its flash.image flash.extras c.in_ok-config.ensures.read)
    c.run_lines.result c.run_lines.ensures
