use Rattle.desk_tasks.proofs.Common.{Ok, refl, Ran, OpensAndServes, RefusesLine}
use Rattle.desk_tasks.specs.FileServing.{RefusesFile}
use Rattle.desk_tasks.specs.Steps.{Parsing}
use Rattle.desk_tasks.proofs.Parts.{parsing_file, parsing_line}
use Rattle.desk_tasks.proofs.Works.{stopped, stops_by}
use Rattle.desk_tasks.proofs.tasks.run_lines.Goals as goal

-- a line is bad, or the file is one of commands: then it is the device that is refused
pub returns-in_err-check_commands-in-Err : goal.returns-in_err-check_commands-in-Err
returns-in_err-check_commands-in-Err c =
    let its = c.args.config in
    let flash = c.args.flash in
    stopped (RefusesLine its.page_bytes c.args.lines.now) (Parsing its.page_bytes c.args.lines.now
    (λ commands. OpensAndServes its flash.image (Ran c.args.name.now its flash.image flash.extras commands)))
    c.from_residual-in_err-check_commands-in-Err.result c.in_err-check_commands-in-Err.field-0.0
    c.from_residual-in_err-check_commands-in-Err.ensures.1
    (parsing_line its flash c.args.lines.now (λ commands. Ran c.args.name.now its flash.image flash.extras commands))
    c.in_err-check_commands-in-Err.ensures.err

pub returns-in_ok-check_commands-in-Err : goal.returns-in_ok-check_commands-in-Err
returns-in_ok-check_commands-in-Err c =
    let its = c.args.config in
    let flash = c.args.flash in
    let file = c.in_ok-check_commands-in-Err.ensures.file in
    stops_by (RefusesFile its flash c.args.lines.now) (Parsing its.page_bytes c.args.lines.now
    (λ commands. OpensAndServes its flash.image (Ran c.args.name.now its flash.image flash.extras commands)))
    (parsing_file its flash c.args.lines.now file.0
    (λ commands. Ran c.args.name.now its flash.image flash.extras commands) file.1) c.in-Err.stop c.in-Err.ensures.err

pub returns-in_ok-saved-in-Ok : goal.returns-in_ok-saved-in-Ok
returns-in_ok-saved-in-Ok c =
    let served = c.in-Ok.ensures.run in
    let run = served.2 in (
      Ran c.args.name.now c.args.config c.args.flash.image c.args.flash.extras served.0,
      (Ok served.0, served.1, (Ok tt, run.sound, refl)),
      refl,
      record {
        bytes = c.in_ok-saved-in-Ok.saved.items;
        saves = refl;
        left = c.in-Ok.served.flash.image;
        run = run;
        spelled = rw c.in-Ok.ensures.extras at c.in_ok-saved-in-Ok.ensures;
      },
    )
