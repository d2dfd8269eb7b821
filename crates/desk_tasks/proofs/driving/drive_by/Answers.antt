use Rattle.desk_tasks.proofs.Common.{[], refl, state_of}
use Rattle.cut_replay.specs.Sessions.{flash_in}
use Rattle.desk_tasks.proofs.FileServing.{file_run, none_run}
use Rattle.desk_tasks.proofs.RunLemmas.{is_steady, unserved}
use Rattle.drive_gen.specs.Work.{generated}
use Rattle.desk_tasks.proofs.driving.drive_by.Goals as goal

pub returns-in-Ok-driven-clause-ok : goal.returns-in-Ok-driven-clause-ok
returns-in-Ok-driven-clause-ok g c =
    let its = c.args.config in
    let flash = c.args.flash in
    let opens = c.in-Ok.ensures.opens in
    let sound = opens.steady (is_steady its flash c.requires.ready) in
    let said = c.in-Ok-driven.ensures.runs flash
    (none_run its flash c.in-Ok.server.session [] refl (opens.served sound)) in
    let end = c.drive_server-driven.new.server.session in
    record {
      left = (flash_in end).image;
      text = said.0;
      run = file_run its flash (flash_in end) (generated c.args.start c.args.count its) end said.0 c.requires.ready
          sound refl said.1;
      said = said.2;
    }

pub returns-in-Err-driven-clause-err : goal.returns-in-Err-driven-clause-err
returns-in-Err-driven-clause-err g c =
    let its = c.args.config in
    unserved its c.args.flash (flash_in c.drive_server-driven.new.server.session) c.in-Err-driven.why
    c.from.result c.from.ensures
    (c.in-Err-driven.ensures.refuses c.args.flash c.in-Ok.ensures.opens.kept)
