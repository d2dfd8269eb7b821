use Rattle.desk_tasks.proofs.Common.{[], ap, ◌∙◌, MemFlashState}
use Rattle.cut_replay.specs.Sessions.{flash_in}
use Rattle.desk_tasks.proofs.FileServing.{begins_file, file_run, same_extras}
use Rattle.desk_tasks.proofs.RunLemmas.{is_steady}
use Rattle.desk_tasks.proofs.serving.serve_lines_by.Goals as goal

pub returns-in-Ok-outcome-clause-run : goal.returns-in-Ok-outcome-clause-run
returns-in-Ok-outcome-clause-run g c =
    let its = c.args.config in
    let flash = c.args.flash in
    let opens = c.in-Ok.ensures.opens in
    let served = rw c.in-Ok-outcome.is at (c.serve_all-outcome.ensures.serves its flash c.args.lines.now []
    (begins_file its flash c.args.lines.now c.in-Ok.server c.new-reader.result c.new-replies.result c.requires.ready
    opens c.new-reader.ensures.size c.new-reader.ensures.read c.new-replies.ensures)) in (
      served.commands,
      served.file,
      file_run its flash c.close-flash.result served.commands c.serve_all-outcome.new.server.session
          c.serve_all-outcome.new.replies c.requires.ready (opens.steady (is_steady its flash c.requires.ready))
          c.close-flash.ensures.flash served.run,
    )

pub returns-in-Ok-outcome-clause-extras : goal.returns-in-Ok-outcome-clause-extras
returns-in-Ok-outcome-clause-extras g c =
    let its = c.args.config in
    let flash = c.args.flash in
    let served = rw c.in-Ok-outcome.is at (c.serve_all-outcome.ensures.serves its flash c.args.lines.now []
    (begins_file its flash c.args.lines.now c.in-Ok.server c.new-reader.result c.new-replies.result c.requires.ready
    c.in-Ok.ensures.opens c.new-reader.ensures.size c.new-reader.ensures.read c.new-replies.ensures)) in
    ap (λ (s : MemFlashState). s.extras) c.close-flash.ensures.flash
    ∙ same_extras (flash_in c.serve_all-outcome.new.server.session).extras flash.extras served.extras

pub returns-in-Err-outcome-clause-err : goal.returns-in-Err-outcome-clause-err
returns-in-Err-outcome-clause-err g c =
    let its = c.args.config in
    let flash = c.args.flash in
    rw c.in-Err-outcome.is at (c.serve_all-outcome.ensures.serves its flash c.args.lines.now []
    (begins_file its flash c.args.lines.now c.in-Ok.server c.new-reader.result c.new-replies.result c.requires.ready
    c.in-Ok.ensures.opens c.new-reader.ensures.size c.new-reader.ensures.read c.new-replies.ensures))
