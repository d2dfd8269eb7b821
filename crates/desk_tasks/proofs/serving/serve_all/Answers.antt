use Rattle.desk_tasks.proofs.Common.{◌∷◌, [], ◌∙◌, arith}
use Rattle.std.proofs.Common.{◌++◌}
use Rattle.desk_tasks.proofs.FileServing.{ends_file, goes_on, stops_reading, stops_serving}
use Rattle.desk_tasks.proofs.serving.serve_all.Goals as goal

pub returns-in_err-command-clause-serves : goal.returns-in_err-command-clause-serves
returns-in_err-command-clause-serves g c = λ its flash bytes commands u.
    let at = c.loop-command in
    let so_far = at.invariant.underway its flash bytes commands u in
    stops_reading its flash bytes so_far.0 at.server at.server at.reader at.replies at.replies c.from_residual.result
    c.in_err-command.field-0.0 so_far.1 c.from_residual.ensures.1
    (c.in_err-command.ensures.reads bytes so_far.0 so_far.1.read)

pub loop-command-preserved : goal.loop-command-preserved
loop-command-preserved g c =
    let at = c.loop-command in
    let served = c.in_ok-served.ensures in
    record {
      underway = λ its flash bytes commands u.
          let so_far = at.invariant.underway its flash bytes commands u in (
            so_far.0 ++ c.in-Some.command ∷ [],
            goes_on its flash bytes so_far.0 c.in-Some.command at.server c.serve_command-served.new.server at.reader
                c.next.new.self at.replies c.serve_command-served.new.replies so_far.1
                (rw c.in-Some.is at (c.in_ok-command.ensures.reads bytes so_far.0 so_far.1.read))
                c.next.ensures.size served.config (served.runs flash so_far.0) (served.refuses flash) served.extras,
          );
      length = let shorter = c.next.ensures.length in let before = at.invariant.length in omega arith;
      size = c.next.ensures.size ∙ at.invariant.size;
      config = served.config ∙ at.invariant.config;
    }

pub returns-in_err-served-clause-serves : goal.returns-in_err-served-clause-serves
returns-in_err-served-clause-serves g c = λ its flash bytes commands u.
    let at = c.loop-command in
    let so_far = at.invariant.underway its flash bytes commands u in
    stops_serving its flash bytes so_far.0 at.server c.serve_command-served.new.server at.reader at.replies
    c.serve_command-served.new.replies c.from_residual-in_err-served.result c.in_err-served.field-0.0 so_far.1
    c.from_residual-in_err-served.ensures.1 (c.in_err-served.ensures.refuses flash)

-- behind the last command all were served
pub returns-clause-serves : goal.returns-clause-serves
returns-clause-serves g c = λ its flash bytes commands u.
    let at = c.loop-command in
    let so_far = at.invariant.underway its flash bytes commands u in
    ends_file its flash bytes so_far.0 at.server at.reader at.replies so_far.1
    (rw c.in_default.is at (c.in_ok-command.ensures.reads bytes so_far.0 so_far.1.read))
