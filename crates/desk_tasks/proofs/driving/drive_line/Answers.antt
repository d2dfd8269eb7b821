use Rattle.desk_tasks.proofs.Common.{[], ap, Config, state_of}
use Rattle.cut_replay.specs.Sessions.{flash_in}
use Rattle.drive_gen.specs.Parts.{left_of}
use Rattle.desk_tasks.proofs.DriveLemmas.{line_said, refused_line, starved_line}
use Rattle.desk_tasks.proofs.driving.drive_line.Goals as goal

pub returns-in_err-drive_all-clause-refuses : goal.returns-in_err-drive_all-clause-refuses
returns-in_err-drive_all-clause-refuses g c = λ flash h.
    refused_line c.args.server.now.config (state_of flash) (state_of (flash_in c.drive_all.new.server.session))
    c.from_residual.result c.in_err-drive_all.field-0.0 c.from_residual.ensures.1
    (c.in_err-drive_all.ensures.refuses flash h)

pub returns-clause-runs : goal.returns-clause-runs
returns-clause-runs g c = λ flash h.
    let driven = c.in_ok-drive_all.ensures.runs flash [] h in
    line_said c.args.start c.args.count c.config-protocol.result.protocol c.sum_up.result c.args.server.now.config flash
    (left_of c.args.work.now) c.drive_all.new.server.session c.drive_all.new.tally
    (ap (λ (x : Config). x.protocol) c.config-protocol.ensures.config) driven
    (c.sum_up.ensures.ok driven.text driven.counted)

pub returns-clause-refuses : goal.returns-clause-refuses
returns-clause-refuses g c = λ flash h.
    starved_line c.args.server.now.config (state_of flash) (state_of (flash_in c.drive_all.new.server.session))
    c.sum_up.result c.sum_up.ensures.err (c.in_ok-drive_all.ensures.refuses flash h)
