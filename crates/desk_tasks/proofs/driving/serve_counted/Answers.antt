use Rattle.desk_tasks.proofs.Common.{state_of}
use Rattle.cut_replay.specs.Sessions.{flash_in}
use Rattle.cut_replay.proofs.Progress.{refused_in}
use Rattle.desk_tasks.proofs.DriveLemmas.{one_driven}
use Rattle.desk_tasks.proofs.driving.serve_counted.Goals as goal

pub returns-in-Ok-counted-clause-runs : goal.returns-in-Ok-counted-clause-runs
returns-in-Ok-counted-clause-runs g c = λ flash commands h.
    one_driven c.args.server.now.config flash commands c.args.command.now c.in-Ok.reply c.args.server.now.session
    c.answer_next.new.self.session c.args.tally.now c.count-counted.new.self h c.in-Ok.ensures.served
    (λ bytes before. c.in-Ok-counted.ensures.counted bytes before) c.in-Ok-counted.ensures.replies

pub returns-in-Err-clause-refuses : goal.returns-in-Err-clause-refuses
returns-in-Err-clause-refuses g c = λ flash h.
    refused_in state_of c.args.server.now.config (state_of flash) c.args.command.now c.args.server.now.session
    (flash_in c.answer_next.new.self.session) c.in-Err.why h c.in-Err.ensures.ends
