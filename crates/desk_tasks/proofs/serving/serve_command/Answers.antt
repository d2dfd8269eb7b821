use Rattle.desk_tasks.proofs.Common.{state_of}
use Rattle.host_protocol.specs.Replies.{text_of}
use Rattle.cut_replay.specs.Sessions.{flash_in}
use Rattle.cut_replay.proofs.Progress.{refused_in}
use Rattle.desk_tasks.proofs.FileServing.{one_run, told_more}
use Rattle.desk_tasks.proofs.serving.serve_command.Goals as goal

pub returns-in-Ok-told-clause-runs : goal.returns-in-Ok-told-clause-runs
returns-in-Ok-told-clause-runs g c = λ flash commands h.
    one_run c.args.server.now.config flash commands c.args.command.now c.in-Ok.reply c.args.server.now.session
    c.answer_next.new.self.session c.args.replies.now c.tell-told.new.self h c.in-Ok.ensures.served
    (told_more c.args.replies.now c.tell-told.new.self (text_of c.in-Ok.reply) c.in-Ok-told.ensures.text)

pub returns-in-Err-clause-refuses : goal.returns-in-Err-clause-refuses
returns-in-Err-clause-refuses g c = λ flash h.
    refused_in state_of c.args.server.now.config (state_of flash) c.args.command.now c.args.server.now.session
    (flash_in c.answer_next.new.self.session) c.in-Err.why h c.in-Err.ensures.ends
