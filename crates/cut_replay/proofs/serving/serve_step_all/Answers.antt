mod Together
use Rattle.cut_replay.proofs.Common.{sym, subst, Ok, Fits, Serves}
use Rattle.host_protocol.specs.declared.command.Command.TheVariants as command
use Rattle.host_protocol.specs.declared.reply.Reply.TheVariants as reply
use Rattle.mounted_session.specs.declared.session.Session.TheVariants as session
use Rattle.cut_replay.proofs.serving.serve_step_all.Answers.Together.{moved_session, dropped_session}
use Rattle.cut_replay.proofs.serving.serve_step_all.Goals as goal

pub returns-in-Ok : goal.returns-in-Ok
returns-in-Ok g c =
    let state = g.F.Flash.state in
    let its = c.args.config in
    let cache = c.args.cache.now in
    let answer = c.in-Ok.field-0 in
    let fits = subst (λ old. Fits state its cache.entries old) c.in-Mounted.is c.requires.fits in
    subst (λ old. Serves state its command.StepAll old
    (Ok (reply.Moved answer.moved answer.finished))
    (session.Mounted c.step_all.new.self) cache cache)
    (sym c.in-Mounted.is)
    (moved_session state its g.R.CommitRule.protocol c.in-Mounted.device c.step_all.new.self answer cache
    c.requires.rule fits c.config.ensures.stands
    c.device_facts.ensures.always c.in-Ok.ensures.moves)

pub returns-in-Err : goal.returns-in-Err
returns-in-Err g c =
    let state = g.F.Flash.state in
    let its = c.args.config in
    let fits = subst (λ old. Fits state its c.args.cache.now.entries old) c.in-Mounted.is
    c.requires.fits in
    subst (λ old. Serves state its command.StepAll old c.remount.result c.remount.new.session
    c.args.cache.now c.remount.new.cache)
    (sym c.in-Mounted.is)
    (dropped_session state its c.in-Mounted.device c.step_all.new.self c.remount.result c.remount.new.session
    c.args.cache.now c.remount.new.cache fits
    c.in-Err.ensures.dropped c.remount.ensures)
