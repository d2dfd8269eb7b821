use Rattle.cut_replay.proofs.Common.{sym, subst, Fits, Serves}
use Rattle.cut_replay.proofs.Followed.{was_done, mounted_serves}
use Rattle.cut_replay.proofs.serving.serve_mounted.Goals as goal

pub returns : goal.returns
returns g c =
    let state = g.F.Flash.state in
    let its = c.args.config in
    let command = c.args.command.now in
    let fits = subst (λ old. Fits state its c.args.cache.now.entries old) c.in-Mounted.is
    c.requires.fits in
    subst (λ old. Serves state its command old c.remount_if_cut.result c.remount_if_cut.new.session
    c.args.cache.now c.remount_if_cut.new.cache)
    (sym c.in-Mounted.is)
    (mounted_serves state its command c.in-Mounted.device c.execute.new.device c.in-Ok.reply c.remount_if_cut.result
    c.remount_if_cut.new.session c.args.cache.now
    c.execute.new.cache c.remount_if_cut.new.cache
    (was_done state its g.R.CommitRule.protocol command c.in-Mounted.device c.execute.new.device c.in-Ok.reply
    c.args.cache.now.entries c.execute.new.cache.entries
    c.requires.rule fits c.requires.no_arm
    c.in-Ok.ensures.ok c.execute.ensures.cached c.execute.ensures.always) c.execute.ensures.caches
    c.execute.ensures.size c.remount_if_cut.ensures)
