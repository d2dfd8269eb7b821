use Rattle.cut_replay.proofs.Common.{refl, sym, inl, inr, ◌∙◌}
use Rattle.host_protocol.specs.declared.reply.Reply.TheVariants.{Fault, Cut}
use Rattle.cut_replay.proofs.Lifted.{lifted, not_done}
use Rattle.cut_replay.proofs.serving.serve_unmounted.Goals as goal

pub returns-then-is_mounted : goal.returns-then-is_mounted
returns-then-is_mounted g c =
    lifted g.F.Flash.state c.args.config c.args.command.now c.args.session.now c.mount_again.new.session
    c.serve_mounted.result c.serve_mounted.new.session
    c.args.cache.now c.mount_again.new.cache c.serve_mounted.new.cache
    c.requires.unmounted (sym c.is_mounted.ensures ∙ c.if-is_mounted.true) c.requires.no_arm
    c.in_ok-mount_again.ensures.mounted c.mount_again.ensures.cache
    c.serve_mounted.ensures

pub returns-then-live : goal.returns-then-live
returns-then-live g c =
    not_done g.F.Flash.state c.args.config c.args.command.now c.args.session.now c.mount_again.new.session Fault
    c.args.cache.now c.mount_again.new.cache
    c.requires.unmounted (sym c.is_mounted.ensures ∙ c.if-is_mounted.false) c.requires.no_arm c.requires.fits
    c.in_ok-mount_again.ensures.mounted
    (inl (refl, sym c.live.ensures ∙ c.if-live.true))
    c.mount_again.ensures.cache

pub returns-else-live : goal.returns-else-live
returns-else-live g c =
    not_done g.F.Flash.state c.args.config c.args.command.now c.args.session.now c.mount_again.new.session Cut
    c.args.cache.now c.mount_again.new.cache
    c.requires.unmounted (sym c.is_mounted.ensures ∙ c.if-is_mounted.false) c.requires.no_arm c.requires.fits
    c.in_ok-mount_again.ensures.mounted
    (inr (refl, sym c.live.ensures ∙ c.if-live.false))
    c.mount_again.ensures.cache
