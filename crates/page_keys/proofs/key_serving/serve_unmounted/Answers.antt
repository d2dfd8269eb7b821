mod EndedOpen
use Rattle.page_keys.proofs.Common.{sym, subst, ◌∙◌, ServesOne}
use Rattle.page_keys.proofs.OfServe.KeyServeLemmas.{serves_not_opened, serves_opened}
use Rattle.page_keys.proofs.OfServe.KeyAllLemmas.{shape_is}
use Rattle.page_keys.proofs.key_serving.serve_unmounted.Answers.EndedOpen.{ends_opened}
use Rattle.page_keys.proofs.key_serving.serve_unmounted.Goals as goal

pub mount_again-requires-clause-check : goal.mount_again-requires-clause-check
mount_again-requires-clause-check g c =
    shape_is g.F.Flash.state c.args.config c.args.session.now c.requires.fits

pub returns-then-is_mounted-clause-served : goal.returns-then-is_mounted-clause-served
returns-then-is_mounted-clause-served g c =
    serves_opened g.F.Flash.state c.args.config c.args.command.now c.requires.no_arm
    c.args.session.now c.mount_again.new.self c.serve_mounted.new.session
    c.serve_mounted.result c.requires.unmounted
    (sym c.is_mounted.ensures ∙ c.if-is_mounted.true) c.in_ok-mount_again.ensures.mounted
    c.serve_mounted.ensures.served

pub returns-else-is_mounted-clause-served : goal.returns-else-is_mounted-clause-served
returns-else-is_mounted-clause-served g c =
    subst (λ r. ServesOne g.F.Flash.state c.args.config c.args.command.now
    c.args.session.now r c.mount_again.new.self) (sym c.break_reply.ensures)
    (serves_not_opened g.F.Flash.state c.args.config c.args.command.now c.requires.no_arm
    c.args.session.now c.mount_again.new.self c.live.result c.requires.unmounted
    (sym c.is_mounted.ensures ∙ c.if-is_mounted.false) c.requires.fits
    c.in_ok-mount_again.ensures.mounted (sym c.live.ensures))

pub returns-then-is_mounted-clause-ended : goal.returns-then-is_mounted-clause-ended
returns-then-is_mounted-clause-ended g c =
    ends_opened g.F.Flash.state c.args.config c.args.session.now c.mount_again.new.self c.serve_mounted.new.session
    c.serve_mounted.result (sym c.is_mounted.ensures ∙ c.if-is_mounted.true) c.in_ok-mount_again.ensures.mounted
    c.serve_mounted.ensures.ended
