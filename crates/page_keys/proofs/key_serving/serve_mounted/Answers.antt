use Rattle.page_keys.proofs.Common.{sym, ap, subst, ◌∙◌, is_key_fault, Fits, ServesOne, flash_in}
use Rattle.page_keys.specs.KeySessions.{FitsMounted}
use Rattle.mounted_session.specs.declared.session.Session.TheVariants as session
use Rattle.page_keys.proofs.OfServe.KeyServeLemmas.{answered, broken_reply, closed, no_fault}
use Rattle.page_keys.proofs.key_serving.serve_mounted.Goals as goal

pub returns-in_default-reply : goal.returns-in_default-reply
returns-in_default-reply g c =
    let fits : FitsMounted g.F.Flash.state c.args.config c.in-Mounted.store =
    subst (λ s. Fits g.F.Flash.state c.args.config s) c.in-Mounted.is
    c.requires.fits in
    record {
      served = subst (λ s. ServesOne g.F.Flash.state c.args.config
          c.args.command.now s c.in_ok-reply.reply (session.Mounted c.execute.new.store))
          (sym c.in-Mounted.is)
          (answered g.F.Flash.state c.args.config c.in-Mounted.store fits
          g.R.CommitRule.protocol c.requires.rule c.args.command.now c.requires.no_arm
          c.execute.new.store c.config.ensures.always c.in_ok-reply.reply c.in_ok-reply.ensures.ok
          (no_fault c.in_ok-reply.reply c.in_default-reply.not-Fault) c.config.ensures.keys);
      ended = tt;
    }

pub returns-clause-served : goal.returns-clause-served
returns-clause-served g c =
    let state = g.F.Flash.state in
    let its = c.args.config in
    let fits : FitsMounted state its c.in-Mounted.store =
    subst (λ s. Fits state its s) c.in-Mounted.is c.requires.fits in
    let one = closed state its c.in-Mounted.store fits g.R.CommitRule.protocol c.requires.rule
    c.args.command.now c.requires.no_arm c.execute.new.store c.config.ensures.always
    c.in_ok-reply.reply c.in_ok-reply.ensures.ok (ap is_key_fault c.in-Fault.is) c.in-Fault.is
    c.live.result
    (sym (c.live.ensures ∙ ap (λ s. (state (flash_in s)).live) c.unmount.ensures)) in
    subst (λ s. ServesOne state its c.args.command.now s c.break_reply.result
    c.unmount.new.self) (sym c.in-Mounted.is)
    (subst (λ r. ServesOne state its c.args.command.now
    (session.Mounted c.in-Mounted.store) r c.unmount.new.self) (sym c.break_reply.ensures)
    (subst (λ s. ServesOne state its c.args.command.now
    (session.Mounted c.in-Mounted.store) (broken_reply c.live.result) s) (sym c.unmount.ensures)
    one))
