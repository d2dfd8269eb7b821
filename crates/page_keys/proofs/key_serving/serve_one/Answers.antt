use Rattle.page_keys.proofs.Common.{sym, subst, ServesOne}
use Rattle.page_keys.specs.declared.key_reply.KeyReply.TheVariants as reply
use Rattle.page_keys.proofs.OfServe.KeyServeLemmas.{armed, fits_usable}
use Rattle.page_keys.proofs.key_serving.serve_one.Goals as goal

pub arm_cut-requires-clause-usable : goal.arm_cut-requires-clause-usable
arm_cut-requires-clause-usable g c =
    fits_usable g.F.Flash.state c.args.config c.args.session.now c.requires.fits

pub returns-in-Cut-clause-served : goal.returns-in-Cut-clause-served
returns-in-Cut-clause-served g c =
    subst (λ command. ServesOne g.F.Flash.state c.args.config command
    c.args.session.now reply.Armed c.arm_cut.new.session) (sym c.in-Cut.is)
    (armed g.F.Flash.state c.args.config c.in-Cut.count c.in-Cut.outcome
    g.R.CommitRule.protocol c.args.session.now c.arm_cut.new.session c.requires.rule
    c.requires.fits c.arm_cut.ensures)
