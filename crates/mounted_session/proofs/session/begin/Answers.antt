use Rattle.std.proofs.Common.{sym, ◌∙◌}
use Rattle.mounted_session.proofs.Mounting.{refused_calls}
use Rattle.mounted_session.proofs.session.begin.Goals as goal

pub returns-then-live-clause-calls : goal.returns-then-live-clause-calls
returns-then-live-clause-calls g c =
    refused_calls _ g.F.Flash.state c.args.flash c.mount.result (sym c.live.ensures ∙ c.if-live.true)
    c.mount.ensures.failed
