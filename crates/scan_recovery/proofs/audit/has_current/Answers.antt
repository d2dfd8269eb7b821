use Rattle.scan_recovery.proofs.Common.{◌∙◌}
use Rattle.std.proofs.lemmas.Bool.{eq-eqb}
use Rattle.scan_recovery.proofs.OfLaws.OwnCurrent.{own_current}
use Rattle.scan_recovery.proofs.audit.has_current.Goals as goal

pub returns-then-found-current : goal.returns-then-found-current
returns-then-found-current c =
    let s = c.args.standing.now in (
      λ own. own_current s.protocol s.list s.logical c.args.found.now (c.if-found-current.true ∙ c.current.ensures),
      λ keeps. eq-eqb c.args.found.now.rec.version c.current.result c.if-found-current.true,
    )
