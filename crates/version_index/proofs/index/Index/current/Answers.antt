use Rattle.version_index.proofs.Common.{ap, subst, sym, ◌∙◌, ◌<◌, current_of}
use Rattle.version_index.proofs.OfReadings.KeptReadings.{read_current}
use Rattle.version_index.proofs.index.Index.current.Goals as goal

pub returns : goal.returns
returns g c =
    let below = subst (λ n. c.args.page < n.config.logical) (sym c.self.view_is) c.requires in
    c.current_version.ensures ∙ read_current _ _ _ _ c.self.invariant.indexed c.args.page below
    ∙ ap (λ n. current_of n c.args.page) c.self.view_is
