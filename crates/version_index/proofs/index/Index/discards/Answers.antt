use Rattle.version_index.proofs.Common.{ap, subst, sym, ◌∙◌, ◌<◌, discarded_of}
use Rattle.version_index.proofs.OfReadings.KeptReadings.{read_discard}
use Rattle.version_index.proofs.index.Index.discards.Goals as goal

pub returns : goal.returns
returns g c =
    let below = subst (λ n. c.args.page < n.config.logical) (sym c.self.view_is) c.requires in
    c.discards_now.ensures ∙ read_discard _ _ _ _ c.self.invariant.indexed c.args.page below
    ∙ ap (λ n. discarded_of n c.args.page) c.self.view_is
