use Rattle.version_index.proofs.Common.{ap, ◌∙◌, needed_of}
use Rattle.version_index.proofs.OfReadings.KeptReadings.{read_needed}
use Rattle.version_index.proofs.index.Index.needed.Goals as goal

pub returns : goal.returns
returns g c =
    c.needed.ensures ∙ read_needed _ _ _ _ c.self.invariant.indexed c.args.at.0
    ∙ ap (λ n. needed_of n c.args.at.0) c.self.view_is
