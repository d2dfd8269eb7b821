use Rattle.version_index.proofs.Common.{ap, ◌∙◌, garbage_of}
use Rattle.version_index.proofs.OfReadings.KeptReadings.{read_garbage}
use Rattle.version_index.proofs.index.Index.garbage.Goals as goal

pub returns : goal.returns
returns g c =
    c.garbage.ensures ∙ read_garbage _ _ _ _ c.self.invariant.indexed c.args.block.0 c.args.shut
    ∙ ap (λ n. garbage_of n c.args.block.0 c.args.shut) c.self.view_is
