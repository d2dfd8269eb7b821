use Rattle.version_index.proofs.Common.{ap, ◌∙◌}
use Rattle.judged_records.specs.IndexState.{blanks_of}
use Rattle.version_index.proofs.OfReadings.MostGarbage.{read_blanks}
use Rattle.version_index.proofs.index.Index.blanks.Goals as goal

pub returns : goal.returns
returns g c = c.blanks.ensures ∙ read_blanks _ _ _ _ c.self.invariant.indexed c.args.block.0
    ∙ ap (λ n. blanks_of n c.args.block.0) c.self.view_is
