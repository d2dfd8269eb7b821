use Rattle.version_index.proofs.Common.{subst}
use Rattle.judged_records.specs.IndexState.{FindsMostGarbage}
use Rattle.version_index.proofs.OfReadings.MostGarbage.{finds_most}
use Rattle.version_index.proofs.index.Index.most_garbage.Goals as goal

pub returns : goal.returns
returns g c =
    subst (λ n. FindsMostGarbage n c.most_garbage.result) c.self.view_is
    (finds_most _ _ _ _ c.self.invariant.indexed c.most_garbage.result c.most_garbage.ensures.none c.most_garbage.ensures.first)
