use Rattle.version_index.proofs.Common.{subst}
use Rattle.judged_records.specs.IndexState.{FindsMostGarbageNow}
use Rattle.version_index.proofs.OfReadings.GarbageNow.{finds_now}
use Rattle.version_index.proofs.index.Index.most_garbage_now.Goals as goal

pub returns : goal.returns
returns g c =
    subst (λ n. FindsMostGarbageNow n c.most_garbage_now.result) c.self.view_is
    (finds_now _ _ _ _ c.self.invariant.indexed c.most_garbage_now.result c.most_garbage_now.ensures.none
    c.most_garbage_now.ensures.first)
