use Rattle.version_index.proofs.Common.{ap, ◌∙◌, range_with_len, shape_of, blocks_of, IndexState}
use Rattle.std.specs.Prelude.{sum_by}
use Rattle.judged_records.specs.IndexState.{garbage_now}
use Rattle.version_index.proofs.OfReadings.GarbageNow.{all_now}
use Rattle.version_index.proofs.index.Index.all_garbage.Goals as goal

pub returns : goal.returns
returns g c =
    c.all_garbage.ensures ∙ all_now _ _ _ _ c.self.invariant.indexed
    ∙ ap (λ (n : IndexState). sum_by (garbage_now n) (range_with_len 0 (blocks_of (shape_of n.config))))
    c.self.view_is
