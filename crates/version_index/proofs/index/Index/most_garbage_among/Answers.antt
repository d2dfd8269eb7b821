use Rattle.version_index.proofs.Common.{◌<◌, ◌*◌, subst, sym, arith, shape_of, blocks_of, IsMostAmong}
use Rattle.version_index.proofs.OfReadings.MostGarbage.{most_garbage_among}
use Rattle.version_index.proofs.index.Index.most_garbage_among.Goals as goal

pub returns : goal.returns
returns g c =
    let below = subst (λ n. 16 * c.args.sixteen < blocks_of (shape_of n.config)) (sym c.self.view_is) c.requires in
    subst (λ n. IsMostAmong n 16 c.args.sixteen c.most_garbage_among.result) c.self.view_is
    (most_garbage_among _ _ _ _ c.self.invariant.indexed 16 c.args.sixteen c.most_garbage_among.result (omega arith) below
    c.most_garbage_among.ensures)
