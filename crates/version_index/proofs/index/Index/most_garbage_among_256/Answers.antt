use Rattle.version_index.proofs.Common.{◌<◌, ◌*◌, subst, sym, arith, shape_of, blocks_of, IsMostAmong}
use Rattle.version_index.proofs.OfReadings.MostGarbage.{most_garbage_among}
use Rattle.version_index.proofs.index.Index.most_garbage_among_256.Goals as goal

pub returns : goal.returns
returns g c =
    let below = subst (λ n. 256 * c.args.group < blocks_of (shape_of n.config)) (sym c.self.view_is) c.requires in
    subst (λ n. IsMostAmong n 256 c.args.group c.most_garbage_among_256.result) c.self.view_is
    (most_garbage_among _ _ _ _ c.self.invariant.indexed 256 c.args.group c.most_garbage_among_256.result (omega arith) below
    c.most_garbage_among_256.ensures)
