use Rattle.scan_recovery.proofs.Common.{◌<◌, sym, ap, ◌∙◌, subst, IsShape, blocks_of, opening_table, IsChosenFrom}
use Rattle.tx_types.specs.Config.{shape_of}
use Rattle.tx_types.proofs.ConfigLemmas.{checked_config}
use Rattle.scan_recovery.proofs.opening.tables_with_spare.Goals as goal

pub block_table-requires-clause-shape : goal.block_table-requires-clause-shape
block_table-requires-clause-shape g c =
    let its = checked_config c.args.config c.args.shape c.requires.check in
    subst IsShape (sym its.1) its.0.shape

pub set_spare-requires : goal.set_spare-requires
set_spare-requires g c =
    let is = c.in_ok-index.ensures c.requires.scan.0 c.requires.scan.1 in
    subst (λ i. c.args.spare.0 < blocks_of (shape_of i)) (sym is.config) (subst (λ s. c.args.spare.0 < blocks_of s)
    (checked_config c.args.config c.args.shape c.requires.check).1 c.requires.spare)

pub returns : goal.returns
returns g c list scan chosen =
    let config = c.args.config in
    let spare = c.args.spare.0 in
    let same = (checked_config config c.args.shape c.requires.check).1 in
    record {
      spare = spare;
      chosen = subst (λ s. IsChosenFrom config.protocol config.logical s c.args.seen.now list spare) same chosen;
      scan = c.in_ok-index.index;
      scanned = c.in_ok-index.ensures list scan;
      noted_is = c.set_spare.ensures;
      table_is = c.in_ok-blocks.ensures ∙ ap (λ s. opening_table s c.args.seen.now spare) same;
    }
