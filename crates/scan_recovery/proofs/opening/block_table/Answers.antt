use Rattle.scan_recovery.proofs.Common.{sym, subst}
use Rattle.die_alloc.specs.BlocksState.{IsBlocksState, table_of_uses}
use Rattle.die_alloc.proofs.OpeningTables.{opening_is_table}
use Rattle.scan_recovery.proofs.opening.block_table.Goals as goal

pub from_uses-requires : goal.from_uses-requires
from_uses-requires c =
    subst (λ uses. IsBlocksState (table_of_uses c.args.shape uses c.args.spare.0)) (sym c.in_ok-uses.ensures)
    (opening_is_table c.args.shape c.args.seen.now c.args.spare.0 c.requires.shape c.requires.spare)
