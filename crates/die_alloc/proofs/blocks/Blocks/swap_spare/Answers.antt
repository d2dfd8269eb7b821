use Rattle.std.proofs.Common.{refl, subst, sym}
use Rattle.die_alloc.specs.BlocksState.{IsBlocksState}
use Rattle.die_alloc.specs.Blocks.{table_of}
use Rattle.die_alloc.proofs.Swaps.{spare_table, swapped_is, swapped_table}
use Rattle.die_alloc.proofs.blocks.Blocks.swap_spare.Goals as goal

-- the table before
before : (c : goal.After-block-1) → IsBlocksState c.args.self.now
before c = subst IsBlocksState c.self.view_is c.self.invariant.table

pub returns-clause-exchanged : goal.returns-clause-exchanged
returns-clause-exchanged c =
    rw (← c.self.view_is)
    (swapped_is (table_of c.self.inside) c.args.block.0 c.args.state c.args.used c.keep-2.new.blocks.items
    (rw (c.keep-2.ensures.blocks, c.keep.ensures.blocks) refl) (rw (← c.self.view_is) at c.requires.not_the_spare))

pub returns-clause-between : goal.returns-clause-between
returns-clause-between c = spare_table c.args.self.now (before c) c.args.block.0 c.requires.exists
    c.requires.not_the_spare

pub returns-clause-table : goal.returns-clause-table
returns-clause-table c =
    subst IsBlocksState (sym (returns-clause-exchanged c))
    (swapped_table c.args.self.now (before c) c.args.block.0 c.args.state c.args.used c.requires.exists
    c.requires.not_the_spare c.requires.no_spare
    c.requires.fits)
