use Rattle.std.proofs.Common.{sym, ◌∙◌, ap}
use Rattle.std.proofs.lemmas.List.{get_or_read}
use Rattle.die_alloc.specs.declared.block_use.BlockUse.{BlockUse}
use Rattle.die_alloc.specs.BlocksState.{no_block}
use Rattle.die_alloc.specs.Ranks.{rank_of}
use Rattle.die_alloc.proofs.RankedBlocks.{kept_ranks, same_ranks, rest_is, spot_lies}
use Rattle.die_alloc.proofs.ranks.keep.Goals as goal
use Rattle.die_alloc.proofs.ranks.keep.Goals.{then-after-before, else-after-before}

pub set_rank-requires-clause-place : goal.set_rank-requires-clause-place
set_rank-requires-clause-place c =
    let die = rw c.requires.divisor at c.quotient-die.ensures in
    rw (die, rest_is c.args.block c.args.shape.blocks_per_die)
    (spot_lies c.args.shape c.args.blocks.now.items c.args.ranks.now.items c.args.block c.args.now
    c.requires.shape c.requires.within c.requires.blocks c.requires.ranks)

pub returns-clause-ranks : goal.returns-clause-ranks
returns-clause-ranks c = elim c.if-after-before.branch [
  | then-after-before w ↦
      let die = rw c.requires.divisor at w.quotient-die.ensures in
      let set = rw (die, rest_is c.args.block c.args.shape.blocks_per_die) at w.set_rank.ensures in
      rw w.ranks-is
      (kept_ranks c.args.shape c.args.blocks.now.items c.args.ranks.now.items w.set_rank.new.ranks.items c.args.block
      c.args.now c.rank-after.result
      c.requires.shape c.requires.within c.requires.blocks c.requires.ranks c.rank-after.ensures set)
  | else-after-before w ↦
      rw w.ranks-is
      (same_ranks c.args.shape c.args.blocks.now.items c.args.ranks.now.items c.args.block c.args.now
      c.requires.shape c.requires.within c.requires.blocks c.requires.ranks
      (sym c.rank-after.ensures ∙ w.if-after-before.false ∙ c.rank-before.ensures
      ∙ ap (λ (b : BlockUse). rank_of b.state) (get_or_read c.args.blocks.now.items
      c.args.block c.index.result.now (rw c.requires.blocks c.requires.within) c.index.ensures no_block)))
]
