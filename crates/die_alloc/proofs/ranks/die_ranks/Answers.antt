use Rattle.std.proofs.Common.{◌≡◌, ◌+◌, arith, ap, sym, ◌∙◌, subst, length, get_or}
use Rattle.std.proofs.lemmas.List.{get_or-replicate, length-replicate}
use Rattle.die_alloc.proofs.RankedBlocks.{AreFirstRanks, first_ranks_more, first_ranks_none}
use Rattle.die_alloc.proofs.ranks.die_ranks.Goals as goal
use Rattle.die_alloc.proofs.ranks.die_ranks.Goals.{then-rank-gt0, else-rank-gt0}

pub loop-place-init : goal.loop-place-init
loop-place-init c = (
  ap length c.in_ok-ranks.ensures ∙ length-replicate _ 0,
  λ k low. absurd (omega arith),
  λ k past low. ap (λ xs. get_or xs k 0) c.in_ok-ranks.ensures ∙ get_or-replicate _ k 0 0 low,
)

pub set-requires : goal.set-requires
set-requires c = let l = c.loop-place.invariant.0 in omega arith

pub loop-place-preserved : goal.loop-place-preserved
loop-place-preserved c = elim c.if-rank-gt0.branch [
  | then-rank-gt0 w ↦
      first_ranks_more c.args.blocks.now c.loop-place.ranks _ c.loop-place.place c.rank-rank.result _ (omega arith)
      c.rank-rank.ensures (w.ranks-is ∙ w.set.ensures) c.loop-place.invariant
  | else-rank-gt0 w ↦
      let none : 0 ≡ c.rank-rank.result = (let low = w.if-rank-gt0.false in omega (arith, low)) in
      subst (AreFirstRanks (c.loop-place.place + 1) c.args.blocks.now) (sym w.ranks-is)
      (first_ranks_none c.args.blocks.now c.loop-place.ranks c.loop-place.place _ (omega arith)
      (none ∙ c.rank-rank.ensures) c.loop-place.invariant)
]

pub returns : goal.returns
returns c = rw c.new-2.ensures (record {
  size = c.loop-place.invariant.0;
  each = λ k low. c.loop-place.invariant.1 k (omega arith);
})
