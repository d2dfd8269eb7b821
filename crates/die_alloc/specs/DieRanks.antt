-- How the ranks of the blocks of a die stand in the fields of `DieRanks`.
use Rattle.std.specs.Prelude.{ℕ, zero, suc, ◌<◌, List, slice_set}
use Rattle.dense_tables.specs.Greatest.{IsFirstGreatest}
use Rattle.die_alloc.specs.declared.die_ranks.DieRanks.TheInside.{Inside}

-- the ranks, of which the greatest stands beside the others where it is not 0
abbrev pub with_greatest : ℕ → ℕ → List ℕ → List ℕ
with_greatest zero first others = others
with_greatest (suc n) first others = slice_set others first (suc n)

-- the ranks
abbrev pub ranks_of : Inside → List ℕ
ranks_of d = with_greatest d.greatest d.first d.others

-- the one that stands beside the others is the first of the greatest rank
pub record DieRanksInvariant (d : Inside) : Type 0 where
  pub first : 0 < d.greatest → IsFirstGreatest (ranks_of d) d.first
