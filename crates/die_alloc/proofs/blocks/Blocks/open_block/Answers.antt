use Rattle.std.proofs.Common.{◌≡◌, ◌+◌, ◌*◌, arith, ◌∙◌, sym, ap, refl, Some, All, subst}
use Rattle.std.proofs.lemmas.Bool.{false≢true}
use Rattle.dense_tables.specs.Greatest.{IsFirstGreatest}
use Rattle.die_alloc.specs.BlocksState.{IsBlocksState}
use Rattle.die_alloc.specs.Ranks.{AreRanks}
use Rattle.die_alloc.proofs.RankedBlocks.{no_rank, first_rank, place_in_die, few_blocks, of_die}
use Rattle.die_alloc.proofs.blocks.Blocks.open_block.Goals as goal

pub returns-in_err-place-clause-block : goal.returns-in_err-place-clause-block
returns-in_err-place-clause-block c =
    let table = subst IsBlocksState c.self.view_is c.self.invariant.table in
    let ranks = subst (λ t. AreRanks t.shape t.blocks c.self.inside.ranks.items) c.self.view_is
    c.self.invariant.ranks in
    c.from_residual.ensures ∙ sym (no_rank c.args.self.now table _ ranks c.args.die c.requires
    (of_die (All (λ x. x ≡ 0)) _ _ _ _ c.args.die ranks c.requires c.index.ensures
    (c.in_err-place.ensures.none.0 refl)))

pub overflow_cast-result : goal.overflow_cast-result
overflow_cast-result c =
    let table = subst IsBlocksState c.self.view_is c.self.invariant.table in
    let ranks = subst (λ t. AreRanks t.shape t.blocks c.self.inside.ranks.items) c.self.view_is
    c.self.invariant.ranks in
    let place = place_in_die c.args.self.now _ c.args.die _ table ranks c.requires
    (of_die (λ xs. IsFirstGreatest xs c.in_ok-place.place) _ _ _ _ c.args.die ranks c.requires c.index.ensures
    c.in_ok-place.ensures.first) in
    let few = few_blocks c.args.self.now.shape table.numbers in
    omega (arith, place.1, few)

pub overflow_add-result : goal.overflow_add-result
overflow_add-result c =
    let table = subst IsBlocksState c.self.view_is c.self.invariant.table in
    let ranks = subst (λ t. AreRanks t.shape t.blocks c.self.inside.ranks.items) c.self.view_is
    c.self.invariant.ranks in
    let place = place_in_die c.args.self.now _ c.args.die _ table ranks c.requires
    (of_die (λ xs. IsFirstGreatest xs c.in_ok-place.place) _ _ _ _ c.args.die ranks c.requires c.index.ensures
    c.in_ok-place.ensures.first) in
    let few = few_blocks c.args.self.now.shape table.numbers in
    let size = ap (λ t. c.args.die * t.shape.blocks_per_die) c.self.view_is in
    omega (arith, place.1, few, size)

pub returns-clause-block : goal.returns-clause-block
returns-clause-block c =
    let table = subst IsBlocksState c.self.view_is c.self.invariant.table in
    let ranks = subst (λ t. AreRanks t.shape t.blocks c.self.inside.ranks.items) c.self.view_is
    c.self.invariant.ranks in
    ap (λ t. Some (c.args.die * t.shape.blocks_per_die + c.in_ok-place.place)) c.self.view_is
    ∙ sym (first_rank c.args.self.now table _ ranks c.args.die c.requires c.in_ok-place.place
    (of_die (λ xs. IsFirstGreatest xs c.in_ok-place.place) _ _ _ _ c.args.die ranks c.requires c.index.ensures
    c.in_ok-place.ensures.first)
    (of_die (λ xs. All (λ x. x ≡ 0) xs → ⊥) _ _ _ _ c.args.die ranks c.requires c.index.ensures
    (λ zeros. false≢true (sym (c.in_ok-place.ensures.none.1 zeros)))))
