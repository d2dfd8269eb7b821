use Rattle.version_index.proofs.Common.{◌≤◌, map, ap, subst, sym, ◌∙◌, shape_of, slots_of, Block}
use Rattle.std.proofs.Common.{vec_capacity}
use Rattle.judged_records.specs.IndexState.{going_blocks}
use Rattle.version_index.proofs.OfGoing.GoingBlocks.{going_are, none_blocks}
use Rattle.version_index.proofs.index.Index.blocks_to_go.Goals as goal

pub put_blocks_to_go-requires-clause-room : goal.put_blocks_to_go-requires-clause-room
put_blocks_to_go-requires-clause-room g c =
    let room = subst (λ n. slots_of (shape_of n.config) ≤ vec_capacity c.args.into.now) (sym c.self.view_is)
    c.requires.room in
    subst (λ s. slots_of s ≤ vec_capacity c.clear.new.self) (sym c.self.invariant.indexed.shape)
    (rw c.clear.ensures.capacity room)

pub returns-in-Scc-clause-blocks : goal.returns-in-Scc-clause-blocks
returns-in-Scc-clause-blocks g c =
    let d = c.self.inside in
    going_are _ d.config d.mentions.items d.tables c.self.invariant.indexed c.put_blocks_to_go.ensures.kept c.in-Scc.is
    c.args.page c.args.below
    c.order_blocks.new.blocks.items c.put_blocks_to_go.new.into.items c.put_blocks_to_go.ensures.gathered
    c.order_blocks.ensures.rising c.order_blocks.ensures.same
    ∙ ap (λ n. going_blocks n c.args.page c.args.below) c.self.view_is

pub returns-in-Bpcc-clause-blocks : goal.returns-in-Bpcc-clause-blocks
returns-in-Bpcc-clause-blocks g c =
    let d = c.self.inside in
    ap (map (λ (b : Block). b.0)) c.clear.ensures.items
    ∙ sym (none_blocks d.config d.mentions.items d.tables c.args.page c.args.below c.in-Bpcc.is)
    ∙ ap (λ n. going_blocks n c.args.page c.args.below) c.self.view_is
