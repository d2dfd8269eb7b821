use Rattle.version_index.proofs.Common.{◌<◌, ap, subst, sym, ◌∙◌, shape_of, blocks_of}
use Rattle.judged_records.specs.IndexState.{is_going}
use Rattle.version_index.proofs.OfGoing.GoingBlocks.{read_going_block, none_going}
use Rattle.version_index.proofs.index.Index.is_going.Goals as goal

pub block_must_go-requires-clause-block : goal.block_must_go-requires-clause-block
block_must_go-requires-clause-block g c =
    subst (λ s. c.args.block.0 < blocks_of s) (sym c.self.invariant.indexed.shape)
    (subst (λ n. c.args.block.0 < blocks_of (shape_of n.config)) (sym c.self.view_is) c.requires.block)

pub returns-in-Scc : goal.returns-in-Scc
returns-in-Scc g c =
    let d = c.self.inside in
    read_going_block _ d.config d.mentions.items d.tables c.self.invariant.indexed c.block_must_go.ensures.kept c.in-Scc.is
    c.args.page c.args.below c.args.block.0
    c.block_must_go.result c.block_must_go.ensures.goes
    ∙ ap (λ n. is_going n c.args.page c.args.below c.args.block.0) c.self.view_is

pub returns-in-Bpcc : goal.returns-in-Bpcc
returns-in-Bpcc g c =
    let d = c.self.inside in
    sym (none_going d.config d.mentions.items d.tables c.args.page c.args.below c.in-Bpcc.is c.args.block.0)
    ∙ ap (λ n. is_going n c.args.page c.args.below c.args.block.0) c.self.view_is
