use Rattle.version_index.proofs.Common.{◌/◌, Some, None, refl, ap, ◌∙◌, option_map, Shape, block_to_go}
use Rattle.tx_types.specs.declared.config.Slot.{Slot}
use Rattle.version_index.proofs.OfGoing.KeptGoing.{read_going}
use Rattle.version_index.proofs.index.Index.must_go.Goals as goal

pub returns-in-None : goal.returns-in-None
returns-in-None g c =
    let d = c.self.inside in
    let going = c.in-None.ensures in
    read_going _ d.config d.mentions.items d.tables c.self.invariant.indexed c.shape-shape.ensures.kept c.args.page c.args.below
    None going.scc (λ e. refl)
    ∙ ap (λ n. block_to_go n c.args.page c.args.below) c.self.view_is

pub returns-in-Some : goal.returns-in-Some
returns-in-Some g c =
    let d = c.self.inside in
    let going = c.in-Some.ensures in
    ap Some c.block_of.ensures
    ∙ ap (λ (s : Shape). Some (c.in-Some.at.0 / s.pages_per_block)) (c.shape-shape.ensures.shape ∙ c.self.invariant.indexed.shape)
    ∙ read_going _ d.config d.mentions.items d.tables c.self.invariant.indexed c.shape-shape.ensures.kept c.args.page
    c.args.below (Some c.in-Some.at.0)
    going.scc (λ e. ap (option_map (λ (at : Slot). at.0)) (going.bpcc e))
    ∙ ap (λ n. block_to_go n c.args.page c.args.below) c.self.view_is
