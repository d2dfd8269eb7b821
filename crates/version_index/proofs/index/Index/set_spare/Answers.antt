use Rattle.version_index.proofs.Common.{◌<◌, ap, subst, sym, ◌∙◌, shape_of, blocks_of, AreIndexed}
use Rattle.version_index.specs.Written.{pages_written}
use Rattle.version_index.proofs.OfChanges.KeptChanges.{spared_indexed}
use Rattle.version_index.proofs.index.Index.set_spare.Goals as goal

pub invariant_of-self : goal.invariant_of-self
invariant_of-self g c =
    let d = c.self.inside in
    let exists = subst (λ n. c.args.block.0 < blocks_of (shape_of n.config)) (sym c.self.view_is) c.requires in
    record {
      indexed =
          subst (AreIndexed _ d.config d.mentions.items) (sym c.set_spare.ensures)
          (spared_indexed _ d.config d.mentions.items d.tables c.self.invariant.indexed c.args.block.0 exists);
      written = c.self.invariant.written ∙ sym (ap pages_written c.set_spare.ensures);
    }
