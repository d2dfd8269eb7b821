use Rattle.version_index.proofs.Common.{ap, subst, sym, ◌∙◌, AreIndexed}
use Rattle.version_index.specs.Written.{pages_written}
use Rattle.version_index.proofs.OfChanges.KeptChanges.{pinned_indexed}
use Rattle.version_index.proofs.OfTables.KeptNotes.{kept_above}
use Rattle.version_index.proofs.index.Index.unpin.Goals as goal

pub unpin-requires-clause-above : goal.unpin-requires-clause-above
unpin-requires-clause-above g c number r e page =
    kept_above c.self.inside.tables c.self.invariant.indexed.held c.self.invariant.indexed.noted.scanned number r e

pub invariant_of-self : goal.invariant_of-self
invariant_of-self g c =
    let d = c.self.inside in
    record {
      indexed =
          subst (AreIndexed _ d.config d.mentions.items) (sym c.unpin.ensures)
          (pinned_indexed _ d.config d.mentions.items d.tables c.self.invariant.indexed c.args.page 0);
      written = c.self.invariant.written ∙ sym (ap pages_written c.unpin.ensures);
    }
