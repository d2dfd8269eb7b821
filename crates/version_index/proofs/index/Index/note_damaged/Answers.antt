use Rattle.version_index.proofs.Common.{◌≡◌, ◌<◌, ap, subst, sym, ◌∙◌, shape_of, slots_of, note_at, noted_by, AreIndexed}
use Rattle.judged_records.specs.declared.note.Note.TheVariants as note
use Rattle.judged_records.specs.IndexState.{damaged_at}
use Rattle.version_index.specs.Written.{pages_written}
use Rattle.version_index.proofs.OfChanges.KeptChanges.{damaged_is, damaged_indexed}
use Rattle.version_index.proofs.index.Index.note_damaged.Goals as goal

pub invariant_of-self : goal.invariant_of-self
invariant_of-self g c =
    let d = c.self.inside in
    let exists = subst (λ n. c.args.at.0 < slots_of (shape_of n.config)) (sym c.self.view_is) c.requires.exists in
    let was = subst (λ n. note_at n.notes c.args.at.0 ≡ note.Blank) (sym c.self.view_is) c.requires.blank in
    record {
      indexed =
          subst (AreIndexed _ d.config d.mentions.items) (sym c.set_slot.ensures)
          (damaged_indexed _ d.config d.mentions.items d.tables c.self.invariant.indexed c.args.at.0 exists was);
      written = c.self.invariant.written ∙ sym (ap pages_written c.set_slot.ensures);
    }

pub returns : goal.returns
returns g c =
    let d = c.self.inside in
    ap (noted_by d.config d.mentions.items) c.set_slot.ensures
    ∙ damaged_is _ d.config d.mentions.items d.tables c.self.invariant.indexed c.args.at.0
    ∙ ap (λ n. damaged_at n c.args.at.0) c.self.view_is
