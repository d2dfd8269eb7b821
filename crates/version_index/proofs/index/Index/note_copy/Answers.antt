use Rattle.version_index.proofs.Common.{◌≡◌, ◌<◌, IsSome, set, ap, subst, sym, ◌∙◌, shape_of, slots_of, TablesState, note_at, rec_of, noted_by, AreIndexed}
use Rattle.judged_records.specs.declared.note.Note.TheVariants as note
use Rattle.judged_records.specs.IndexState.{copied}
use Rattle.version_index.specs.Written.{pages_written}
use Rattle.version_index.proofs.OfChanges.KeptChanges.{copied_is, copied_indexed}
use Rattle.version_index.proofs.index.Index.note_copy.Goals as goal

pub invariant_of-self : goal.invariant_of-self
invariant_of-self g c =
    let d = c.self.inside in
    let k : TablesState = d.tables in
    let some = subst (λ n. IsSome (rec_of (note_at n.notes c.args.from.0))) (sym c.self.view_is) c.requires.from in
    let exists = subst (λ n. c.args.to.0 < slots_of (shape_of n.config)) (sym c.self.view_is) c.requires.exists in
    let was = subst (λ n. note_at n.notes c.args.to.0 ≡ note.Blank) (sym c.self.view_is) c.requires.blank in
    let same = c.set_slot.ensures ∙ ap (λ u. record k { slots = set k.slots c.args.to.0 u }) c.slot-held.ensures.slot in
    record {
      indexed =
          subst (AreIndexed _ d.config d.mentions.items) (sym same)
          (copied_indexed _ d.config d.mentions.items k c.self.invariant.indexed g.met.R.CommitRule.copy c.args.from.0 c.args.to.0
          some exists was);
      written = c.self.invariant.written ∙ sym (ap pages_written same);
    }

pub returns : goal.returns
returns g c =
    let d = c.self.inside in
    let k : TablesState = d.tables in
    let same = c.set_slot.ensures ∙ ap (λ u. record k { slots = set k.slots c.args.to.0 u }) c.slot-held.ensures.slot in
    ap (noted_by d.config d.mentions.items) same
    ∙ copied_is _ d.config d.mentions.items k c.self.invariant.indexed c.args.from.0 c.args.to.0
    ∙ ap (λ n. copied n c.args.from.0 c.args.to.0) c.self.view_is
