use Rattle.version_index.proofs.Common.{◌<◌, ◌*◌, refl, ap, subst, sym, ◌∙◌, Shape, shape_of, blocks_of, TablesState, used_from, CanLose, noted_by, AreIndexed}
use Rattle.slot_tables.specs.declared.slots.SlotUse.TheVariants as slot
use Rattle.judged_records.specs.declared.note.Note.TheVariants as note
use Rattle.judged_records.specs.IndexState.{erased}
use Rattle.version_index.specs.Written.{pages_written}
use Rattle.version_index.proofs.OfLosses.KeptLosses.{lost_is, lost_indexed, lost_written}
use Rattle.version_index.proofs.index.Index.note_erased.Goals as goal

pub use_block-requires-clause-block : goal.use_block-requires-clause-block
use_block-requires-clause-block g c =
    subst (λ s. c.args.block.0 < blocks_of s) (sym c.self.invariant.indexed.shape)
    (subst (λ n. c.args.block.0 < blocks_of (shape_of n.config)) (sym c.self.view_is) c.requires.exists)

pub invariant_of-self : goal.invariant_of-self
invariant_of-self g c =
    let d = c.self.inside in
    let k : TablesState = d.tables in
    let block = c.args.block.0 in
    let exists = subst (λ n. block < blocks_of (shape_of n.config)) (sym c.self.view_is) c.requires.exists in
    let lose = subst (λ n. CanLose n block) (sym c.self.view_is) c.requires.outside in
    let used = c.use_block.ensures.used
    ∙ ap (λ (s : Shape). used_from k (block * s.pages_per_block) slot.Blank s.pages_per_block) c.self.invariant.indexed.shape in
    record {
      indexed =
          subst (AreIndexed _ d.config d.mentions.items) (sym used)
          (lost_indexed _ d.config d.mentions.items k c.self.invariant.indexed c.use_block.ensures.kept g.met.R.CommitRule.block_loss
          block exists lose
          slot.Blank tt note.Blank refl (λ _. refl));
      written =
          c.self.invariant.written
          ∙ sym (lost_written _ d.config d.mentions.items k c.self.invariant.indexed c.use_block.ensures.kept
          g.met.R.CommitRule.block_loss block exists lose
          slot.Blank tt note.Blank refl (λ _. refl))
          ∙ sym (ap pages_written used);
    }

pub returns : goal.returns
returns g c =
    let d = c.self.inside in
    let k : TablesState = d.tables in
    let block = c.args.block.0 in
    let exists = subst (λ n. block < blocks_of (shape_of n.config)) (sym c.self.view_is) c.requires.exists in
    let lose = subst (λ n. CanLose n block) (sym c.self.view_is) c.requires.outside in
    let used = c.use_block.ensures.used
    ∙ ap (λ (s : Shape). used_from k (block * s.pages_per_block) slot.Blank s.pages_per_block) c.self.invariant.indexed.shape in
    ap (noted_by d.config d.mentions.items) used
    ∙ lost_is _ d.config d.mentions.items k c.self.invariant.indexed c.use_block.ensures.kept g.met.R.CommitRule.block_loss
    block exists lose
    slot.Blank tt note.Blank refl (λ _. refl)
    ∙ ap (λ n. erased n block) c.self.view_is
