-- A block without its records: what is derived of those that are left stays, and what goes answers for none.
use Rattle.judged_records.proofs.Common.{◌≡◌, ◌≢◌, ℕ, ◌+◌, ◌*◌, ◌<◌, ◌≤◌, true, false, ◌⊎◌, length, None, Some, refl, sym, ap, ◌∙◌, subst, inl, inr, arith, false≢true, All-contains, all_from, Link, Protocol, shape_of, blocks_of, block_within, name_of, is_present, cur, is_held, LossLaw, left, is_outside, Note, rec_of, found_in, with_block_noted, IndexState, IsNoted, current_of, IsDerivedAlike, answerer_of, NothingMoves}
use Rattle.record_list.specs.Current.{IsCurrent}
use Rattle.record_list.specs.Changes.{LossKeeps}
use Rattle.record_list.proofs.OfFacts.Names.{found_named}
use Rattle.judged_records.specs.Derived.{AnswersForNone}
use Rattle.judged_records.specs.IndexState.{CanLose}
use Rattle.judged_records.proofs.OfNotes.FoundIn.{found_in_block}
use Rattle.judged_records.proofs.OfNotes.Derived.{all_alike, derived_alike, answerer_held}
use Rattle.judged_records.proofs.OfChanges.PartialWrites.{configured}

module _ (protocol : Protocol) (n : IndexState) (k : IsNoted protocol n) (block : ℕ) (note : Note)
    (none : rec_of note ≡ None)
    (exists : block < blocks_of (shape_of n.config)) (lose : CanLose n block) where
  -- what is left of the records
  pub left_in : found_in (with_block_noted (shape_of n.config) n.notes block note)
      ≡ left (is_outside (shape_of n.config) block) (found_in n.notes)
  left_in =
      let shape = shape_of n.config in
      let some : 0 < shape.pages_per_block = (let least = k.bounds.shape.pages_least in omega arith) in
      let fits : block * shape.pages_per_block + shape.pages_per_block ≤ length n.notes =
      (let bound = block_within shape block exists in let slots = k.slots in omega arith) in
      found_in_block shape n.notes block note some fits none

  pub loss_moves_nothing : LossLaw protocol →
      NothingMoves n (record n { notes = with_block_noted (shape_of n.config) n.notes block note })
  unfolding current_of
  loss_moves_nothing loss =
      let p = n.config.protocol in
      let logical = n.config.logical in
      let m = record n { notes = with_block_noted (shape_of n.config) n.notes block note } in
      let l = found_in n.notes in
      let l' = found_in m.notes in
      let keep = is_outside (shape_of n.config) block in
      let keeps : LossKeeps p l l' logical = subst (λ x. LossKeeps p l x logical) (sym left_in)
      (subst LossLaw (sym k.rule) loss l logical keep (configured protocol n k) k.scanned lose) in
      record {
        currents = keeps.same_current;
        records = all_from (λ f. IsDerivedAlike n m f.rec) l' (λ f i.
            derived_alike n m f.rec refl (all_alike p l l' logical keeps.same_current keeps.responsible
            keeps.sound f i));
      }

  -- a name that goes is no answerer, also of none that goes with it
  pub lost_answers_none : (name : Link) →
      is_present (found_in (with_block_noted (shape_of n.config) n.notes block note)) name ≡ false →
      AnswersForNone n name
  unfolding answerer_of
  lost_answers_none name gone =
      let p = n.config.protocol in
      let logical = n.config.logical in
      let l = found_in n.notes in
      let keep = is_outside (shape_of n.config) block in
      all_from (λ f. answerer_of n f.rec ≢ Some name) l (λ f i e.
      let x = answerer_held p l logical f name i e in
      let stays = All-contains (λ g. IsCurrent p l logical g.rec ⊎ (is_held p l logical g.rec ≡ true) →
      is_present (left keep l) (name_of g.rec) ≡ true) l x.at lose x.is_in (inr x.held) in
      false≢true (sym gone ∙ ap (λ y. is_present y name) left_in
      ∙ subst (λ u. is_present (left keep l) u ≡ true) x.its_name stays))

  -- and was not current
  pub lost_not_current : (name : Link) → is_present (found_in n.notes) name ≡ true →
      is_present (found_in (with_block_noted (shape_of n.config) n.notes block note)) name ≡ false →
      name.version ≢ current_of n name.page
  unfolding current_of
  lost_not_current name was gone e =
      let p = n.config.protocol in
      let logical = n.config.logical in
      let l = found_in n.notes in
      let keep = is_outside (shape_of n.config) block in
      let f = found_named l name was in
      let at : IsCurrent p l logical f.0.rec = subst (λ (u : Link). u.version ≡ cur p l logical u.page) (sym f.2) e in
      let stays = All-contains (λ g. IsCurrent p l logical g.rec ⊎ (is_held p l logical g.rec ≡ true) →
      is_present (left keep l) (name_of g.rec) ≡ true) l f.0 lose f.1 (inl at) in
      false≢true (sym gone ∙ ap (λ y. is_present y name) left_in
      ∙ subst (λ u. is_present (left keep l) u ≡ true) f.2 stays)
