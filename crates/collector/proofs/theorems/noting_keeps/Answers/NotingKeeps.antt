-- What the tables keep where the next record of a transaction is noted.
use Rattle.collector.proofs.Common.{◌≡◌, ◌⊎◌, ℕ, ◌<◌, true, false, length, All, sym, ◌∙◌, subst, inl, inr, arith, shape_of, slots_of, Protocol, Link, Rec, PartialWriteLaw, CompletingWriteLaw, name_of, has_name, is_present, has_own_name, Blank, note_at, found_in, IndexState, IsNoted, programmed, found, found_in_programmed, IsThere}
use Rattle.std.proofs.Common.{◌↔◌, Any}
use Rattle.std.proofs.lemmas.Bool.{or_cases, or_left, or_right}
use Rattle.record_list.specs.Changes.{IsWrite, PartialWriteKeeps, CompletingWriteKeeps}
use Rattle.record_list.proofs.OfFacts.Names.{has_name_true}
use Rattle.record_list.proofs.OfChanges.OneMore.{inserted_any}
use Rattle.judged_records.specs.IndexState.{IsNextRecord}
use Rattle.judged_records.proofs.OfChanges.NotedChanges.{next_write}

module _ (p : Protocol) (n : IndexState) (at : ℕ) (rec : Rec) (noted : IsNoted p n)
    (exists : at < slots_of (shape_of n.config))
    (was : note_at n.notes at ≡ Blank) where
  long : at < length n.notes
  long = omega (arith, noted.slots)

  -- a name is there that was there, or is that of the record
  pub names_there : (name : Link) → IsThere (programmed n at rec) name ↔ (IsThere n name ⊎ (name ≡ name_of rec))
  names_there name =
      let more = inserted_any (λ f. has_name name f.rec) (found_in n.notes) (found_in (programmed n at rec).notes)
      (found at rec)
      (found_in_programmed n.notes at rec long was) in (
        λ there. elim (or_cases (has_name name rec) (is_present (found_in n.notes) name) (sym more ∙ there)) [
          | inl own ↦ inr (sym (has_name_true name rec own))
          | inr old ↦ inl old
        ],
        λ either. more ∙ (elim either [
          | inl old ↦ or_right (has_name name rec) (is_present (found_in n.notes) name) old
          | inr own ↦ or_left (has_name name rec) (is_present (found_in n.notes) name) (has_own_name name rec (sym own))
        ]),
      )

  module _ (next : IsNextRecord n rec) where
    write : IsWrite p (found_in n.notes) (found_in (programmed n at rec).notes) n.config.logical next.names
        (found at rec)
    write =
        subst (λ q. IsWrite q (found_in n.notes) (found_in (programmed n at rec).notes) n.config.logical next.names
        (found at rec)) noted.rule
        (next_write p n noted at rec long was next)

    -- a name of the transaction is absent still
    pub partial_noted : PartialWriteLaw p → Any (λ name. is_present (found_in (programmed n at rec).notes) name
        ≡ false) next.names →
        PartialWriteKeeps p (found_in n.notes) (found_in (programmed n at rec).notes) n.config.logical next.names
    partial_noted law = law (found_in n.notes) (found_in (programmed n at rec).notes) n.config.logical next.names
        (found at rec) noted.sound write

    -- all are there
    pub completing_noted : CompletingWriteLaw p →
        All (λ name. is_present (found_in (programmed n at rec).notes) name ≡ true) next.names →
        CompletingWriteKeeps p (found_in n.notes) (found_in (programmed n at rec).notes) n.config.logical next.names
    completing_noted law = law (found_in n.notes) (found_in (programmed n at rec).notes) n.config.logical next.names
        (found at rec) noted.sound write
