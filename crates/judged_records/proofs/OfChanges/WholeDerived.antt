-- A whole cycle as steps: its names are current one after the other, and under Back Pointer Cyclic Commit each answers
-- then for the records that wait for its page.
use Rattle.judged_records.proofs.Common.{◌≡◌, ◌≢◌, ℕ, ◌<◌, false, ◌↔◌, List, All, Contains, sym, ◌∙◌, subst, inl, inr, cases_Bool, All-contains, all_from, Link, Rec, Protocol, Scc, Bpcc, Found, Apart, found_in, IndexState, current_of, answerer_of, waits_of, IsDerivedAlike, IsCommittedFor, NothingMoves, Derived, derived_of, all_current, all_answered}
use Rattle.std.proofs.lemmas.Bool.{both_ways}
use Rattle.record_list.proofs.OfWalks.Rounds.{cases_page}
use Rattle.judged_records.specs.DerivedChanges.{IsOffPages, AwaitsName, IsAnsweredBy, IsWholeWrite, IsDerivedAs}
use Rattle.judged_records.specs.DerivedChanges.{once_whole}
use Rattle.judged_records.proofs.OfNotes.CurrentNames.{answered_current, current_off, current_on, kept_off, release, unanswered_off, answered_on}

-- where nothing moves all that is derived stays
pub derived_still : (n m : IndexState) → m.config ≡ n.config → NothingMoves n m → IsDerivedAs m (derived_of n)
derived_still n m e moves = record {
  current = λ page below. moves.currents page (subst (λ c. page < c.logical) e below);
  answerer = all_from (λ f. answerer_of m f.rec ≡ answerer_of n f.rec) (found_in m.notes) (λ f i.
      (All-contains (λ g. IsDerivedAlike n m g.rec) (found_in m.notes) f moves.records i).answerer);
  waits = all_from (λ f. waits_of m f.rec ≡ waits_of n f.rec) (found_in m.notes) (λ f i.
      (All-contains (λ g. IsDerivedAlike n m g.rec) (found_in m.notes) f moves.records i).waits);
}

-- what is derived of a record is as m has it
record Agrees (m : IndexState) (j : Derived) (r : Rec) : Type 0 where
  answerer : answerer_of m r ≡ j.answerer r
  waits : waits_of m r ≡ j.waits r

module _ (n m : IndexState) (names : List Link) (whole : IsWholeWrite n m names) (round : List Link)
    (apart : Apart round)
    (same : (a : Link) → Contains names a ↔ Contains round a) where
  off_names : (page : ℕ) → ((a : Link) → Contains round a → a.page ≢ page) → IsOffPages names page
  off_names page off = all_from (λ a. a.page ≢ page) names (λ a i. off a ((same a).0 i))

  current_whole : (page : ℕ) → page < n.config.logical →
      current_of m page ≡ (all_current round (derived_of n)).current page
  current_whole page below = elim (cases_page round page) [
    | inl at ↦ subst (λ q. current_of m q ≡ (all_current round (derived_of n)).current q) at.2
        (All-contains (λ a. current_of m a.page ≡ a.version) names at.0 whole.committed ((same at.0).1 at.1)
        ∙ sym (current_on round (derived_of n) at.0 apart at.1))
    | inr off ↦ whole.elsewhere page below (off_names page off) ∙ sym (current_off round (derived_of n) page off)
  ]

  -- a record of the names' pages
  decided_whole : (f : Found) → Contains (found_in m.notes) f → (a : Link) → Contains round a → a.page ≡ f.rec.page →
      IsCommittedFor m f.rec
  decided_whole f i a j e =
      All-contains (λ b. b.page ≡ f.rec.page → IsCommittedFor m f.rec) names a
      (All-contains (λ g. All (λ b. b.page ≡ g.rec.page → IsCommittedFor m g.rec) names) (found_in m.notes) f
      whole.settled i) ((same a).1 j) e

  -- one of another page that waits for no name
  others_whole : (f : Found) → Contains (found_in m.notes) f → ((a : Link) → Contains round a → a.page ≢ f.rec.page) →
      ((a : Link) → Contains round a → AwaitsName n a f.rec → ⊥) → IsDerivedAlike n m f.rec
  others_whole f i off none =
      All-contains (λ g. IsOffPages names g.rec.page → All (λ a. AwaitsName n a g.rec → ⊥) names →
      IsDerivedAlike n m g.rec)
      (found_in m.notes) f whole.others i
      (off_names f.rec.page off) (all_from (λ a. AwaitsName n a f.rec → ⊥) names (λ a j. none a ((same a).0 j)))

  -- and one that waits for one
  answered_whole : (f : Found) → Contains (found_in m.notes) f → ((a : Link) → Contains round a → a.page ≢ f.rec.page) →
      (a : Link) →
      Contains round a → AwaitsName n a f.rec → IsAnsweredBy n m a f.rec
  answered_whole f i off a j awaits =
      All-contains (λ b. AwaitsName n b f.rec → IsAnsweredBy n m b f.rec) names a
      (All-contains (λ g. IsOffPages names g.rec.page →
      All (λ b. AwaitsName n b g.rec → IsAnsweredBy n m b g.rec) names)
      (found_in m.notes) f whole.answered i (off_names f.rec.page off)) ((same a).1 j) awaits

  -- a record of the names' pages, either way
  scc_agrees : n.config.protocol ≡ Scc → (f : Found) → Contains (found_in m.notes) f →
      Agrees m (all_current round (derived_of n)) f.rec
  scc_agrees scc f i = elim (cases_page round f.rec.page) [
    | inl at ↦ (
        let rest = release round (derived_of n) f.rec at.0 at.1 at.2 in
        let done = decided_whole f i at.0 at.1 at.2 in
        record { answerer = done.answerer ∙ sym rest.answerer; waits = done.waits ∙ sym rest.waits })
    | inr off ↦ (
        let kept = kept_off round (derived_of n) f.rec off in
        let alike = others_whole f i off (λ a j awaits. other (sym scc ∙ awaits.protocol)) in
        record { answerer = alike.answerer ∙ sym kept.answerer; waits = alike.waits ∙ sym kept.waits })
  ]
    where
      other : Scc ≡ Bpcc → ⊥
      other e = cc

  bpcc_agrees : n.config.protocol ≡ Bpcc → (f : Found) → Contains (found_in m.notes) f →
      Agrees m (all_answered round (all_current round (derived_of n))) f.rec
  bpcc_agrees bpcc f i =
      let j = all_current round (derived_of n) in
      let r = f.rec in
      elim (cases_page round r.page) [
        | inl at ↦ (
            let rest = release round (derived_of n) r at.0 at.1 at.2 in
            let still = unanswered_off round j r (λ a k e. rest.waits) in
            let done = decided_whole f i at.0 at.1 at.2 in
            record {
              answerer = done.answerer ∙ sym rest.answerer ∙ sym still.answerer;
              waits = done.waits
                  ∙ sym rest.waits ∙ sym still.waits;
            })
        | inr off ↦ (
            let kept = kept_off round (derived_of n) r off in
            let unmoved : ((a : Link) → Contains round a → a.page ≡ r.next.page → waits_of n r ≡ false) →
            Agrees m (all_answered round j) r =
            λ none. (
            let still = unanswered_off round j r (λ a k e. kept.waits ∙ none a k e) in
            let alike = others_whole f i off (λ a k awaits. both_ways (waits_of n r) (none a k (sym awaits.page))
            awaits.waits) in
            record {
              answerer = alike.answerer ∙ sym kept.answerer ∙ sym still.answerer;
              waits = alike.waits ∙ sym kept.waits ∙ sym still.waits;
            }) in
            elim (cases_Bool (waits_of n r)) [
              | inr none ↦ unmoved (λ a k e. none)
              | inl waits ↦ elim (cases_page round r.next.page) [
                | inr out ↦ unmoved (λ a k e. absurd (out a k e))
                | inl to ↦ (
                    let on = answered_on round j r to.0 apart to.1 to.2 (kept.waits ∙ waits) in
                    let done = answered_whole f i off to.0 to.1
                    (record { protocol = bpcc; page = sym to.2; waits = waits }) in
                    record { answerer = done.answerer ∙ sym on.answerer; waits = done.waits ∙ sym on.waits })
              ]
            ])
      ]

  pub derived_whole : m.config ≡ n.config → (p : Protocol) → n.config.protocol ≡ p →
      IsDerivedAs m (once_whole p round (derived_of n))
  derived_whole e Scc is = record {
    current = λ page below. current_whole page (subst (λ c. page < c.logical) e below);
    answerer = all_from (λ f. answerer_of m f.rec ≡ (once_whole Scc round (derived_of n)).answerer f.rec)
        (found_in m.notes)
        (λ f i. (scc_agrees is f i).answerer);
    waits = all_from (λ f. waits_of m f.rec ≡ (once_whole Scc round (derived_of n)).waits f.rec) (found_in m.notes)
        (λ f i. (scc_agrees is f i).waits);
  }
  derived_whole e Bpcc is = record {
    current = λ page below. current_whole page (subst (λ c. page < c.logical) e below)
        ∙ sym (answered_current round (all_current round (derived_of n)) page);
    answerer = all_from (λ f. answerer_of m f.rec ≡ (once_whole Bpcc round (derived_of n)).answerer f.rec)
        (found_in m.notes)
        (λ f i. (bpcc_agrees is f i).answerer);
    waits = all_from (λ f. waits_of m f.rec ≡ (once_whole Bpcc round (derived_of n)).waits f.rec) (found_in m.notes)
        (λ f i. (bpcc_agrees is f i).waits);
  }
