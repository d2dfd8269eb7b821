-- The loss of slots under Back Pointer Cyclic Commit.
use Rattle.std.proofs.Common.{◌≡◌, ◌≢◌, ℕ, zero, suc, ◌<◌, ◌≤◌, true, List, inl, inr, sym, refl, ◌∙◌, subst, arith}
use Rattle.std.proofs.lemmas.Bool.{cases_lt, both_ways}
use Rattle.tx_types.specs.declared.record.Link.{Link}
use Rattle.tx_types.specs.declared.config.Protocol.TheVariants.{Bpcc}
use Rattle.record_list.specs.declared.found.Found.{Found}
use Rattle.record_list.specs.Records.{greatest, newest, is_present}
use Rattle.record_list.specs.Verdict.{newest_name, link_of, back_of, straddling}
use Rattle.record_list.specs.Current.{cur, fallback, straddling_upto}
use Rattle.record_list.specs.SoundList.{follow}
use Rattle.record_list.specs.Changes.{left, LossLaw}
use Rattle.record_list.proofs.OfFacts.Safe.{top_link, Goes, Counts, counts_safe}
use Rattle.record_list.proofs.OfFacts.SoundNames.{clear_gives}
use Rattle.record_list.proofs.OfLosses.LossSetting.{IsLoss, was_present, back_was, link_low, lost_linked, newest_left, lost_responsible}
use Rattle.record_list.proofs.OfLosses.LossCurrent.{EndsLater, top_was, current_stays, loss_of, loss_keeps}
use Rattle.record_list.proofs.OfFacts.Names.{same_name, newest_present}
use Rattle.straddle_sets.proofs.Straddle.{upto_below, blocks}

module _ (l m : List Found) (n : ℕ) (r : IsLoss Bpcc l m n) where
  -- pages that end later and yet count
  Wrong : ℕ → Type 0
  Wrong page = EndsLater Bpcc l m n page × Counts Bpcc m n page

  -- their newest records left link to one another
  wrong_goes : (page : ℕ) → Wrong page → (top_link m page ≡ newest_name m (top_link m page).page)
      × Wrong (top_link m page).page
  unfolding Wrong
  wrong_goes page w =
      let u : Link = newest_name m page in
      let here : is_present m u ≡ true = newest_present m page w.1.0 in
      let was : is_present l u ≡ true = was_present Bpcc l m n r u here in
      let law = r.sound.loose u was w.0 in
      let q : Link = link_of l u in
      let in_range : q.page < n = link_low Bpcc l m n r u here in
      let least : cur Bpcc l n q.page ≤ newest m q.page = newest_left Bpcc l m n r q.page in_range in
      let never : straddling m q ≡ 0 → q.version < newest m q.page →
      ⊥ = λ none behind. elim (cases_lt q.version (cur Bpcc l n q.page)) [
        | inl below ↦ (
            let answers = lost_responsible l m n r u was w.0 below (law.2 below) in
            let bound : greatest (straddling_upto (cur Bpcc l n q.page) q) m ≤ straddling m q =
            upto_below (cur Bpcc l n q.page) q m in
            law.2 below (omega arith))
        | inr above ↦ (
            let v : Link = newest_name m q.page in
            let there : is_present m v ≡ true = newest_present m q.page (omega arith) in
            let back : back_of l v ≡ cur Bpcc l n q.page =
            (r.sound.loose v (was_present Bpcc l m n r v there) (omega arith)).0 in
            let same : back_of l v ≡ back_of m v = back_was Bpcc l m n r v there in
            let other : q.version ≢ cur Bpcc l n q.page = law.1 in
            blocks m v q there refl (omega arith) behind none)
      ] in
      let goes : Goes Bpcc m (Counts Bpcc m n) q =
      subst (λ k. Goes Bpcc m (Counts Bpcc m n) k) (sym (top_was Bpcc l m n r page w.1.0))
      ((counts_safe Bpcc m n (lost_linked Bpcc l m n r)).goes page w.1) in
      subst (λ k. (k ≡ newest_name m k.page) × Wrong k.page) (top_was Bpcc l m n r page w.1.0) (elim goes [
        | inl passes ↦ absurd (never (clear_gives m q passes.1) passes.0)
        | inr on ↦ (
            let other : q.version ≢ cur Bpcc l n q.page = law.1 in
            let at : q.version ≡ newest m q.page = on.0 in
            (same_name q (newest_name m q.page) refl at, (omega arith, on.1)))
      ])

  -- so that their links never lead to an absent name
  wrong_follows : (k page : ℕ) → Wrong page → is_present l (follow l (newest_name m page) k) ≡ true
  unfolding Wrong
  wrong_follows zero page w = was_present Bpcc l m n r (newest_name m page) (newest_present m page w.1.0)
  wrong_follows (suc k) page w =
      let g = wrong_goes page w in
      subst (λ u. is_present l (follow l u k) ≡ true) (sym (top_was Bpcc l m n r page w.1.0 ∙ g.0))
      (wrong_follows k (top_link m page).page g.1)

  -- a page that ends later does not count
  later_never : (page : ℕ) → page < n → EndsLater Bpcc l m n page → Counts Bpcc m n page → ⊥
  unfolding Wrong
  later_never page in_range later counts =
      let u : Link = newest_name m page in
      let law = r.sound.ending u (was_present Bpcc l m n r u (newest_present m page counts.0)) later in
      both_ways (is_present l (follow l (link_of l u) law.0)) law.1 (wrong_follows (suc law.0) page (later, counts))

  -- and the back version of its newest record is the current one
  later_falls : (page : ℕ) → page < n → EndsLater Bpcc l m n page → fallback Bpcc m page ≡ cur Bpcc l n page
  later_falls page in_range later =
      let u : Link = newest_name m page in
      let here : is_present m u ≡ true = newest_present m page (omega arith) in
      sym (back_was Bpcc l m n r u here) ∙ (r.sound.loose u (was_present Bpcc l m n r u here) later).0

-- Back Pointer Cyclic Commit keeps all at a loss
pub bpcc_loss : LossLaw Bpcc
bpcc_loss l n keep sound scanned kept =
    let r : IsLoss Bpcc l (left keep l) n = loss_of Bpcc l n keep sound scanned kept in
    loss_keeps Bpcc l (left keep l) n r (current_stays Bpcc l (left keep l) n r (later_never l (left keep l) n r)
    (later_falls l (left keep l) n r))
