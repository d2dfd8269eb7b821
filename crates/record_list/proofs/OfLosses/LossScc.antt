-- The loss of slots under Simple Cyclic Commit.
use Rattle.record_list.proofs.Common.{◌≡◌, ℕ, ◌<◌, ◌≤◌, false, List, sym, refl, ap, ◌∙◌, subst, inl, inr, ⊎_elim, arith, cases_lt, both_ways, Link, Scc, Found, newest, version_of, version_below, next_older, newest_name, link_of, why, is_committed, cur, fallback, current_name, left, LossLaw}
use Rattle.record_list.proofs.OfFacts.Safe.{top_link, Goes, Counts, counts_from, counts_safe}
use Rattle.record_list.proofs.OfFacts.Facts.{cur_uncommitted, scc_loose}
use Rattle.record_list.proofs.OfLosses.LossAmong.{among_greatest}
use Rattle.record_list.proofs.OfLosses.LossSetting.{IsLoss, was_present, lost_linked}
use Rattle.record_list.proofs.OfLosses.LossCurrent.{EndsLater, top_was, current_stays, loss_of, loss_keeps}
use Rattle.record_list.proofs.OfFacts.Names.{newest_present, older_bound}

module _ (l m : List Found) (n : ℕ) (r : IsLoss Scc l m n) where
  -- the newest record left of a page that ends later was its newest, and not committed
  later_newest : (page : ℕ) → EndsLater Scc l m n page → (newest m page ≡ newest l page)
      × (is_committed (why Scc l n page) ≡ false)
  later_newest page later = scc_loose l n (newest_name m page)
      (was_present Scc l m n r (newest_name m page) (newest_present m page (omega arith))) later

  -- pages that count after the loss and kept their newest record counted before it
  Kept : ℕ → Type 0
  Kept page = Counts Scc m n page × (newest m page ≡ newest l page)

  -- they are a safe set of the list before it
  kept_goes : (page : ℕ) → Kept page → Goes Scc l Kept (top_link l page)
  unfolding Kept
  kept_goes page k =
      let named : ℕ → Link = λ v. record { page = page; version = v } in
      let q : Link = top_link m page in
      let was : q ≡ top_link l page = sym (top_was Scc l m n r page k.0.0) ∙ ap (λ v. link_of l (named v)) k.1 in
      let fewer : newest m q.page ≤ newest l q.page = among_greatest m l r.among (version_of q.page) in
      subst (λ u. Goes Scc l Kept u) was (elim ((counts_safe Scc m n (lost_linked Scc l m n r)).goes page k.0) [
        | inl behind ↦ inl (omega arith, refl)
        | inr on ↦ elim (cases_lt (newest m q.page) (newest l q.page)) [
          | inl less ↦ inl (omega arith, refl)
          | inr same ↦ inr (omega arith, (on.1, omega arith))
        ]
      ])

  -- a page that ends later does not count
  later_never : (page : ℕ) → page < n → EndsLater Scc l m n page → Counts Scc m n page → ⊥
  unfolding Kept
  later_never page in_range later counts =
      let top = later_newest page later in
      let before : Counts Scc l n page = counts_from Scc l n r.sound.linked Kept
      (record { written = λ q k. subst (λ v. 0 < v) k.1 k.0.0; goes = kept_goes }) page (counts, top.0) in
      both_ways (is_committed (why Scc l n page)) top.1 before.1

  -- and its next older version is the current one
  later_falls : (page : ℕ) → page < n → EndsLater Scc l m n page → fallback Scc m page ≡ cur Scc l n page
  later_falls page in_range later =
      let top = later_newest page later in
      let was : cur Scc l n page ≡ next_older l page (newest l page) = cur_uncommitted Scc l n page top.1 in
      let at : next_older m page (newest m page) ≡ next_older m page (newest l page) = ap (next_older m page) top.0 in
      let fewer : next_older m page (newest l page) ≤ next_older l page (newest l page) =
      among_greatest m l r.among (version_below page (newest l page)) in
      let some : cur Scc l n page ≤ next_older m page (newest l page) =
      ⊎_elim
      (λ h. older_bound m (current_name Scc l n page) (newest l page)
      (r.kept (current_name Scc l n page) in_range h (inl refl)) (omega arith))
      (λ none. omega arith)
      (cases_lt 0 (cur Scc l n page)) in
      omega arith

-- Simple Cyclic Commit keeps all at a loss
pub scc_loss : LossLaw Scc
scc_loss l n keep sound scanned kept =
    let r : IsLoss Scc l (left keep l) n = loss_of Scc l n keep sound scanned kept in
    loss_keeps Scc l (left keep l) n r (current_stays Scc l (left keep l) n r (later_never l (left keep l) n r)
    (later_falls l (left keep l) n r))
