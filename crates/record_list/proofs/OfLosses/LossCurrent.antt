-- Each current version stays in a loss: a page whose newest record left is the current one counts, and where a page
-- with a later record left does not count, its current version is that of before.
use Rattle.record_list.proofs.Common.{◌≡◌, ℕ, ◌<◌, ◌≤◌, Bool, true, List, ◌∙◌, subst, inl, inr, ⊎_elim, arith, cases_Bool, cases_lt, from_filter, Link, Protocol, Found, newest, is_present, IsScanned, newest_name, link_of, why, is_committed, cur, fallback, IsSoundList, SameCurrent, left, KeepsCounted, LossKeeps}
use Rattle.std.proofs.lemmas.List.Elements.{All-filter}
use Rattle.std.proofs.lemmas.List.Kept.{AllPairs-filter}
use Rattle.record_list.proofs.OfFacts.Safe.{top_link, Goes, Counts, counts_from}
use Rattle.record_list.proofs.OfFacts.SoundNames.{sound_map, sound_list}
use Rattle.record_list.proofs.OfFacts.Facts.{bare_page, cur_committed, cur_uncommitted}
use Rattle.record_list.proofs.OfLosses.LossCounted.{counted_names}
use Rattle.record_list.proofs.OfLosses.LossSetting.{IsLoss, was_present, link_was, link_low, lost_linked, lost_clear, newest_left}
use Rattle.record_list.proofs.OfLosses.LossKept.{IsReduced, reduced_sound, reduced_held, reduced_answers, reduced_progress}
use Rattle.record_list.proofs.OfFacts.Names.{newest_present}
use Rattle.record_list.proofs.OfLosses.LossAmong.{among_of}

-- a page whose newest record left is its current one
abbrev pub EndsCurrent : Protocol → List Found → List Found → ℕ → ℕ → Type 0
EndsCurrent p l m n page = (0 < newest m page) × (newest m page ≡ cur p l n page)

-- a page whose newest record left is later than its current one
abbrev pub EndsLater : Protocol → List Found → List Found → ℕ → ℕ → Type 0
EndsLater p l m n page = cur p l n page < newest m page

module _ (p : Protocol) (l m : List Found) (n : ℕ) (r : IsLoss p l m n) where
  -- the link of the newest record left is the link that it had
  pub top_was : (page : ℕ) → 0 < newest m page → link_of l (newest_name m page) ≡ top_link m page
  top_was page has = link_was p l m n r (newest_name m page) (newest_present m page has)

  -- the link of such a page passes, or leads to another such page
  ends_goes : (page : ℕ) → EndsCurrent p l m n page → Goes p m (EndsCurrent p l m n) (top_link m page)
  ends_goes page ends =
      let u : Link = newest_name m page in
      let here : is_present m u ≡ true = newest_present m page ends.0 in
      let law = r.sound.counted u (was_present p l m n r u here) ends.1 in
      let q : Link = link_of l u in
      let positive : 1 ≤ q.version = (r.sound.linked.versions u (was_present p l m n r u here)).1 in
      let high : q.version ≤ cur p l n q.page = law.0 in
      let stays : cur p l n q.page ≤ newest m q.page = newest_left p l m n r q.page (link_low p l m n r u here) in
      subst (λ k. Goes p m (EndsCurrent p l m n) k) (top_was page ends.0)
      (⊎_elim
      (λ behind. inl (behind, lost_clear p l m n r q law.1))
      (λ at. let same : q.version ≡ newest m q.page = omega arith in inr (same, (omega arith, omega arith)))
      (cases_lt q.version (newest m q.page)))

  -- a page whose newest record left is its current one counts
  pub current_counts : (page : ℕ) → EndsCurrent p l m n page → Counts p m n page
  current_counts page ends = counts_from p m n (lost_linked p l m n r) (EndsCurrent p l m n)
      (record { written = λ q x. x.0; goes = ends_goes }) page ends

  -- each current version stays, where no page that ends later counts
  pub current_stays : ((page : ℕ) → page < n → EndsLater p l m n page → Counts p m n page → ⊥) →
      ((page : ℕ) → page < n → EndsLater p l m n page → fallback p m page ≡ cur p l n page) → SameCurrent p l m n
  current_stays never falls page in_range =
      let bound : cur p l n page ≤ newest m page = newest_left p l m n r page in_range in
      elim (cases_lt (cur p l n page) (newest m page)) [
        | inl later ↦ elim (cases_Bool (is_committed (why p m n page))) [
          | inl e ↦ absurd (never page in_range later (omega arith, e))
          | inr e ↦ cur_uncommitted p m n page e ∙ falls page in_range later
        ]
        | inr ends ↦ elim (cases_lt 0 (newest m page)) [
          | inl some ↦ (let same : newest m page ≡ cur p l n page = omega arith in
              cur_committed p m n page (current_counts page (some, same)).1 ∙ same)
          | inr none ↦ (let z : cur p m n page ≡ 0 = bare_page p m n (lost_linked p l m n r) page (omega arith) in
              omega arith)
        ]
      ]

-- the records left by a test of their slots are as a scan gives them
pub left_scanned : (keep : ℕ → Bool) (l : List Found) → IsScanned l → IsScanned (left keep l)
left_scanned keep l scanned = record {
  ascending = AllPairs-filter (λ f g. f.slot.0 < g.slot.0) (λ f. keep f.slot.0) l scanned.ascending;
  versions = All-filter (λ f. keep f.slot.0) (λ f. (1 ≤ f.rec.version) × (1 ≤ f.rec.next.version)) l scanned.versions;
}

-- and are a loss
pub loss_of : (p : Protocol) (l : List Found) (n : ℕ) (keep : ℕ → Bool) → IsSoundList p l n → IsScanned l →
    KeepsCounted p l n keep → IsLoss p l (left keep l) n
loss_of p l n keep sound scanned k = record {
  sound = sound_map p l n sound scanned;
  among = among_of (left keep l) l (λ f c. (from_filter (λ g. keep g.slot.0) f l c).0);
  kept = (counted_names p l n keep (sound_map p l n sound scanned) k).kept;
}

-- what a loss keeps, where it keeps the current versions
pub loss_keeps : (p : Protocol) (l m : List Found) (n : ℕ) → IsLoss p l m n → SameCurrent p l m n → LossKeeps p l m n
loss_keeps p l m n r same =
    let reduced : IsReduced p l m n = record { loss = r; same = same } in
    record {
      sound = sound_list p m n (reduced_sound p l m n reduced);
      same_current = same;
      held = reduced_held p l m n reduced;
      responsible = reduced_answers p l m n reduced;
      in_progress = reduced_progress p l m n reduced;
    }
