-- What a loss keeps of the records that count, where it takes any slots.
use Rattle.record_list.proofs.Common.{◌≡◌, ℕ, ◌⊎◌, Bool, true, ◌&&◌, List, Contains, ◌∙◌, inl, inr, ⊎_elim, and_from, All-contains, all_from, from_filter, Protocol, Found, name_of, is_present, IsCurrent, is_held, PagesExist, Pages, left, KeepsCounted, LossKeeps}
use Rattle.list_lemmas.proofs.Membership.{in_filter}
use Rattle.record_list.proofs.OfLosses.LossAmong.{among_of, among_present}
use Rattle.record_list.proofs.OfChanges.WrittenLists.{left_both}

module _ (p : Protocol) (l : List Found) (n : ℕ) where
  -- what one test keeps of the records that count is in each list that has what the test leaves
  kept_in : (keep : ℕ → Bool) (m : List Found) → KeepsCounted p l n keep →
      ((f : Found) → Contains (left keep l) f → Contains m f) →
      (f : Found) → Contains l f → IsCurrent p l n f.rec ⊎ (is_held p l n f.rec ≡ true) →
      is_present m (name_of f.rec) ≡ true
  kept_in keep m counted sub f i counts =
      among_present (left keep l) m (among_of (left keep l) m sub) (name_of f.rec)
      (All-contains (λ g. IsCurrent p l n g.rec ⊎ (is_held p l n g.rec ≡ true) →
      is_present (left keep l) (name_of g.rec) ≡ true) l f counted i counts)

  -- what a test keeps it keeps twice
  pub counted_twice : (keep : ℕ → Bool) → KeepsCounted p l n keep → KeepsCounted p l n (λ s. keep s && keep s)
  counted_twice keep counted = all_from (λ f. IsCurrent p l n f.rec ⊎ (is_held p l n f.rec ≡ true) →
      is_present (left (λ s. keep s && keep s) l) (name_of f.rec) ≡ true) l
      (kept_in keep (left (λ s. keep s && keep s) l) counted (λ f c.
      let k = from_filter (λ g. keep g.slot.0) f l c in
      in_filter (λ g. keep g.slot.0 && keep g.slot.0) f l k.0 (and_from (keep f.slot.0) (keep f.slot.0) k.1 k.1)))

  module _ (keep out : ℕ → Bool) (counted : KeepsCounted p l n (λ s. keep s && out s)) where
    -- what two tests keep together the first keeps
    pub counted_first : KeepsCounted p l n keep
    counted_first = all_from (λ f. IsCurrent p l n f.rec ⊎ (is_held p l n f.rec ≡ true) →
        is_present (left keep l) (name_of f.rec) ≡ true) l
        (kept_in (λ s. keep s && out s) (left keep l) counted
        (λ f c. (from_filter (λ g. out g.slot.0) f (left keep l) (left_both keep out l f c)).0))

    -- and the second keeps it of what the first leaves
    pub counted_second : LossKeeps p l (left keep l) n → KeepsCounted p (left keep l) n out
    counted_second k = all_from (λ f. IsCurrent p (left keep l) n f.rec ⊎ (is_held p (left keep l) n f.rec ≡ true) →
        is_present (left out (left keep l)) (name_of f.rec) ≡ true) (left keep l) (λ f c counts.
        kept_in (λ s. keep s && out s) (left out (left keep l)) counted (left_both keep out l) f
        (from_filter (λ g. keep g.slot.0) f l c).0
        (⊎_elim
        (λ e. inl (e ∙ k.same_current f.rec.page (All-contains (PagesExist n) (left keep l) f (k.sound Pages) c).0))
        (λ held. inr (k.held f.rec held))
        counts))
