-- A list whose records are among those of a sound list, and in which each name is present that is current or held
-- there: where the current versions are the same, the laws stay, nothing more is held, and what is in progress stays
-- so.
use Rattle.record_list.proofs.Common.{◌≡◌, ◌≢◌, ℕ, zero, suc, ◌^◌, ◌<◌, ◌≤◌, ◌⊎◌, true, false, List, All, Contains, sym, refl, ap, ◌∙◌, subst, inl, inr, ⊎_elim, arith, cases_Bool, cases_lt, All-contains, all_from, any_of, any_from, Link, Rec, Protocol, Scc, Bpcc, Found, greatest, newest, mention_at, name_of, is_present, newest_name, link_of, cur, straddling_upto, responsible, answers_for, is_held, current_name, follow, IsAsked, InProgress, SameCurrent}
use Rattle.record_list.specs.Current.{IsLoose}
use Rattle.record_list.specs.Changes.{SameResponsible}
use Rattle.record_list.proofs.OfFacts.Safe.{is_clear}
use Rattle.record_list.proofs.OfFacts.SoundNames.{IsSoundMap, LooseNames, EndingNames}
use Rattle.record_list.proofs.OfFacts.Held.{IsAnswer, answer_of, answers}
use Rattle.record_list.proofs.OfLosses.LossAmong.{IsEqual, among_absent}
use Rattle.record_list.proofs.OfLosses.LossSetting.{IsLoss, was_present, link_was, back_was, low, link_low, lost_linked, lost_copies, lost_link, lost_clear}
use Rattle.record_list.proofs.OfLosses.LossSetting.{lost_responsible}
use Rattle.record_list.proofs.OfLosses.LossCounted.{responsible_high, answered_below}
use Rattle.record_list.proofs.OfChanges.Keeping.{asked_same}
use Rattle.record_list.proofs.OfFacts.Names.{present_as, newest_present}

-- the list m has some of the records of the sound list l, each name that counts among them, and the same current
-- versions
pub record IsReduced (p : Protocol) (l m : List Found) (n : ℕ) : Type 0 where
  pub loss : IsLoss p l m n
  pub same : SameCurrent p l m n

module _ (p : Protocol) (l m : List Found) (n : ℕ) (r : IsReduced p l m n) where
  -- law 4
  reduced_present : (page : ℕ) → 0 < newest m page → (cur p m n page ≡ 0)
      ⊎ (is_present m (current_name p m n page) ≡ true)
  reduced_present page has =
      let in_range : page < n = low p l m n r.loss (newest_name m page) (newest_present m page has) in
      let e : cur p m n page ≡ cur p l n page = r.same page in_range in
      let named : ℕ → Link = λ v. record { page = page; version = v } in
      ⊎_elim
      (λ some. inr (subst (λ v. is_present m (named v) ≡ true) (sym e)
      (r.loss.kept (current_name p l n page) in_range some (inl refl))))
      (λ none. inl (omega arith))
      (cases_lt 0 (cur p l n page))

  -- law 5
  reduced_counted : (u : Link) → is_present m u ≡ true → u.version ≡ cur p m n u.page →
      ((link_of m u).version ≤ cur p m n (link_of m u).page) × (is_clear p m (link_of m u) ≡ true)
  reduced_counted u h at =
      let law = r.loss.sound.counted u (was_present p l m n r.loss u h) (at ∙ r.same u.page (low p l m n r.loss u h)) in
      subst (λ (q : Link). (q.version ≤ cur p m n q.page) × (is_clear p m q ≡ true)) (link_was p l m n r.loss u h) (
        subst (λ c. (link_of l u).version ≤ c) (sym (r.same (link_of l u).page (link_low p l m n r.loss u h))) law.0,
        lost_clear p l m n r.loss (link_of l u) law.1,
      )

module _ (l m : List Found) (n : ℕ) (r : IsReduced Bpcc l m n) where
  -- the record that is responsible for a loose one is the same
  reduced_responsible : (u : Link) → is_present l u ≡ true → cur Bpcc l n u.page < u.version →
      (link_of l u).version < cur Bpcc l n (link_of l u).page → responsible Bpcc l n (link_of l u) ≢ 0 →
      responsible Bpcc m n (link_of l u) ≡ responsible Bpcc l n (link_of l u)
  reduced_responsible u h loose below some =
      let q : Link = link_of l u in
      ap (λ c. greatest (straddling_upto c q) m) (r.same q.page (r.loss.sound.linked.pages u h).1)
      ∙ lost_responsible l m n r.loss u h loose below some

  -- law 6
  reduced_loose : LooseNames Bpcc m n
  reduced_loose u h at =
      let e : cur Bpcc m n u.page ≡ cur Bpcc l n u.page = r.same u.page (low Bpcc l m n r.loss u h) in
      let q : Link = link_of l u in
      let e' : cur Bpcc m n q.page ≡ cur Bpcc l n q.page = r.same q.page (link_low Bpcc l m n r.loss u h) in
      let loose : cur Bpcc l n u.page < u.version = subst (λ c. c < u.version) e at in
      let was = was_present Bpcc l m n r.loss u h in
      let law = r.loss.sound.loose u was loose in
      let k = subst (λ (k : Link). (k.version ≢ cur Bpcc m n k.page)
      × (k.version < cur Bpcc m n k.page → responsible Bpcc m n k ≢ 0))
      (link_was Bpcc l m n r.loss u h) (
        (λ x. law.1 (x ∙ e')),
        λ below none.
            let b : q.version < cur Bpcc l n q.page = subst (λ c. q.version < c) e' below in
            law.2 b (sym (reduced_responsible u was loose b (law.2 b)) ∙ none),
      ) in
      (sym (back_was Bpcc l m n r.loss u h) ∙ (law.0 ∙ sym e), k.0, k.1)

  -- links that led to an absent name lead to one
  reduced_ends : (k : ℕ) (q : Link) → is_present l (follow l q k) ≡ false →
      ((j : ℕ) × (is_present m (follow m q j) ≡ false))
  reduced_ends zero q h = (0, among_absent m l r.loss.among q h)
  reduced_ends (suc k) q h =
      ⊎_elim
      (λ there.
      let i = reduced_ends k (link_of l q) h in
      (suc i.0, subst (λ x. is_present m (follow m x i.0) ≡ false) (link_was Bpcc l m n r.loss q there) i.1))
      (λ absent. (0, absent))
      (cases_Bool (is_present m q))

  -- law 7
  reduced_ending : EndingNames Bpcc m n
  reduced_ending u h at =
      let law = r.loss.sound.ending u (was_present Bpcc l m n r.loss u h)
      (subst (λ c. c < u.version) (r.same u.page (low Bpcc l m n r.loss u h)) at) in
      reduced_ends law.0 (link_of m u) (subst (λ x. is_present l (follow l x law.0) ≡ false)
      (link_was Bpcc l m n r.loss u h) law.1)

  -- a record that is held was held
  reduced_held_bpcc : (s : Rec) → is_held Bpcc m n s ≡ true → is_held Bpcc l n s ≡ true
  reduced_held_bpcc s held =
      let f = any_of (λ g. answers_for Bpcc m n s g.rec) m held in
      let y : Rec = f.0.rec in
      let a : IsAnswer m n s y = answer_of m n s y f.2 in
      let x : IsEqual l y = r.loss.among.among f.0 f.1 in
      let u : Link = name_of y in
      let h : is_present m u ≡ true = present_as m f.0 u f.1 refl in
      let was : is_present l u ≡ true = was_present Bpcc l m n r.loss u h in
      let links : link_of l u ≡ y.next = lost_link Bpcc l m n r.loss f.0 f.1 in
      let e : cur Bpcc m n (link_of l u).page ≡ cur Bpcc l n (link_of l u).page =
      r.same (link_of l u).page (link_low Bpcc l m n r.loss u h) in
      let loose : cur Bpcc l n u.page < u.version = subst (λ c. c < u.version)
      (r.same u.page (low Bpcc l m n r.loss u h)) a.loose in
      let below : (link_of l u).version < cur Bpcc l n (link_of l u).page =
      subst (λ c. (link_of l u).version < c) e (subst (λ (k : Link). k.version < cur Bpcc m n k.page) (sym links)
      (answered_below m n s y a)) in
      let is : responsible Bpcc l n y.next ≡ s.version =
      sym (subst (λ k. responsible Bpcc m n k ≡ responsible Bpcc l n k) links (reduced_responsible u was loose below
      ((r.loss.sound.loose u was loose).2 below))) ∙ a.version in
      any_from (λ g. answers_for Bpcc l n s g.rec) l x.at x.is_in
      (subst (λ z. answers_for Bpcc l n s z ≡ true) (sym x.is) (answers l n s y (record {
        loose = loose;
        page = a.page;
        from = a.from;
        under = a.under;
        version = is;
      })))

  -- each record that is loose has the responsible record that it had
  reduced_same_responsible : SameResponsible Bpcc l m n
  reduced_same_responsible = all_from (λ f. IsLoose Bpcc m n f.rec →
      responsible Bpcc m n f.rec.next ≡ responsible Bpcc l n f.rec.next) m (λ f i at.
      let u : Link = name_of f.rec in
      let h : is_present m u ≡ true = present_as m f u i refl in
      let was : is_present l u ≡ true = was_present Bpcc l m n r.loss u h in
      let q : Link = link_of l u in
      let link : q ≡ f.rec.next = lost_link Bpcc l m n r.loss f i in
      let loose : cur Bpcc l n u.page < u.version = subst (λ c. c < u.version)
      (r.same u.page (low Bpcc l m n r.loss u h)) at in
      let e : cur Bpcc m n q.page ≡ cur Bpcc l n q.page = r.same q.page (link_low Bpcc l m n r.loss u h) in
      subst (λ k. responsible Bpcc m n k ≡ responsible Bpcc l n k) link
      (elim (cases_lt q.version (cur Bpcc l n q.page)) [
        | inl below ↦ reduced_responsible u was loose below ((r.loss.sound.loose u was loose).2 below)
        | inr high ↦ responsible_high Bpcc m n q (omega arith) ∙ sym (responsible_high Bpcc l n q high)
      ]))

-- laws 6 and 7
loose_stays : (p : Protocol) (l m : List Found) (n : ℕ) → IsReduced p l m n → LooseNames p m n
loose_stays Scc l m n r = tt
loose_stays Bpcc l m n r = reduced_loose l m n r

ending_stays : (p : Protocol) (l m : List Found) (n : ℕ) → IsReduced p l m n → EndingNames p m n
ending_stays Scc l m n r = tt
ending_stays Bpcc l m n r = reduced_ending l m n r

-- the laws stay
pub reduced_sound : (p : Protocol) (l m : List Found) (n : ℕ) → IsReduced p l m n → IsSoundMap p m n
reduced_sound p l m n r = record {
  copies = λ f i. lost_copies p l m n r.loss f i;
  linked = lost_linked p l m n r.loss;
  present = reduced_present p l m n r;
  counted = reduced_counted p l m n r;
  loose = loose_stays p l m n r;
  ending = ending_stays p l m n r;
}

-- nothing more is held
pub reduced_held : (p : Protocol) (l m : List Found) (n : ℕ) → IsReduced p l m n → (s : Rec) → is_held p m n s ≡ true →
    is_held p l n s ≡ true
reduced_held Scc l m n r s h = h
reduced_held Bpcc l m n r s h = reduced_held_bpcc l m n r s h

-- each loose record keeps its responsible record
pub reduced_answers : (p : Protocol) (l m : List Found) (n : ℕ) → IsReduced p l m n → SameResponsible p l m n
reduced_answers Scc l m n r = tt
reduced_answers Bpcc l m n r = reduced_same_responsible l m n r

-- a transaction in progress stays so
pub reduced_progress : (p : Protocol) (l m : List Found) (n : ℕ) → IsReduced p l m n → (names : List Link) →
    InProgress p l n names → InProgress p m n names
reduced_progress p l m n r names t = record {
  begun = record {
    transaction = t.begun.transaction;
    asked = all_from (λ f. IsAsked p m n names f.rec) m (λ f c.
        let x : IsEqual l f.rec = r.loss.among.among f c in
        asked_same p l m n names
        (λ a i. r.same a.page (All-contains (λ b. (b.page < n) × (1 ≤ b.version) × (b.version ≤ 2 ^ 62)) names a
        t.begun.transaction.in_range i).0)
        f.rec (subst (λ y. IsAsked p l n names y) x.is (All-contains (λ g. IsAsked p l n names g.rec) l x.at
        t.begun.asked x.is_in)));
    others = all_from (λ f. (Contains names (name_of f.rec) → ⊥) →
        All (λ name. mention_at name.page f.rec < name.version) names) m (λ f c.
        let x : IsEqual l f.rec = r.loss.among.among f c in
        subst (λ (y : Rec). (Contains names (name_of y) → ⊥) →
        All (λ name. mention_at name.page y < name.version) names) x.is
        (All-contains (λ g. (Contains names (name_of g.rec) → ⊥) →
        All (λ name. mention_at name.page g.rec < name.version) names) l x.at t.begun.others
        x.is_in));
  };
  absent = (t.absent.0, t.absent.1, t.absent.2, t.absent.3, among_absent m l r.loss.among t.absent.1 t.absent.4);
}
