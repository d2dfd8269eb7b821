-- What is derived from the records of a list: by which versions it is so, and what of it stays with them.
use Rattle.judged_records.proofs.Common.{◌≡◌, ℕ, ◌<◌, ◌≤◌, true, false, cond, ltb, List, Contains, Some, None, refl, sym, ap, ◌∙◌, subst, inl, inr, arith, lt-ltb, ltb-true, false≢true, cases_Bool, cond-true, cond-false, cond_both, and_left, and_from, and_parts, none-some, same_Some, All-contains, any_of, Link, Rec, Protocol, Scc, Bpcc, Found, name_of, record_named, cur, is_loose, is_held, Pages, PagesExist, IsSoundList, same_name, IsSoundMap, found_in, IndexState, current_of, name_at, answerer, is_waiting, loose_of, answerer_of, waits_of, IsDerivedAlike, IsCommittedFor}
use Rattle.list_lemmas.proofs.Tests.{any_from}
use Rattle.record_list.specs.Current.{IsLoose, responsible, answers_for}
use Rattle.record_list.specs.Changes.{SameCurrent, SameResponsible}
use Rattle.record_list.proofs.OfFacts.Names.{named}
use Rattle.record_list.proofs.OfFacts.Held.{answer_of, answers}
use Rattle.record_list.proofs.OfLosses.LossCounted.{responsible_at, responsible_high}
use Rattle.judged_records.specs.Derived.{IsNewlyLoose}

-- a version that is not 0 has a name
pub name_at_some : (page version : ℕ) → 0 < version → name_at page version ≡ Some (named page version)
name_at_some page version some = cond-true (ltb 0 version) (Some (named page version)) None (lt-ltb 0 version some)

-- and a name that there is, is of that version
pub name_at_is : (page version : ℕ) (name : Link) → name_at page version ≡ Some name →
    (0 < version) × (name ≡ named page version)
name_at_is page version name e = elim (cases_Bool (ltb 0 version)) [
  | inl some ↦ (
    ltb-true 0 version some,
    sym (same_Some (named page version) name
        (sym (cond-true (ltb 0 version) (Some (named page version)) None some) ∙ e)),
  )
  | inr none ↦ absurd (none-some name (sym (cond-false (ltb 0 version) (Some (named page version)) None none) ∙ e))
]

-- a record that is not loose has no answerer
pub unanswered : (p : Protocol) (l : List Found) (logical : ℕ) (r : Rec) → is_loose p l logical r ≡ false →
    answerer p l logical r ≡ None
unanswered Scc l logical r fixed = refl
unanswered Bpcc l logical r fixed = cond-false (is_loose Bpcc l logical r)
    (name_at r.next.page (responsible Bpcc l logical r.next)) None fixed

-- and does not wait
pub unwaiting : (p : Protocol) (l : List Found) (logical : ℕ) (r : Rec) → is_loose p l logical r ≡ false →
    is_waiting p l logical r ≡ false
unwaiting Scc l logical r fixed = fixed
unwaiting Bpcc l logical r fixed = and_left (is_loose Bpcc l logical r)
    (ltb (cur Bpcc l logical r.next.page) r.next.version) fixed

-- a loose record whose link is at or above the current version there has none
pub none_answers : (p : Protocol) (l : List Found) (logical : ℕ) (r : Rec) →
    cur p l logical r.next.page ≤ r.next.version →
    answerer p l logical r ≡ None
none_answers Scc l logical r high = refl
none_answers Bpcc l logical r high =
    let version = responsible Bpcc l logical r.next in
    let none : name_at r.next.page version ≡ None = ap (name_at r.next.page)
    (responsible_high Bpcc l logical r.next high) in
    cond_both (is_loose Bpcc l logical r) (name_at r.next.page version) None (λ o. o ≡ None) (λ loose. none)
    (λ fixed. refl)

-- and waits where it is above
pub waits_high : (p : Protocol) (l : List Found) (logical : ℕ) (r : Rec) → cur p l logical r.page < r.version →
    cur p l logical r.next.page < r.next.version →
    is_waiting p l logical r ≡ true
waits_high Scc l logical r loose above = lt-ltb (cur Scc l logical r.page) r.version loose
waits_high Bpcc l logical r loose above =
    and_from (is_loose Bpcc l logical r) (ltb (cur Bpcc l logical r.next.page) r.next.version)
    (lt-ltb (cur Bpcc l logical r.page) r.version loose) (lt-ltb (cur Bpcc l logical r.next.page) r.next.version above)

-- what is derived of a record is alike in two lists
pub record IsAlike (p : Protocol) (l l' : List Found) (logical : ℕ) (r : Rec) : Type 0 where
  pub loose : is_loose p l' logical r ≡ is_loose p l logical r
  pub answerer : answerer p l' logical r ≡ answerer p l logical r
  pub waits : is_waiting p l' logical r ≡ is_waiting p l logical r

-- a loose record's link lies above what is current in both lists or in none, and one record is responsible for it
pub record IsLinkAlike (l l' : List Found) (logical : ℕ) (r : Rec) : Type 0 where
  pub above : ltb (cur Bpcc l' logical r.next.page) r.next.version ≡ ltb (cur Bpcc l logical r.next.page) r.next.version
  pub responsible : responsible Bpcc l' logical r.next ≡ responsible Bpcc l logical r.next

-- so it is with the same current version of its page, where its link is alike if it is loose
pub alike_bpcc : (l l' : List Found) (logical : ℕ) (r : Rec) → cur Bpcc l' logical r.page ≡ cur Bpcc l logical r.page →
    (IsLoose Bpcc l' logical r → IsLinkAlike l l' logical r) → IsAlike Bpcc l l' logical r
alike_bpcc l l' logical r own same =
    let a = is_loose Bpcc l logical r in
    let a' = is_loose Bpcc l' logical r in
    let loose : a' ≡ a = ap (λ c. ltb c r.version) own in
    record {
      loose = loose;
      answerer = elim (cases_Bool a') [
        | inl is ↦ (
            let version = (same (ltb-true (cur Bpcc l' logical r.page) r.version is)).responsible in
            ap (λ v. cond a' (name_at r.next.page v) None) version
            ∙ ap (λ b. cond b (name_at r.next.page (responsible Bpcc l logical r.next)) None) loose)
        | inr fixed ↦ unanswered Bpcc l' logical r fixed ∙ sym (unanswered Bpcc l logical r (sym loose ∙ fixed))
      ];
      waits = elim (cases_Bool a') [
        | inl is ↦ rw (is, sym loose ∙ is) (same (ltb-true (cur Bpcc l' logical r.page) r.version is)).above
        | inr fixed ↦ unwaiting Bpcc l' logical r fixed ∙ sym (unwaiting Bpcc l logical r (sym loose ∙ fixed))
      ];
    }

pub alike_scc : (l l' : List Found) (logical : ℕ) (r : Rec) → cur Scc l' logical r.page ≡ cur Scc l logical r.page →
    IsAlike Scc l l' logical r
alike_scc l l' logical r own = let loose = ap (λ c. ltb c r.version) own in
    record { loose = loose; answerer = refl; waits = loose }

-- what is derived of each record of a list is as in another
pub all_alike : (p : Protocol) (l l' : List Found) (logical : ℕ) → SameCurrent p l l' logical →
    SameResponsible p l l' logical →
    IsSoundList p l' logical →
    (f : Found) → Contains l' f → IsAlike p l l' logical f.rec
all_alike Scc l l' logical same responsible' sound f i = alike_scc l l' logical f.rec
    (same f.rec.page (All-contains (PagesExist logical) l' f (sound Pages) i).0)
all_alike Bpcc l l' logical same responsible' sound f i =
    let pages = All-contains (PagesExist logical) l' f (sound Pages) i in
    alike_bpcc l l' logical f.rec (same f.rec.page pages.0) (λ loose. record {
      above = ap (λ c. ltb c f.rec.next.version) (same f.rec.next.page pages.1);
      responsible = All-contains (λ g. IsLoose Bpcc l' logical g.rec →
          responsible Bpcc l' logical g.rec.next ≡ responsible Bpcc l logical g.rec.next) l' f responsible' i loose;
    })

-- a record that answers for another is in the list, and is held
pub record Answers (p : Protocol) (l : List Found) (logical : ℕ) (name : Link) : Type 0 where
  pub at : Found
  pub is_in : Contains l at
  pub its_name : name_of at.rec ≡ name
  pub held : is_held p l logical at.rec ≡ true

pub answerer_held : (p : Protocol) (l : List Found) (logical : ℕ) (f : Found) (name : Link) → Contains l f →
    answerer p l logical f.rec ≡ Some name → Answers p l logical name
answerer_held Scc l logical f name i e = absurd (none-some name e)
answerer_held Bpcc l logical f name i e = elim (cases_Bool (is_loose Bpcc l logical f.rec)) [
  | inl loose ↦ (
      let q = f.rec.next in
      let version = responsible Bpcc l logical q in
      let is = name_at_is q.page version name
      (sym (cond-true (is_loose Bpcc l logical f.rec) (name_at q.page version) None loose) ∙ e) in
      let x = responsible_at Bpcc l logical q is.0 in
      let between = and_parts (ltb x.at.rec.back q.version) (ltb q.version x.at.rec.version) x.straddles in
      record {
        at = x.at;
        is_in = x.is_in;
        its_name = same_name (name_of x.at.rec) (named q.page version) x.page x.version ∙ sym is.1;
        held = any_from (λ g. answers_for Bpcc l logical x.at.rec g.rec) l f i
            (answers l logical x.at.rec f.rec (record {
              loose = ltb-true (cur Bpcc l logical f.rec.page) f.rec.version loose;
              page = sym x.page;
              from = ltb-true x.at.rec.back q.version between.0;
              under = ltb-true q.version x.at.rec.version between.1;
              version = sym x.version;
            }));
      })
  | inr fixed ↦ absurd (none-some name (sym (unanswered Bpcc l logical f.rec fixed) ∙ e))
]

-- and a held record answers for one of the list
pub held_answers : (p : Protocol) (l : List Found) (logical : ℕ) (r : Rec) → is_held p l logical r ≡ true →
    (f : Found) × Contains l f × (answerer p l logical f.rec ≡ Some (name_of r))
held_answers Scc l logical r held = absurd (false≢true held)
held_answers Bpcc l logical r held =
    let f = any_of (λ g. answers_for Bpcc l logical r g.rec) l held in
    let a = answer_of l logical r f.0.rec f.2 in
    let q = f.0.rec.next in
    let under = a.under in
    let is = a.version in
    let some : 0 < responsible Bpcc l logical q = omega arith in (
      f.0,
      f.1,
      cond-true (is_loose Bpcc l logical f.0.rec) (name_at q.page (responsible Bpcc l logical q)) None
          (lt-ltb (cur Bpcc l logical f.0.rec.page) f.0.rec.version a.loose)
          ∙ name_at_some q.page (responsible Bpcc l logical q) some
          ∙ ap Some (same_name (named q.page (responsible Bpcc l logical q)) (name_of r) a.page a.version),
    )

-- so a record of the list is held exactly where it is the answerer of one
pub held_from : (p : Protocol) (l : List Found) (logical : ℕ) → IsSoundMap p l logical → (f g : Found) → Contains l f →
    Contains l g →
    answerer p l logical g.rec ≡ Some (name_of f.rec) → is_held p l logical f.rec ≡ true
held_from p l logical m f g i j e =
    let x = answerer_held p l logical g (name_of f.rec) j e in
    let same : x.at.rec ≡ f.rec = m.copies x.at x.is_in ∙ ap (record_named l) x.its_name ∙ sym (m.copies f i) in
    subst (λ r. is_held p l logical r ≡ true) same x.held

-- whether a record is loose, of what was noted
pub loose_is : (n : IndexState) (r : Rec) → loose_of n r ≡ ltb (current_of n r.page) r.version
unfolding loose_of current_of
loose_is n r = refl

pub derived_alike : (n m : IndexState) (r : Rec) → m.config ≡ n.config →
    IsAlike n.config.protocol (found_in n.notes) (found_in m.notes) n.config.logical r → IsDerivedAlike n m r
unfolding loose_of answerer_of waits_of
derived_alike n m r e a = record {
  loose = subst (λ c. is_loose c.protocol (found_in m.notes) c.logical r ≡ is_loose n.config.protocol (found_in n.notes)
      n.config.logical r)
      (sym e) a.loose;
  answerer = subst (λ c. answerer c.protocol (found_in m.notes) c.logical r ≡ answerer n.config.protocol
      (found_in n.notes) n.config.logical r) (sym e) a.answerer;
  waits = subst (λ c. is_waiting c.protocol (found_in m.notes) c.logical r ≡ is_waiting n.config.protocol
      (found_in n.notes) n.config.logical r) (sym e) a.waits;
}

-- a record that is not loose
pub decided : (n : IndexState) (r : Rec) → loose_of n r ≡ false → IsCommittedFor n r
unfolding loose_of answerer_of waits_of
decided n r fixed = record {
  loose = fixed;
  answerer = unanswered n.config.protocol (found_in n.notes) n.config.logical r fixed;
  waits = unwaiting n.config.protocol (found_in n.notes) n.config.logical r fixed;
}

-- a loose record that links above what is current
pub newly_loose : (n : IndexState) (r : Rec) → current_of n r.page < r.version →
    current_of n r.next.page < r.next.version → IsNewlyLoose n r
unfolding loose_of answerer_of waits_of current_of
newly_loose n r loose above =
    let p = n.config.protocol in
    let l = found_in n.notes in
    let c = cur p l n.config.logical r.next.page in
    record {
      loose = lt-ltb (cur p l n.config.logical r.page) r.version loose;
      answerer = none_answers p l n.config.logical r (omega arith);
      waits = waits_high p l n.config.logical r loose above;
    }
