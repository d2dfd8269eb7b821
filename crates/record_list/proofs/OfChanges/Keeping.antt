-- What a write keeps in progress: its own transaction and others, where their current versions stay.
use Rattle.record_list.proofs.Common.{◌≡◌, ◌≢◌, ℕ, ◌^◌, ◌<◌, ◌≤◌, false, eqb, List, zip, All, Contains, refl, sym, ◌∙◌, subst, inl, inr, arith, ne_eqb, false≢true, cases_Bool, cond-false, All-contains, all_from, Link, Rec, Protocol, Scc, Bpcc, Found, version_of, mention_at, name_of, is_present, cur, next_names, back_version, IsAsked, InProgress, IsAskedAt, IsWrite}
use Rattle.record_list.specs.Records.{linked_at}
use Rattle.record_list.specs.Transaction.{IsBegun, ShareNoPage}
use Rattle.record_list.proofs.OfWalks.Rounds.{Follows, follows_in}
use Rattle.record_list.proofs.OfChanges.Progress.{underway_of}
use Rattle.record_list.proofs.OfChanges.OneMore.{inserted_all, one_more, IsStep, next_in}

-- a write is a step of its transaction
pub step_of : (p : Protocol) (l l' : List Found) (logical : ℕ) (names : List Link) (f : Found) →
    IsWrite p l l' logical names f →
    IsStep l l' logical names f.rec
step_of p l l' logical names f w = record {
  one = one_more l l' f w.added w.fresh;
  underway = underway_of p l logical names w.in_progress.begun;
  of_names = w.named;
  next = λ b i.
      let pair = All-contains (IsAskedAt p l logical names f.rec) (zip names (next_names names)) (
        name_of f.rec,
        b,
      ) w.asked i in
      (pair refl).0;
}

-- its back version is the one that was asked for
pub back_of_step : (p : Protocol) (l l' : List Found) (logical : ℕ) (names : List Link) (f : Found) →
    IsWrite p l l' logical names f →
    (b : Link) → Follows names (name_of f.rec) b → f.rec.back ≡ back_version p l logical f.rec.page
back_of_step p l l' logical names f w b i =
    let pair = All-contains (IsAskedAt p l logical names f.rec) (zip names (next_names names)) (
      name_of f.rec,
      b,
    ) w.asked i in
    (pair refl).1

-- the back version asked for stays with the current version
same_back : (p : Protocol) (l l' : List Found) (logical page : ℕ) → cur p l' logical page ≡ cur p l logical page →
    back_version p l logical page ≡ back_version p l' logical page
same_back Scc l l' logical page e = refl
same_back Bpcc l l' logical page e = sym e

-- a record is asked for alike, where the current versions of the transaction's pages stay
pub asked_same : (p : Protocol) (l l' : List Found) (logical : ℕ) (names : List Link) →
    ((a : Link) → Contains names a → cur p l' logical a.page ≡ cur p l logical a.page) →
    (r : Rec) → IsAsked p l logical names r → IsAsked p l' logical names r
asked_same p l l' logical names same r asked =
    all_from (IsAskedAt p l' logical names r) (zip names (next_names names)) (λ x i e.
    let pair = All-contains (IsAskedAt p l logical names r) (zip names (next_names names)) x asked i e in
    (pair.0, pair.1 ∙ same_back p l l' logical x.0.page (same x.0 (follows_in names x.0 x.1 i).0), pair.2))

-- a name stays absent that is not the new one
pub absent_still : (l l' : List Found) (logical : ℕ) (names : List Link) (r : Rec) → IsStep l l' logical names r →
    (a : Link) → (a ≡ name_of r → ⊥) → is_present l a ≡ false → is_present l' a ≡ false
absent_still l l' logical names r s a off gone = elim (cases_Bool (is_present l' a)) [
  | inl here ↦ elim (s.one.cases a here) [
    | inl e ↦ absurd (off e)
    | inr old ↦ absurd (false≢true (sym gone ∙ old))
  ]
  | inr still ↦ still
]

-- a name that is absent afterwards was absent
pub absent_before : (l l' : List Found) (logical : ℕ) (names : List Link) (r : Rec) → IsStep l l' logical names r →
    (a : Link) → is_present l' a ≡ false → is_present l a ≡ false
absent_before l l' logical names r s a gone = elim (cases_Bool (is_present l a)) [
  | inl here ↦ absurd (false≢true (sym gone ∙ s.one.kept a here))
  | inr still ↦ still
]

module _ (p : Protocol) (l l' : List Found) (logical : ℕ) (names : List Link) (f : Found)
    (w : IsWrite p l l' logical names f) where
  -- the transaction of the write stays begun
  pub begun_on : ((a : Link) → Contains names a → cur p l' logical a.page ≡ cur p l logical a.page) →
      IsBegun p l' logical names
  begun_on same = record {
    transaction = w.in_progress.begun.transaction;
    asked = inserted_all (λ g. IsAsked p l' logical names g.rec) l l' f w.added
        (all_from (λ g. IsAsked p l' logical names g.rec) l (λ g i. asked_same p l l' logical names same g.rec
        (All-contains (λ h. IsAsked p l logical names h.rec) l g w.in_progress.begun.asked i)))
        (asked_same p l l' logical names same f.rec w.asked);
    others = inserted_all (λ g. (Contains names (name_of g.rec) → ⊥) →
        All (λ a. mention_at a.page g.rec < a.version) names) l l' f w.added
        w.in_progress.begun.others (λ out. absurd (out w.named));
  }

  -- a page of another transaction is no page of this one
  pub page_apart : (others : List Link) → ShareNoPage names others → (a b : Link) → Contains names a →
      Contains others b → a.page ≡ b.page → ⊥
  page_apart others share a b i j = All-contains (λ c. a.page ≢ c.page) others b
      (All-contains (λ c. All (λ d. c.page ≢ d.page) others) names a share i) j

  -- the new record mentions no page of another transaction
  no_mention : (others : List Link) → ShareNoPage names others → (b : Link) → Contains others b →
      mention_at b.page f.rec ≡ 0
  no_mention others share b j =
      let s = step_of p l l' logical names f w in
      let own : version_of b.page f.rec ≡ 0 = cond-false (eqb f.rec.page b.page) f.rec.version 0
      (ne_eqb f.rec.page b.page (page_apart others share (name_of f.rec) b s.of_names j)) in
      let link : linked_at b.page f.rec ≡ 0 = cond-false (eqb f.rec.next.page b.page) f.rec.next.version 0
      (ne_eqb f.rec.next.page b.page (page_apart others share f.rec.next b (next_in l l' logical names f.rec s) j)) in
      omega arith

  -- another transaction that shares no page stays in progress
  pub others_on : (others : List Link) → ShareNoPage names others →
      ((b : Link) → Contains others b → cur p l' logical b.page ≡ cur p l logical b.page) →
      InProgress p l logical others → InProgress p l' logical others
  others_on others share same h =
      let s = step_of p l l' logical names f w in
      let own_out : Contains others (name_of f.rec) → ⊥ = λ i. page_apart others share (name_of f.rec) (name_of f.rec)
      s.of_names i refl in
      record {
        begun = record {
          transaction = h.begun.transaction;
          asked = inserted_all (λ g. IsAsked p l' logical others g.rec) l l' f w.added
              (all_from (λ g. IsAsked p l' logical others g.rec) l (λ g i. asked_same p l l' logical others same g.rec
              (All-contains (λ x. IsAsked p l logical others x.rec) l g h.begun.asked i)))
              (all_from (IsAskedAt p l' logical others f.rec) (zip others (next_names others)) (λ x i e.
              absurd (own_out (subst (Contains others) (sym e) (follows_in others x.0 x.1 i).0))));
          others = inserted_all (λ g. (Contains others (name_of g.rec) → ⊥) →
              All (λ a. mention_at a.page g.rec < a.version) others) l l' f w.added
              h.begun.others (λ out. all_from (λ a. mention_at a.page f.rec < a.version) others (λ b j.
              let none = no_mention others share b j in
              let range = All-contains (λ c. (c.page < logical) × (1 ≤ c.version) × (c.version ≤ 2 ^ 62)) others b
              h.begun.transaction.in_range j in
              let positive = range.1 in
              omega arith));
        };
        absent =
            let any = h.absent in
            let i : Contains others any.1 = (any.0, any.2, any.3) in (
              any.0,
              any.1,
              any.2,
              any.3,
              absent_still l l' logical names f.rec s any.1
                  (λ e. own_out (subst (Contains others) e i)) any.4,
            );
      }
