-- What is derived once names are current one after the other, and answer: by which names it is so.
use Rattle.judged_records.proofs.Common.{◌≡◌, ◌≢◌, ℕ, ◌≤◌, Bool, true, false, not, eqb, ◌&&◌, List, [], ◌∷◌, ◌++◌, Contains, None, Some, refl, sym, ap, ◌∙◌, subst, inl, inr, ne_eqb, eq-eqb, eqb-true, le-ltb, cases_Bool, cond-true, cond-false, cond_both, and_left, and_right, and_from, Contains-cases, Contains-first, Contains-nil, Contains-rest, pairs_head, pairs_tail, Link, Rec, Apart, IndexState, current_of, Derived, derived_of, with_current, with_answers, all_current, all_answered}
use Rattle.judged_records.proofs.OfNotes.Derived.{loose_is, decided}

-- one name more
pub current_push : (names : List Link) (name : Link) (j : Derived) →
    all_current (names ++ name ∷ []) j ≡ with_current name (all_current names j)
current_push [] name j = refl
current_push (x ∷ xs) name j = current_push xs name (with_current x j)

pub answered_push : (names : List Link) (name : Link) (j : Derived) →
    all_answered (names ++ name ∷ []) j ≡ with_answers name (all_answered names j)
answered_push [] name j = refl
answered_push (x ∷ xs) name j = answered_push xs name (with_answers x j)

-- answers make no page current
pub answered_current : (names : List Link) (j : Derived) (page : ℕ) →
    (all_answered names j).current page ≡ j.current page
answered_current [] j page = refl
answered_current (x ∷ xs) j page = answered_current xs (with_answers x j) page

-- a page that is no name's is current as it was
pub current_off : (names : List Link) (j : Derived) (page : ℕ) → ((a : Link) → Contains names a → a.page ≢ page) →
    (all_current names j).current page ≡ j.current page
current_off [] j page off = refl
current_off (x ∷ xs) j page off =
    current_off xs (with_current x j) page (λ a i. off a (Contains-rest x xs a i))
    ∙ cond-false (eqb page x.page) x.version (j.current page)
    (ne_eqb page x.page (λ e. off x (Contains-first x xs) (sym e)))

-- and a name's is at its version
pub current_on : (names : List Link) (j : Derived) (a : Link) → Apart names → Contains names a →
    (all_current names j).current a.page ≡ a.version
current_on [] j a apart i = absurd (Contains-nil a i)
current_on (x ∷ xs) j a apart i = elim (Contains-cases x xs a i) [
  | inl e ↦ subst (λ b. (all_current xs (with_current x j)).current b.page ≡ b.version) e
      (current_off xs (with_current x j) x.page (λ b k same. pairs_head (λ b c. b.page ≢ c.page) x xs b
      apart k (sym same))
      ∙ cond-true (eqb x.page x.page) x.version (j.current x.page) (eq-eqb x.page x.page refl))
  | inr later ↦ current_on xs (with_current x j) a (pairs_tail (λ b c. b.page ≢ c.page) x xs apart) later
]

-- what is derived of a record is alike in both
pub record IsSameRecord (j j' : Derived) (r : Rec) : Type 0 where
  pub answerer : j'.answerer r ≡ j.answerer r
  pub waits : j'.waits r ≡ j.waits r

-- what is derived of a record of no name's page stays
pub kept_off : (names : List Link) (j : Derived) (r : Rec) → ((a : Link) → Contains names a → a.page ≢ r.page) →
    IsSameRecord j (all_current names j) r
kept_off [] j r off = record { answerer = refl; waits = refl }
kept_off (x ∷ xs) j r off =
    let rest = kept_off xs (with_current x j) r (λ a i. off a (Contains-rest x xs a i)) in
    let other = ne_eqb r.page x.page (λ e. off x (Contains-first x xs) (sym e)) in
    record {
      answerer = rest.answerer ∙ cond-false (eqb r.page x.page) None (j.answerer r) other;
      waits = rest.waits ∙ ap (λ b. not b && j.waits r) other;
    }

-- a record without an answerer that does not wait
pub record IsAtRest (j : Derived) (r : Rec) : Type 0 where
  pub answerer : j.answerer r ≡ None
  pub waits : j.waits r ≡ false

-- it stays so
rests_on : (names : List Link) (j : Derived) (r : Rec) → IsAtRest j r → IsAtRest (all_current names j) r
rests_on [] j r h = h
rests_on (x ∷ xs) j r h = rests_on xs (with_current x j) r (record {
  answerer = cond_both (eqb r.page x.page) None (j.answerer r) (λ o. o ≡ None) (λ own. refl) (λ other. h.answerer);
  waits = and_right (not (eqb r.page x.page)) (j.waits r) h.waits;
})

-- and a record of a name's page becomes so
pub release : (names : List Link) (j : Derived) (r : Rec) (a : Link) → Contains names a → a.page ≡ r.page →
    IsAtRest (all_current names j) r
release [] j r a i e = absurd (Contains-nil a i)
release (x ∷ xs) j r a i e = elim (Contains-cases x xs a i) [
  | inl same ↦ (
      let own = eq-eqb r.page x.page (sym e ∙ ap (λ b. b.page) (sym same)) in
      rests_on xs (with_current x j) r (record {
        answerer = cond-true (eqb r.page x.page) None (j.answerer r) own;
        waits = and_left (not (eqb r.page x.page)) (j.waits r) (ap not own);
      }))
  | inr later ↦ release xs (with_current x j) r a later e
]

-- what is derived of a record that waits for no name's page stays
pub unanswered_off : (names : List Link) (j : Derived) (r : Rec) →
    ((a : Link) → Contains names a → a.page ≡ r.next.page → j.waits r ≡ false) → IsSameRecord j (all_answered names j) r
unanswered_off [] j r off = record { answerer = refl; waits = refl }
unanswered_off (x ∷ xs) j r off =
    let still : (b : Bool) → (b ≡ true → j.waits r ≡ false) → (not b && j.waits r) ≡ j.waits r =
    still_waits (j.waits r) in
    let waits = still (eqb r.next.page x.page) (λ own. off x (Contains-first x xs)
    (sym (eqb-true r.next.page x.page own))) in
    let rest = unanswered_off xs (with_answers x j) r (λ a i e. waits ∙ off a (Contains-rest x xs a i) e) in
    record {
      answerer = rest.answerer ∙ cond-false (eqb r.next.page x.page && j.waits r) (Some x) (j.answerer r)
          (elim (cases_Bool (eqb r.next.page x.page)) [
            | inl own ↦ and_right (eqb r.next.page x.page) (j.waits r)
                (off x (Contains-first x xs) (sym (eqb-true r.next.page x.page own)))
            | inr other ↦ and_left (eqb r.next.page x.page) (j.waits r) other
          ]);
      waits = rest.waits ∙ waits;
    }
  where
    still_waits : (w b : Bool) → (b ≡ true → w ≡ false) → (not b && w) ≡ w
    still_waits w true h = sym (h refl)
    still_waits w false h = refl

-- and one that waits for a name's page is answered by the name
pub record IsNowAnswered (j : Derived) (r : Rec) (name : Link) : Type 0 where
  pub answerer : j.answerer r ≡ Some name
  pub waits : j.waits r ≡ false

pub answered_on : (names : List Link) (j : Derived) (r : Rec) (a : Link) → Apart names → Contains names a →
    a.page ≡ r.next.page →
    j.waits r ≡ true → IsNowAnswered (all_answered names j) r a
answered_on [] j r a apart i e waits = absurd (Contains-nil a i)
answered_on (x ∷ xs) j r a apart i e waits = elim (Contains-cases x xs a i) [
  | inl same ↦ (
      let own = eq-eqb r.next.page x.page (sym e ∙ ap (λ b. b.page) (sym same)) in
      let done : (with_answers x j).waits r ≡ false = and_left (not (eqb r.next.page x.page)) (j.waits r)
      (ap not own) in
      let rest = unanswered_off xs (with_answers x j) r (λ b k f. done) in
      record {
        answerer = rest.answerer ∙ cond-true (eqb r.next.page x.page && j.waits r) (Some x) (j.answerer r)
            (and_from (eqb r.next.page x.page) (j.waits r) own waits) ∙ ap Some same;
        waits = rest.waits ∙ done;
      })
  | inr later ↦ (
      let other = ne_eqb r.next.page x.page (λ f. pairs_head (λ b c. b.page ≢ c.page) x xs a apart later
      (sym f ∙ sym e)) in
      answered_on xs (with_answers x j) r a (pairs_tail (λ b c. b.page ≢ c.page) x xs apart) later e
      (ap (λ b. not b && j.waits r) other ∙ waits))
]

-- a record at or below the current version of its page waits for none and has no answerer
abbrev pub IsRested : Derived → Type 0
IsRested j = (r : Rec) → r.version ≤ j.current r.page → IsAtRest j r

pub rested : (n : IndexState) → IsRested (derived_of n)
rested n r low =
    let s = decided n r (loose_is n r ∙ le-ltb (current_of n r.page) r.version low) in
    record { answerer = s.answerer; waits = s.waits }

-- with a name more that is current
pub rested_on : (name : Link) (j : Derived) → IsRested j → IsRested (with_current name j)
rested_on name j h r low = elim (cases_Bool (eqb r.page name.page)) [
  | inl own ↦ record {
    answerer = cond-true (eqb r.page name.page) None (j.answerer r) own;
    waits = and_left (not (eqb r.page name.page)) (j.waits r) (ap not own);
  }
  | inr other ↦ (
      let before = h r (subst (λ v. r.version ≤ v) (cond-false (eqb r.page name.page) name.version (j.current r.page)
      other) low) in
      record {
        answerer = cond-false (eqb r.page name.page) None (j.answerer r) other ∙ before.answerer;
        waits = and_right (not (eqb r.page name.page)) (j.waits r) before.waits;
      })
]
