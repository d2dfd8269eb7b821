-- What is kept by numbers as it is changed: that it stays what is derived by names.
use Rattle.judged_records.proofs.Common.{◌≡◌, ◌≢◌, ℕ, ◌<◌, ◌≤◌, Bool, true, false, not, cond, eqb, ◌&&◌, ◌⊎◌, List, Any, Option, Some, None, refl, sym, ap, ◌∙◌, subst, inl, inr, eq-eqb, ne_eqb, option_map, cases_Bool, cases_eq, cases_lt, cond-true, cond-false, and_left, and_right, and_from, none-some, same_Some, All-contains, in_any, cases_Option, Link, Rec, name_of, found_in, IndexState, name_at, answerer_of, waits_of, Derived, derived_of, with_current, with_answers}
use Rattle.judged_records.specs.Numbered.{Numbered, number_at, rec_at, named, awaited, AreDerived}
use Rattle.judged_records.specs.DerivedChanges.{IsDerivedAs}
use Rattle.judged_records.proofs.OfNotes.Derived.{name_at_some, name_at_is}
use Rattle.judged_records.proofs.OfNotes.CurrentNames.{IsRested}

-- the record of each number is one of those that are noted
abbrev pub AreNoted : Numbered → IndexState → Type 0
AreNoted t n = (number : ℕ) (r : Rec) → rec_at t.records number ≡ Some r → Any (λ f. f.rec ≡ r) (found_in n.notes)

-- what is kept is what is derived from the notes
pub derived_as : (t : Numbered) (n : IndexState) (j : Derived) → AreDerived t n.config.logical j → IsDerivedAs n j →
    AreNoted t n →
    AreDerived t n.config.logical (derived_of n)
derived_as t n j k same noted = record {
  current = λ page below. k.current page below ∙ ap (λ v. option_map Some (name_at page v))
      (sym (same.current page below));
  answerers = λ number r at.
      let f = in_any (λ f. f.rec ≡ r) (found_in n.notes) (noted number r at) in
      let one = All-contains (λ g. answerer_of n g.rec ≡ j.answerer g.rec) (found_in n.notes) f.0 same.answerer f.1 in
      k.answerers number r at ∙ ap (option_map Some) (sym (subst (λ s. answerer_of n s ≡ j.answerer s) f.2 one));
  waits = λ number r at.
      let f = in_any (λ f. f.rec ≡ r) (found_in n.notes) (noted number r at) in
      let one = All-contains (λ g. waits_of n g.rec ≡ j.waits g.rec) (found_in n.notes) f.0 same.waits f.1 in
      k.waits number r at ∙ ap (λ b. cond b (Some r.next.page) None)
      (sym (subst (λ s. waits_of n s ≡ j.waits s) f.2 one));
}

-- a number that stands for a name has a record
pub named_some : (records : List (Option Rec)) (o : Option Link) (x : ℕ) → named records (Some x) ≡ option_map Some o →
    (r : Rec) × (rec_at records x ≡ Some r) × (o ≡ Some (name_of r))
named_some records None x e = absurd (none-some _ (sym e))
named_some records (Some name) x e = elim (cases_Option (rec_at records x)) [
  | inl none ↦ absurd (none-some name (sym (ap (option_map name_of) none) ∙ same_Some _ (Some name) e))
  | inr some ↦ (
    some.0,
    some.1,
    ap Some (sym (same_Some _ name (sym (ap (option_map name_of) some.1) ∙ same_Some _ (Some name) e))),
  )
]

-- it stands for the same where the records of all numbers with one stay, but perhaps of one that it is not
named_stays : (records records' : List (Option Rec)) (number : Option ℕ) →
    ((x : ℕ) → number ≡ Some x → rec_at records' x ≡ rec_at records x) →
    named records' number ≡ named records number
named_stays records records' None same = refl
named_stays records records' (Some x) same = ap (λ o. Some (option_map name_of o)) (same x refl)

-- a page's record becomes current: its records above what was current are released, and others stay
pub record IsMadeCurrent (t t' : Numbered) (j : Derived) (x : ℕ) (r : Rec) : Type 0 where
  pub records : t'.records ≡ t.records
  pub own : rec_at t.records x ≡ Some r
  pub current : number_at t'.current r.page ≡ Some x
  pub elsewhere : (page : ℕ) → page ≢ r.page → number_at t'.current page ≡ number_at t.current page
  pub let_go : (y : ℕ) (s : Rec) → rec_at t.records y ≡ Some s → s.page ≡ r.page → j.current r.page < s.version →
      (number_at t'.answerers y ≡ None) × (number_at t'.waits y ≡ None)
  pub others : (y : ℕ) (s : Rec) → rec_at t.records y ≡ Some s → (s.page ≢ r.page) ⊎ (s.version ≤ j.current r.page) →
      (number_at t'.answerers y ≡ number_at t.answerers y) × (number_at t'.waits y ≡ number_at t.waits y)

pub made_current : (t t' : Numbered) (logical : ℕ) (j : Derived) (x : ℕ) (r : Rec) → AreDerived t logical j →
    IsRested j → 0 < r.version →
    IsMadeCurrent t t' j x r → AreDerived t' logical (with_current (name_of r) j)
made_current t t' logical j x r k rested positive m = record {
  current = λ page below. elim (cases_eq page r.page) [
    | inl own ↦ (
        let version = cond-true (eqb page r.page) r.version (j.current page) (eq-eqb page r.page own) in
        ap (λ p. named t'.records (number_at t'.current p)) own
        ∙ ap (named t'.records) m.current
        ∙ ap (λ l. named l (Some x)) m.records
        ∙ ap (λ o. Some (option_map name_of o)) m.own
        ∙ ap (option_map Some) (sym (name_at_some r.page r.version positive))
        ∙ ap (λ p. option_map Some (name_at p r.version)) (sym own)
        ∙ ap (λ v. option_map Some (name_at page v)) (sym version))
    | inr off ↦ (
        let version = cond-false (eqb page r.page) r.version (j.current page) (ne_eqb page r.page off) in
        ap (named t'.records) (m.elsewhere page off)
        ∙ ap (λ l. named l (number_at t.current page)) m.records
        ∙ k.current page below
        ∙ ap (λ v. option_map Some (name_at page v)) (sym version))
  ];
  answerers = λ y s at'. (
      let at = subst (λ l. rec_at l y ≡ Some s) m.records at' in
      elim (cases_eq s.page r.page) [
        | inl own ↦ (
            let gone = cond-true (eqb s.page r.page) None (j.answerer s) (eq-eqb s.page r.page own) in
            elim (cases_lt (j.current r.page) s.version) [
              | inl above ↦ ap (named t'.records) (m.let_go y s at own above).0 ∙ ap (option_map Some) (sym gone)
              | inr low ↦ (
                  let none = (rested s (subst (λ p. s.version ≤ j.current p) (sym own) low)).answerer in
                  ap (named t'.records) (m.others y s at (inr low)).0
                  ∙ ap (λ l. named l (number_at t.answerers y)) m.records
                  ∙ k.answerers y s at ∙ ap (option_map Some) (none ∙ sym gone))
            ])
        | inr off ↦ (
            let still = cond-false (eqb s.page r.page) None (j.answerer s) (ne_eqb s.page r.page off) in
            ap (named t'.records) (m.others y s at (inl off)).0
            ∙ ap (λ l. named l (number_at t.answerers y)) m.records
            ∙ k.answerers y s at ∙ ap (option_map Some) (sym still))
      ]);
  waits = λ y s at'. (
      let at = subst (λ l. rec_at l y ≡ Some s) m.records at' in
      elim (cases_eq s.page r.page) [
        | inl own ↦ (
            let gone : (not (eqb s.page r.page) && j.waits s) ≡ false =
            and_left (not (eqb s.page r.page)) (j.waits s) (ap not (eq-eqb s.page r.page own)) in
            elim (cases_lt (j.current r.page) s.version) [
              | inl above ↦ (m.let_go y s at own above).1 ∙ ap (λ b. cond b (Some s.next.page) None) (sym gone)
              | inr low ↦ (
                  let none = (rested s (subst (λ p. s.version ≤ j.current p) (sym own) low)).waits in
                  (m.others y s at (inr low)).1 ∙ k.waits y s at
                  ∙ ap (λ b. cond b (Some s.next.page) None) (none ∙ sym gone))
            ])
        | inr off ↦ (
            let still : (not (eqb s.page r.page) && j.waits s) ≡ j.waits s =
            ap (λ b. not b && j.waits s) (ne_eqb s.page r.page off) in
            (m.others y s at (inl off)).1 ∙ k.waits y s at ∙ ap (λ b. cond b (Some s.next.page) None) (sym still))
      ]);
}

-- a record answers for those that wait for its page, and others stay
pub record IsMadeAnswerer (t t' : Numbered) (x : ℕ) (r : Rec) : Type 0 where
  pub records : t'.records ≡ t.records
  pub current : t'.current ≡ t.current
  pub own : rec_at t.records x ≡ Some r
  pub answered : (y : ℕ) (s : Rec) → rec_at t.records y ≡ Some s → number_at t.waits y ≡ Some r.page →
      (number_at t'.answerers y ≡ Some x) × (number_at t'.waits y ≡ None)
  pub others : (y : ℕ) (s : Rec) → rec_at t.records y ≡ Some s → number_at t.waits y ≢ Some r.page →
      (number_at t'.answerers y ≡ number_at t.answerers y) × (number_at t'.waits y ≡ number_at t.waits y)

pub made_answerer : (t t' : Numbered) (logical : ℕ) (j : Derived) (x : ℕ) (r : Rec) → AreDerived t logical j →
    IsMadeAnswerer t t' x r → AreDerived t' logical (with_answers (name_of r) j)
made_answerer t t' logical j x r k m =
    let to : (y : ℕ) (s : Rec) → rec_at t.records y ≡ Some s → s.next.page ≡ r.page → j.waits s ≡ true →
    number_at t.waits y ≡ Some r.page =
    λ y s at own waits. k.waits y s at ∙ cond-true (j.waits s) (Some s.next.page) None waits ∙ ap Some own in
    let not_to : (y : ℕ) (s : Rec) → rec_at t.records y ≡ Some s → (s.next.page ≢ r.page) ⊎ (j.waits s ≡ false) →
    number_at t.waits y ≢ Some r.page =
    λ y s at off e. elim (cases_Bool (j.waits s)) [
      | inl waits ↦ elim off [
        | inl other ↦ other (same_Some s.next.page r.page
            (sym (k.waits y s at ∙ cond-true (j.waits s) (Some s.next.page) None waits) ∙ e))
        | inr none ↦ none-some r.page (sym (k.waits y s at ∙ cond-false (j.waits s) (Some s.next.page) None none) ∙ e)
      ]
      | inr none ↦ none-some r.page (sym (k.waits y s at ∙ cond-false (j.waits s) (Some s.next.page) None none) ∙ e)
    ] in
    record {
      current = λ page below. ap (λ l. named l (number_at t'.current page)) m.records
          ∙ ap (λ l. named t.records (number_at l page)) m.current ∙ k.current page below;
      answerers = λ y s at'. (
          let at = subst (λ l. rec_at l y ≡ Some s) m.records at' in
          let still : ((s.next.page ≢ r.page) ⊎ (j.waits s ≡ false)) → (eqb s.next.page r.page && j.waits s) ≡ false →
          named t'.records (number_at t'.answerers y) ≡ option_map Some ((with_answers (name_of r) j).answerer s) =
          λ off test.
          ap (named t'.records) (m.others y s at (not_to y s at off)).0
          ∙ ap (λ l. named l (number_at t.answerers y)) m.records
          ∙ k.answerers y s at
          ∙ ap (option_map Some) (sym (cond-false (eqb s.next.page r.page && j.waits s) (Some (name_of r))
          (j.answerer s) test)) in
          elim (cases_Bool (j.waits s)) [
            | inr none ↦ still (inr none) (and_right (eqb s.next.page r.page) (j.waits s) none)
            | inl waits ↦ elim (cases_eq s.next.page r.page) [
              | inr off ↦ still (inl off) (and_left (eqb s.next.page r.page) (j.waits s)
                  (ne_eqb s.next.page r.page off))
              | inl own ↦ (
                  let now = cond-true (eqb s.next.page r.page && j.waits s) (Some (name_of r)) (j.answerer s)
                  (and_from (eqb s.next.page r.page) (j.waits s) (eq-eqb s.next.page r.page own) waits) in
                  ap (named t'.records) (m.answered y s at (to y s at own waits)).0
                  ∙ ap (λ l. named l (Some x)) m.records
                  ∙ ap (λ o. Some (option_map name_of o)) m.own
                  ∙ ap (option_map Some) (sym now))
            ]
          ]);
      waits = λ y s at'. (
          let at = subst (λ l. rec_at l y ≡ Some s) m.records at' in
          let is : (b : Bool) → (not (eqb s.next.page r.page) && j.waits s) ≡ b →
          cond b (Some s.next.page) None ≡ awaited (with_answers (name_of r) j) s =
          λ b e. ap (λ c. cond c (Some s.next.page) None) (sym e) in
          elim (cases_Bool (j.waits s)) [
            | inr none ↦ (m.others y s at (not_to y s at (inr none))).1 ∙ k.waits y s at
                ∙ cond-false (j.waits s) (Some s.next.page) None none
                ∙ is false (and_right (not (eqb s.next.page r.page)) (j.waits s) none)
            | inl waits ↦ elim (cases_eq s.next.page r.page) [
              | inr off ↦ (m.others y s at (not_to y s at (inl off))).1 ∙ k.waits y s at
                  ∙ cond-true (j.waits s) (Some s.next.page) None waits
                  ∙ is true (and_from (not (eqb s.next.page r.page)) (j.waits s)
                  (ap not (ne_eqb s.next.page r.page off)) waits)
              | inl own ↦ (m.answered y s at (to y s at own waits)).1
                  ∙ is false (and_left (not (eqb s.next.page r.page)) (j.waits s)
                  (ap not (eq-eqb s.next.page r.page own)))
            ]
          ]);
    }

-- a number without a record gets one that waits and has no answerer
pub record IsAdded (t t' : Numbered) (x : ℕ) (r : Rec) : Type 0 where
  pub free : rec_at t.records x ≡ None
  pub own : rec_at t'.records x ≡ Some r
  pub others : (y : ℕ) → y ≢ x → rec_at t'.records y ≡ rec_at t.records y
  pub current : t'.current ≡ t.current
  pub its_answerer : number_at t'.answerers x ≡ None
  pub answerers : (y : ℕ) → y ≢ x → number_at t'.answerers y ≡ number_at t.answerers y
  pub its_page : number_at t'.waits x ≡ Some r.next.page
  pub waits : (y : ℕ) → y ≢ x → number_at t'.waits y ≡ number_at t.waits y

pub added_derived : (t t' : Numbered) (logical : ℕ) (j : Derived) (x : ℕ) (r : Rec) → AreDerived t logical j →
    j.answerer r ≡ None → j.waits r ≡ true → IsAdded t t' x r → AreDerived t' logical j
added_derived t t' logical j x r k none waits a =
    let stays : (number : Option ℕ) (o : Option Link) → named t.records number ≡ option_map Some o →
    named t'.records number ≡ option_map Some o =
    λ number o e. named_stays t.records t'.records number (λ z is.
    a.others z (λ same. (
    let some = named_some t.records o z (ap (named t.records) (sym is) ∙ e) in
    none-some some.0 (sym a.free ∙ ap (rec_at t.records) (sym same) ∙ some.1)))) ∙ e in
    record {
      current = λ page below. ap (λ l. named t'.records (number_at l page)) a.current
          ∙ stays (number_at t.current page) (name_at page (j.current page)) (k.current page below);
      answerers = λ y s at. elim (cases_eq y x) [
        | inl same ↦ (
            let its : s ≡ r = same_Some s r (sym at ∙ ap (rec_at t'.records) same ∙ a.own) in
            ap (λ z. named t'.records (number_at t'.answerers z)) same ∙ ap (named t'.records) a.its_answerer
            ∙ ap (option_map Some) (sym (ap j.answerer its ∙ none)))
        | inr off ↦ (
            let was = sym (a.others y off) ∙ at in
            ap (named t'.records) (a.answerers y off) ∙ stays (number_at t.answerers y) (j.answerer s)
            (k.answerers y s was))
      ];
      waits = λ y s at. elim (cases_eq y x) [
        | inl same ↦ (
            let its : s ≡ r = same_Some s r (sym at ∙ ap (rec_at t'.records) same ∙ a.own) in
            ap (number_at t'.waits) same ∙ a.its_page ∙ sym (cond-true (j.waits r) (Some r.next.page) None waits)
            ∙ ap (awaited j) (sym its))
        | inr off ↦ a.waits y off ∙ k.waits y s (sym (a.others y off) ∙ at)
      ];
    }

-- a number gives its record up, which is not current and answers for none
pub record IsGivenUp (t t' : Numbered) (x : ℕ) : Type 0 where
  pub own : rec_at t'.records x ≡ None
  pub others : (y : ℕ) → y ≢ x → rec_at t'.records y ≡ rec_at t.records y
  pub current : t'.current ≡ t.current
  pub answerers : (y : ℕ) → y ≢ x → number_at t'.answerers y ≡ number_at t.answerers y
  pub waits : (y : ℕ) → y ≢ x → number_at t'.waits y ≡ number_at t.waits y

pub given_up_derived : (t t' : Numbered) (logical : ℕ) (j : Derived) (x : ℕ) (r : Rec) → AreDerived t logical j →
    rec_at t.records x ≡ Some r →
    j.current r.page ≢ r.version → ((y : ℕ) (s : Rec) → rec_at t.records y ≡ Some s → j.answerer s ≢ Some (name_of r)) →
    IsGivenUp t t' x → AreDerived t' logical j
given_up_derived t t' logical j x r k own stale free a =
    let stays : (number : Option ℕ) (o : Option Link) → (o ≢ Some (name_of r)) →
    named t.records number ≡ option_map Some o →
    named t'.records number ≡ option_map Some o =
    λ number o other e. named_stays t.records t'.records number (λ z is.
    a.others z (λ same. (
    let some = named_some t.records o z (ap (named t.records) (sym is) ∙ e) in
    let its : some.0 ≡ r = same_Some some.0 r (sym some.1 ∙ ap (rec_at t.records) same ∙ own) in
    other (some.2 ∙ ap (λ s. Some (name_of s)) its)))) ∙ e in
    let not_x : (y : ℕ) (s : Rec) → rec_at t'.records y ≡ Some s →
    y ≢ x = λ y s at same. none-some s (sym a.own ∙ ap (rec_at t'.records) (sym same) ∙ at) in
    record {
      current = λ page below. ap (λ l. named t'.records (number_at l page)) a.current
          ∙ stays (number_at t.current page) (name_at page (j.current page)) (λ e. (
          let is = (name_at_is page (j.current page) (name_of r) e).1 in
          stale (ap (λ p. j.current p) (ap (λ n. n.page) is) ∙ sym (ap (λ n. n.version) is)))) (k.current page below);
      answerers = λ y s at. (
          let off = not_x y s at in
          let was = sym (a.others y off) ∙ at in
          ap (named t'.records) (a.answerers y off) ∙ stays (number_at t.answerers y) (j.answerer s) (free y s was)
          (k.answerers y s was));
      waits = λ y s at. (let off = not_x y s at in a.waits y off ∙ k.waits y s (sym (a.others y off) ∙ at));
    }
