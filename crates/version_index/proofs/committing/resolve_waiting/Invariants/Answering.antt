-- The newest record of a page answers for one after the other of those that wait for the page.
use Rattle.version_index.proofs.Common.{◌≡◌, ◌≢◌, ℕ, ◌<◌, ◌⊎◌, cond, List, length, set, get_or, count_by, Option, Some, None, refl, sym, ap, ◌∙◌, inl, inr, arith, eq-eqb, cases_eq, cases_lt, length-set, get_or-set_same, get_or-set_other, get_or_past, none-some, TablesState, IsTablesState, is_number, number_at, OnlyDerives, newest_at}
use Rattle.std.proofs.lemmas.List.Sums.{sum_by-set}
use Rattle.version_index.specs.Committing.{IsAnswered}

-- some of those that waited are answered
pub record IsAnswering (k new : TablesState) (page : ℕ) (newest : Option ℕ) : Type 0 where
  pub rest : new ≡ record k { answerers = new.answerers; waits = new.waits }
  pub answerers : length new.answerers ≡ length k.answerers
  pub waits : length new.waits ≡ length k.waits
  pub waited :
      (y : ℕ) → number_at k.waits y ≡ Some page →
      ((number_at new.answerers y ≡ newest) × (number_at new.waits y ≡ None)) ⊎ (number_at new.waits y ≡ Some page)
  pub others :
      (y : ℕ) → number_at k.waits y ≢ Some page →
      (number_at new.answerers y ≡ number_at k.answerers y) × (number_at new.waits y ≡ number_at k.waits y)

pub none_answered : (k : TablesState) (page : ℕ) (newest : Option ℕ) → IsAnswering k k page newest
none_answered k page newest = record {
  rest = refl;
  answerers = refl;
  waits = refl;
  waited = λ y e. inr e;
  others = λ y off. (refl, refl);
}

-- a number in a table is within it
pub number_within : (xs : List (Option ℕ)) (y x : ℕ) → number_at xs y ≡ Some x → y < length xs
number_within xs y x e = elim (cases_lt y (length xs)) [
  | inl within ↦ within
  | inr past ↦ absurd (none-some x (sym (get_or_past xs y None past) ∙ e))
]

module _ (k new : TablesState) (page : ℕ) (newest : Option ℕ) (sizes : IsTablesState k)
    (h : IsAnswering k new page newest) (z : ℕ)
    (waits : number_at new.waits z ≡ Some page) where
  -- one more
  pub one_answered : IsAnswering k (record new { answerers = set new.answerers z newest; waits = set new.waits z None })
      page newest
  one_answered =
      let within = number_within new.waits z page waits in
      let a = h.answerers in
      let b = h.waits in
      let c = sizes.answerers in
      let d = sizes.waits in
      let within' : z < length new.answerers = omega arith in
      record {
        rest = ap (λ (t : TablesState). record t {
          answerers = set new.answerers z newest;
          waits = set new.waits z None;
        }) h.rest;
        answerers = length-set new.answerers z newest ∙ h.answerers;
        waits = length-set new.waits z None ∙ h.waits;
        waited = λ y e. elim (cases_eq y z) [
          | inl here ↦ inl (
            ap (number_at (set new.answerers z newest)) here ∙ get_or-set_same new.answerers z newest None within',
            ap (number_at (set new.waits z None)) here ∙ get_or-set_same new.waits z None None within,
          )
          | inr off ↦ elim (h.waited y e) [
            | inl done ↦ inl (
              get_or-set_other new.answerers z y newest None off ∙ done.0,
              get_or-set_other new.waits z y None None off ∙ done.1,
            )
            | inr still ↦ inr (get_or-set_other new.waits z y None None off ∙ still)
          ]
        ];
        others = λ y off_page. (
            let off : y ≢ z = λ here. off_page (sym (h.others y off_page).1 ∙ ap (number_at new.waits) here ∙ waits) in
            let same = h.others y off_page in (
              get_or-set_other new.answerers z y newest None off ∙ same.0,
              get_or-set_other new.waits z y None None off ∙ same.1,
            ));
      }

  -- and fewer wait
  pub fewer_wait : count_by (is_number page) (set new.waits z None) < count_by (is_number page) new.waits
  fewer_wait =
      let within = number_within new.waits z page waits in
      let f : Option ℕ → ℕ = λ o. cond (is_number page o) 1 0 in
      let change = sum_by-set f new.waits z None None within in
      let was : f (get_or new.waits z None) ≡ 1 = ap f waits ∙ ap (λ b. cond b 1 0) (eq-eqb page page refl) in
      omega arith

-- where none waits, all are answered
pub all_answering : (k new : TablesState) (page : ℕ) → IsAnswering k new page (newest_at k page) →
    ((y : ℕ) → number_at new.waits y ≡ Some page → ⊥) → IsAnswered k new page
all_answering k new page h none = record {
  current = ap (λ (t : TablesState). t.current) h.rest;
  answered = λ y e. elim (h.waited y e) [ inl done ↦ done | inr still ↦ absurd (none y still) ];
  others = h.others;
}

-- and nothing else changes
pub answering_derives : (k new : TablesState) (page : ℕ) (newest : Option ℕ) → IsAnswering k new page newest →
    OnlyDerives k new
answering_derives k new page newest h = record {
  rest = h.rest ∙ ap (λ c. record k { current = c; answerers = new.answerers; waits = new.waits })
      (sym (ap (λ (t : TablesState). t.current) h.rest));
  unused = λ y none rests. h.others y (λ e. none-some page (sym rests ∙ e));
}
