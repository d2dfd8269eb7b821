-- The one record of a slot, and the first record that passes a test.
use Rattle.judged_records.proofs.Common.{◌≡◌, ◌≢◌, ℕ, ◌<◌, Bool, false, ◌&&◌, eqb, List, length, get_or, AllPairs, Option, sym, ap, ◌∙◌, inl, inr, arith, eqb-true, eq-eqb, Contains, false≢true, cases_Bool, and_parts, and_from, Contains-get_or, any_of, Link, Protocol, Shape, Found, nothing, name_of, home, is_slot}
use Rattle.std.specs.List.{list_any}
use Rattle.list_lemmas.proofs.Pairs.{in_order}
use Rattle.list_lemmas.proofs.Tests.{any_from}
use Rattle.record_list.specs.Records.{record_at}
use Rattle.record_list.specs.Written.{is_wanted, is_needed}

abbrev pub Ascending : List Found → Type 0
Ascending list = AllPairs (λ f g. f.slot.0 < g.slot.0) list

-- two records of one slot are one
pub one_in_slot : (list : List Found) (f g : Found) → Ascending list → Contains list f → Contains list g →
    f.slot.0 ≡ g.slot.0 → f ≡ g
one_in_slot list f g up i j e = elim (in_order (λ x y. x.slot.0 < y.slot.0) list f g up i j) [
  | inl same ↦ same
  | inr (inl low) ↦ absurd (omega arith)
  | inr (inr high) ↦ absurd (omega arith)
]

-- whether a record of a slot passes two tests, by the record that stands there
pub any_in_slot : (list : List Found) (at i : ℕ) (t u : Found → Bool) → Ascending list → i < length list →
    (get_or list i nothing).slot.0 ≡ at →
    list_any (λ f. eqb f.slot.0 at && t f && u f) list ≡ (t (get_or list i nothing) && u (get_or list i nothing))
any_in_slot list at i t u up within here =
    let e = get_or list i nothing in
    let i_e = Contains-get_or list i nothing within in
    let p : Found → Bool = λ f. eqb f.slot.0 at && t f && u f in
    elim (cases_Bool (t e && u e)) [
      | inl pass ↦ (
          let both = and_parts (t e) (u e) pass in
          any_from p list e i_e (and_from (eqb e.slot.0 at && t e) (u e)
          (and_from (eqb e.slot.0 at) (t e) (eq-eqb e.slot.0 at here) both.0) both.1) ∙ sym pass)
      | inr fail ↦ elim (cases_Bool (list_any p list)) [
        | inl some ↦ (
            let f = any_of p list some in
            let parts = and_parts (eqb f.0.slot.0 at && t f.0) (u f.0) f.2 in
            let more = and_parts (eqb f.0.slot.0 at) (t f.0) parts.0 in
            let same : f.0 ≡ e = one_in_slot list f.0 e up f.1 i_e (eqb-true f.0.slot.0 at more.0 ∙ sym here) in
            absurd (false≢true (sym fail ∙ and_from (t e) (u e) (ap t (sym same) ∙ more.1)
            (ap u (sym same) ∙ parts.1))))
        | inr none ↦ none ∙ sym fail
      ]
    ]

-- no record passes where none stands in the slot
pub none_in_slot : (list : List Found) (at : ℕ) (t u : Found → Bool) → ((f : Found) → Contains list f → f.slot.0 ≢ at) →
    list_any (λ f. eqb f.slot.0 at && t f && u f) list ≡ false
none_in_slot list at t u off =
    let p : Found → Bool = λ f. eqb f.slot.0 at && t f && u f in
    elim (cases_Bool (list_any p list)) [
      | inl some ↦ (
          let f = any_of p list some in
          let parts = and_parts (eqb f.0.slot.0 at && t f.0) (u f.0) f.2 in
          absurd (off f.0 f.1 (eqb-true f.0.slot.0 at (and_parts (eqb f.0.slot.0 at) (t f.0) parts.0).0)))
      | inr none ↦ none
    ]

module _ (p : Protocol) (list : List Found) (logical : ℕ) (shape : Shape) (spare : Option ℕ) (pinned : List Link)
    (at : ℕ) where
  -- a slot without a record is not needed
  pub needed_none : ((f : Found) → Contains list f → f.slot.0 ≢ at) →
      is_needed p list logical shape spare pinned at ≡ false
  needed_none off = none_in_slot list at (λ f. is_slot at (home shape spare list (name_of f.rec)))
      (λ f. is_wanted p list logical pinned f.rec) off

  -- a slot with one is needed where it is its home and the record is wanted
  pub needed_at : (i : ℕ) → Ascending list → i < length list → (get_or list i nothing).slot.0 ≡ at →
      is_needed p list logical shape spare pinned at ≡ (is_slot at (home shape spare list (name_of (record_at list i)))
      && is_wanted p list logical pinned
      (record_at list i))
  needed_at i up within here =
      any_in_slot list at i (λ f. is_slot at (home shape spare list (name_of f.rec)))
      (λ f. is_wanted p list logical pinned f.rec) up within here
