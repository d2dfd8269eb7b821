-- Where the record stands that is responsible for another, and whether there is one.
use Rattle.std.proofs.Common.{◌≡◌, ℕ, ◌+◌, ◌<◌, Bool, true, false, not, ◌&&◌, eqb, ltb, List, [], ◌∷◌, None, Some, length, refl, sym, ap, ◌∙◌, inl, inr, arith}
use Rattle.std.proofs.Common.{lt-ltb, le-ltb, Contains}
use Rattle.std.specs.List.{list_any, position, position_or_len}
use Rattle.std.specs.Option.{is_some}
use Rattle.std.proofs.lemmas.Bool.{cases_Bool, both_ways, cond-true, cond-false, or_parts, not_from_true, not_from_false}
use Rattle.std.proofs.lemmas.List.Folds.{list_any_none}
use Rattle.list_lemmas.proofs.Membership.{all_from, Contains-cases, Contains-nil}
use Rattle.list_lemmas.proofs.Tests.{any_of}
use Rattle.tx_types.specs.declared.record.Rec.{Rec}
use Rattle.tx_types.specs.declared.config.Protocol.TheVariants.{Bpcc}
use Rattle.record_list.specs.declared.found.Found.{Found}
use Rattle.record_list.specs.Verdict.{straddles}
use Rattle.record_list.specs.Current.{is_loose, responsible, answers_for}
use Rattle.straddle_sets.specs.Responsible.{responsible_index}

-- the first item that passes comes no later than one that does
passes_within : (test : Found → Bool) (l : List Found) (f : Found) → Contains l f → test f ≡ true →
    position_or_len test l < length l
passes_within test [] f i h = absurd (Contains-nil f i)
passes_within test (x ∷ xs) f i h = elim (cases_Bool (test x)) [
  | inl yes' ↦ (let first = cond-false (not (test x)) (1 + position_or_len test xs) 0 (not_from_true (test x) yes') in
      omega arith)
  | inr no' ↦ elim (Contains-cases x xs f i) [
    | inl same ↦ absurd (both_ways (test x) no' (ap test same ∙ h))
    | inr later ↦ (
        let rest = passes_within test xs f later h in
        let next = cond-true (not (test x)) (1 + position_or_len test xs) 0 (not_from_false (test x) no') in
        omega arith)
  ]
]

-- where none passes the first place is the end
none_within : (test : Found → Bool) (l : List Found) → list_any test l ≡ false → position_or_len test l ≡ length l
none_within test [] h = refl
none_within test (x ∷ xs) h =
    let parts = or_parts (test x) (list_any test xs) h in
    let rest = none_within test xs parts.1 in
    let next = cond-true (not (test x)) (1 + position_or_len test xs) 0 (not_from_false (test x) parts.0) in
    omega arith

-- so there is no index
none_passes : (test : Found → Bool) (l : List Found) → list_any test l ≡ false → position test l ≡ None
none_passes test l none =
    let all = none_within test l none in
    cond-false (ltb (position_or_len test l) (length l)) (Some (position_or_len test l)) None
    (le-ltb (position_or_len test l) (length l) (omega arith))

-- and there is one exactly where an item passes
pub some_passes : (test : Found → Bool) (l : List Found) → is_some (position test l) ≡ list_any test l
some_passes test l = elim (cases_Bool (list_any test l)) [
  | inl any ↦ (
      let f = any_of test l any in
      let within = passes_within test l f.0 f.1 f.2 in
      ap is_some (cond-true (ltb (position_or_len test l) (length l)) (Some (position_or_len test l)) None
      (lt-ltb (position_or_len test l) (length l) within))
      ∙ sym any)
  | inr none ↦ ap is_some (none_passes test l none) ∙ sym none
]

-- a record that is not loose has no responsible record
pub unanswered : (list : List Found) (logical : ℕ) (r : Rec) → is_loose Bpcc list logical r ≡ false →
    responsible_index list logical r ≡ None
unanswered list logical r fixed =
    let test : Found → Bool = λ f. answers_for Bpcc list logical f.rec r in
    none_passes test list (list_any_none test list (all_from (λ f. test f ≡ false) list (λ f i.
    ap (λ b. b && eqb f.rec.page r.next.page && straddles f.rec r.next.version
    && eqb f.rec.version (responsible Bpcc list logical r.next)) fixed)))
