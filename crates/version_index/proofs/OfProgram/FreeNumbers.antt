-- Where a slot is blank, a number has no record.
use Rattle.version_index.proofs.Common.{◌≡◌, ℕ, zero, suc, ◌+◌, ◌<◌, ◌≤◌, ◌⊎◌, Bool, not, eqb, List, [], ◌∷◌, length, map, Contains, Option, Some, None, refl, sym, ap, ◌∙◌, subst, inl, inr, arith, eq-eqb, cases_lt, cases_eq, length-map, get_or_past, Contains-get_or, Rec, SlotUse, TablesState, use_at, record_at, HasFree, AreHeld}
use Rattle.std.proofs.Common.{filter, ne_eqb}
use Rattle.list_lemmas.proofs.Membership.{map_in, in_filter}
use Rattle.list_lemmas.proofs.Ranges.{fewer}
use Rattle.slot_tables.specs.declared.slots.SlotUse.TheVariants as slot

-- a list with each number below n has at least n items
pub covers : (n : ℕ) (xs : List ℕ) → ((x : ℕ) → x < n → Contains xs x) → n ≤ length xs
covers zero xs h = omega arith
covers (suc n) xs h =
    let p : ℕ → Bool = λ y. not (eqb y n) in
    let less = fewer p xs n (h n (omega arith)) (ap not (eq-eqb n n refl)) in
    let rest = covers n (filter p xs) (λ x below. in_filter p x xs (h x (omega arith))
    (ap not (ne_eqb x n (λ e. omega arith)))) in
    omega arith

-- some number has no record, or each has one
pub find_free : (records : List (Option Rec)) → HasFree records
    ⊎ ((x : ℕ) → x < length records → (r : Rec) × (record_at records x ≡ Some r))
find_free [] = inr (λ x low. absurd (omega arith))
find_free (None ∷ rs) = inl (record { number = 0; within = omega arith; free = refl })
find_free (Some r ∷ rs) = elim (find_free rs) [
  | inl f ↦ inl (record { number = suc f.number; within = (let low = f.within in omega arith); free = f.free })
  | inr all ↦ inr (by_place all)
]
  where
    by_place : ((x : ℕ) → x < length rs → (s : Rec) × (record_at rs x ≡ Some s)) → (x : ℕ) → x < length (Some r ∷ rs) →
        (s : Rec) × (record_at (Some r ∷ rs) x ≡ Some s)
    by_place all zero low = (r, refl)
    by_place all (suc x) low = all x (omega arith)

-- the number in a slot, and one that is none for a slot without
number_or : ℕ → SlotUse → ℕ
number_or none slot.Blank = none
number_or none slot.Damaged = none
number_or none (slot.Holds x) = x

pub has_free : (k : TablesState) → AreHeld k → length k.records ≡ length k.slots → (at : ℕ) → at < length k.slots →
    use_at k.slots at ≡ slot.Blank → HasFree k.records
unfolding number_or
has_free k h sizes at within blank = elim (find_free k.records) [
  | inl f ↦ f
  | inr all ↦ (
      let count = length k.records in
      let xs = map (number_or count) k.slots in
      let in_xs : (a : ℕ) → a < length k.slots → Contains xs (number_or count (use_at k.slots a)) =
      λ a low. map_in (number_or count) k.slots (use_at k.slots a) (Contains-get_or k.slots a slot.Blank low) in
      let long = length-map k.slots (number_or count) in
      let all_in : (x : ℕ) → x < count + 1 → Contains xs x =
      λ x low. elim (cases_eq x count) [
        | inl last ↦ subst (Contains xs) (ap (number_or count) blank ∙ sym last) (in_xs at within)
        | inr other ↦ (
            let r = all x (omega arith) in
            let a = h.used x r.0 r.1 in
            subst (Contains xs) (ap (number_or count) a.1) (in_xs a.0 (elim (cases_lt a.0 (length k.slots)) [
              | inl low' ↦ low'
              | inr past ↦ (let bare : slot.Blank ≡ slot.Holds x = sym (get_or_past k.slots a.0 slot.Blank past)
                  ∙ a.1 in absurd cc)
            ])))
      ] in
      let most = covers (count + 1) xs all_in in
      absurd (omega arith))
]
