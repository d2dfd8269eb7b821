-- There is room for each slot that is to wait, since none waits twice.
use Rattle.live_flash.proofs.Common.{◌≡◌, ◌<◌, ◌≤◌, ℕ, ◌||◌, ◌==◌, ◌++◌, true, false, List, [], ◌∷◌, length, map, Option, Some, None, IfSome, refl, sym, ap, subst, ◌∙◌, inl, inr, arith, slots_of, Shape, Slot, Contents, IsImage, slots_in, AreProgrammed, IsProgrammed}
use Rattle.std.specs.Prelude.{nat_eq}
use Rattle.std.specs.Cmp.{nat_eq_equiv}
use Rattle.std.specs.List.{IsDistinct, list_any}
use Rattle.std.proofs.lemmas.Bool.{cases_Bool, both_ways, eq-eqb, eqb-true, or_cases, or_left, or_right}
use Rattle.std.proofs.lemmas.List.{map-append, length-map, length-append}
use Rattle.std.proofs.lemmas.List.Elements.{All-contains}
use Rattle.std.proofs.lemmas.List.Folds.{Any-from_list_any}
use Rattle.std.proofs.lemmas.Map.Keys.{IsDistinct-push}
use Rattle.std.proofs.lemmas.Map.Steps.{length-le_from_distinct_below}
use Rattle.list_lemmas.proofs.Membership.{in_any}
use Rattle.file_flash.specs.Loads.{slots_loaded}
use Rattle.file_flash.proofs.Loading.{in_append}
use Rattle.file_flash.proofs.Programming.{in_pushed}
use Rattle.live_flash.specs.Loads.{AreApart}
use Rattle.live_flash.specs.Waiting.{HasRoom}

abbrev number : Slot → ℕ
number at = at.0

-- none waits
pub none_waits : (shape : Shape) (places : ℕ) → slots_of shape ≤ places → HasRoom shape places []
unfolding IsDistinct
none_waits shape places many = record { places = many; once = tt }

-- a slot is looked for by its number
same_any : (waiting : List Slot) (k : ℕ) → list_any (nat_eq k) (map number waiting) ≡ slots_in waiting k
same_any [] k = refl
same_any (at ∷ waiting) k =
    ap (λ b. b || list_any (nat_eq k) (map number waiting)) (nat_eq_equiv.symm k at.0)
    ∙ ap (λ b. (at.0 == k) || b) (same_any waiting k)

-- a slot that waits, or is to, is one of the flash
below : (shape : Shape) (image : List Contents) (waiting : List Slot) (at : Slot) → IsImage shape image →
    AreProgrammed image waiting → at.0 < slots_of shape → (k : ℕ) → slots_in (waiting ++ at ∷ []) k ≡ true →
    k < slots_of shape
below shape image waiting at is all exists k here =
    elim (or_cases (slots_in waiting k) ((at.0 == k) || false) (sym (in_pushed waiting at k) ∙ here)) [
      | inl wait ↦
          let x = in_any (λ a. (a.0 == k) ≡ true) waiting (Any-from_list_any (λ a. a.0 == k) waiting wait) in
          let same : x.0.0 ≡ k = eqb-true x.0.0 k x.2 in
          let low = (All-contains (IsProgrammed image) waiting x.0 all x.1).0 in
          omega (arith, same, low, is.slots)
      | inr last ↦ elim (or_cases (at.0 == k) false last) [
        | inl same ↦ let e : at.0 ≡ k = eqb-true at.0 k same in omega (arith, e, exists)
        | inr none ↦ absurd (cc)
      ]
    ]

-- one slot more
module _ (shape : Shape) (places : ℕ) (waiting : List Slot) (at : Slot) (has : HasRoom shape places waiting)
    (apart : slots_in waiting at.0 ≡ false) where
  once_more : IsDistinct nat_eq (map number (waiting ++ at ∷ []))
  once_more = subst (IsDistinct nat_eq) (sym (map-append number waiting (at ∷ [])))
      (IsDistinct-push nat_eq_equiv (map number waiting) at.0 has.once (same_any waiting at.0 ∙ apart))

  -- there is a place for it
  pub has_place : (image : List Contents) → IsImage shape image → AreProgrammed image waiting →
      at.0 < slots_of shape → length waiting < places
  has_place image is all exists =
      let few = length-le_from_distinct_below (map number (waiting ++ at ∷ [])) (slots_of shape) once_more
      (λ q h. below shape image waiting at is all exists q (sym (same_any (waiting ++ at ∷ []) q) ∙ h)) in
      omega (
        arith,
        few,
        has.places,
        length-map (waiting ++ at ∷ []) number,
        length-append waiting (at ∷ []),
      )

  -- and it waits
  pub one_more : (more : ℕ) → places ≤ more → HasRoom shape more (waiting ++ at ∷ [])
  one_more more wide = record { places = omega (arith, has.places); once = once_more }

-- ---- slots that are loaded and do not wait

-- the first
pub front_fresh : (waiting : List Slot) (slot : Option Slot) (rest : List (Option Slot)) →
    ((k : ℕ) → slots_in (slots_loaded (slot ∷ rest)) k ≡ true → slots_in waiting k ≡ false) →
    IfSome slot (λ at. slots_in waiting at.0 ≡ false)
front_fresh waiting None rest none = tt
front_fresh waiting (Some at) rest none =
    none at.0 (or_left (at.0 == at.0) (slots_in (slots_loaded rest) at.0) (eq-eqb at.0 at.0 refl))

-- those behind it, once it may wait
pub rest_fresh : (waiting more : List Slot) (slot : Option Slot) (rest : List (Option Slot)) →
    AreApart (slot ∷ rest) →
    ((k : ℕ) → slots_in (slots_loaded (slot ∷ rest)) k ≡ true → slots_in waiting k ≡ false) →
    ((k : ℕ) → slots_in more k ≡ true → slots_in (waiting ++ slots_loaded (slot ∷ [])) k ≡ true) →
    (k : ℕ) → slots_in (slots_loaded rest) k ≡ true → slots_in more k ≡ false
rest_fresh waiting more None rest apart none adds k here = elim (cases_Bool (slots_in more k)) [
  | inr not ↦ not
  | inl wait ↦
      elim (or_cases (slots_in waiting k) false (sym (in_append waiting [] k) ∙ adds k wait)) [
        | inl old ↦ absurd (both_ways (slots_in waiting k) (none k here) old)
        | inr never ↦ absurd (cc)
      ]
]
rest_fresh waiting more (Some at) rest apart none adds k here = elim (cases_Bool (slots_in more k)) [
  | inr not ↦ not
  | inl wait ↦
      elim (or_cases (slots_in waiting k) ((at.0 == k) || false) (sym (in_append waiting (at ∷ []) k) ∙ adds k wait)) [
        | inl old ↦ absurd (both_ways (slots_in waiting k)
            (none k (or_right (at.0 == k) (slots_in (slots_loaded rest) k) here)) old)
        | inr last ↦ elim (or_cases (at.0 == k) false last) [
          | inl same ↦
              let e : at.0 ≡ k = eqb-true at.0 k same in
              absurd (both_ways (slots_in (slots_loaded rest) at.0) apart.0
              (subst (λ n. slots_in (slots_loaded rest) n ≡ true) (sym e) here))
          | inr never ↦ absurd (cc)
        ]
      ]
]
