-- Slots that wait once, in any order, and runs of them.
use Rattle.live_flash.proofs.Common.{◌≡◌, ◌⊎◌, ℕ, suc, ◌+◌, ◌-◌, ◌<◌, ◌≤◌, ◌==◌, ◌||◌, ◌++◌, Bool, true, false, List, [], ◌∷◌, length, take, drop, get_or, map, refl, sym, ap, subst, ◌∙◌, inl, inr, arith, Slot, Contents, slots_in, slots_of, Shape, IsImage, AreProgrammed}
use Rattle.std.specs.Prelude.{cond, nat_eq, IsPermutation}
use Rattle.std.specs.Cmp.{nat_eq_equiv}
use Rattle.std.specs.List.{IsDistinct, AllByRecursion}
use Rattle.std.proofs.lemmas.Bool.{cases_Bool, cases_lt, both_ways, eq-eqb, eqb-true, or_cases, or_left, or_right}
use Rattle.std.proofs.Common.{take-add}
use Rattle.std.proofs.lemmas.List.{length-take, length-drop, get_or-take, get_or-drop, take-append-drop, drop-drop}
use Rattle.std.proofs.lemmas.List.Sums.{sum_by-cons, sum_by-append}
use Rattle.std.proofs.lemmas.List.Sorted.{sum_by-IsPermutation}
use Rattle.live_flash.specs.Waiting.{times, AreOnce, AreInRun, no_slot}

abbrev number : Slot → ℕ
number at = at.0

abbrev one : ℕ → Slot → ℕ
one k at = cond (at.0 == k) 1 0

-- ---- how often a slot is there

times_more : (at : Slot) (slots : List Slot) (k : ℕ) → times (at ∷ slots) k ≡ one k at + times slots k
times_more at slots k = sum_by-cons (one k) at slots

times_both : (xs ys : List Slot) (k : ℕ) → times (xs ++ ys) k ≡ times xs k + times ys k
times_both xs ys k = sum_by-append (one k) xs ys

one_here : (k : ℕ) (at : Slot) → (at.0 == k) ≡ true → one k at ≡ 1
one_here k at e = ap (λ b. cond b 1 0) e

one_there : (k : ℕ) (at : Slot) → (at.0 == k) ≡ false → one k at ≡ 0
one_there k at e = ap (λ b. cond b 1 0) e

some_times : (slots : List Slot) (k : ℕ) → slots_in slots k ≡ true → 1 ≤ times slots k
some_times [] k here = absurd (both_ways false refl here)
some_times (at ∷ slots) k here = elim (or_cases (at.0 == k) (slots_in slots k) here) [
  | inl same ↦ omega (arith, times_more at slots k, one_here k at same)
  | inr rest ↦ omega (arith, times_more at slots k, some_times slots k rest)
]

neither : (a b : Bool) → (a || b) ≡ false → (a ≡ false) × (b ≡ false)
neither false b e = (refl, e)
neither true b e = absurd (cc)

no_times : (slots : List Slot) (k : ℕ) → slots_in slots k ≡ false → times slots k ≡ 0
no_times [] k none = refl
no_times (at ∷ slots) k none =
    let parts = neither (at.0 == k) (slots_in slots k) none in
    times_more at slots k ∙ omega (arith, one_there k at parts.0, no_times slots k parts.1)

-- as often in any order
module _ (xs ys : List Slot) (s : IsPermutation xs ys) where
  same_times : (k : ℕ) → times ys k ≡ times xs k
  same_times k = sum_by-IsPermutation (one k) xs ys s

  pub same_in : (k : ℕ) → slots_in ys k ≡ slots_in xs k
  same_in k = elim (cases_Bool (slots_in ys k)) [
    | inl there ↦ elim (cases_Bool (slots_in xs k)) [
      | inl here ↦ there ∙ sym here
      | inr none ↦ absurd (omega (arith, some_times ys k there, same_times k, no_times xs k none))
    ]
    | inr gone ↦ elim (cases_Bool (slots_in xs k)) [
      | inl here ↦ absurd (omega (arith, some_times xs k here, same_times k, no_times ys k gone))
      | inr none ↦ gone ∙ sym none
    ]
  ]

  pub still_once : AreOnce xs → AreOnce ys
  still_once once k = omega (arith, same_times k, once k)

-- ---- from their numbers

apart_in : (slots : List Slot) (n : ℕ) → AllByRecursion (λ y. nat_eq n y ≡ false) (map number slots) →
    slots_in slots n ≡ false
apart_in [] n all = refl
apart_in (at ∷ slots) n all =
    ap (λ b. b || slots_in slots n) (nat_eq_equiv.symm at.0 n ∙ all.0) ∙ apart_in slots n all.1

pub once_of : (slots : List Slot) → IsDistinct nat_eq (map number slots) → AreOnce slots
unfolding IsDistinct
once_of [] d k = let none : times [] k ≡ 0 = refl in omega (arith, none)
once_of (at ∷ slots) d k = elim (cases_Bool (at.0 == k)) [
  | inl same ↦
      let is : at.0 ≡ k = eqb-true at.0 k same in
      let none : slots_in slots k ≡ false = subst (λ n. slots_in slots n ≡ false) is (apart_in slots at.0 d.0) in
      omega (arith, times_more at slots k, one_here k at same, no_times slots k none)
  | inr not ↦ omega (arith, times_more at slots k, one_there k at not, once_of slots d.1 k)
]

-- ---- slots that follow each other

abbrev Ascends : List Slot → ℕ → Type 0
Ascends run first = (i : ℕ) → i < length run → (get_or run i no_slot).0 ≡ first + i

rest_ascends : (at : Slot) (run : List Slot) (first : ℕ) → Ascends (at ∷ run) first → Ascends run (suc first)
rest_ascends at run first up i inside =
    let next : first + suc i ≡ suc first + i = omega arith in
    up (suc i) (omega (arith, inside)) ∙ next

in_run : (run : List Slot) (first k : ℕ) → Ascends run first → slots_in run k ≡ true →
    (first ≤ k) × (k < first + length run)
in_run [] first k up here = absurd (both_ways false refl here)
in_run (at ∷ run) first k up here =
    let begins : at.0 ≡ first + 0 = up 0 (omega arith) in
    elim (or_cases (at.0 == k) (slots_in run k) here) [
      | inl same ↦
          let is : at.0 ≡ k = eqb-true at.0 k same in
          (omega (arith, begins, is), omega (arith, begins, is))
      | inr rest ↦
          let there = in_run run (suc first) k (rest_ascends at run first up) rest in
          (omega (arith, there.0), omega (arith, there.1))
    ]

run_has : (run : List Slot) (first k : ℕ) → Ascends run first → first ≤ k → k < first + length run →
    slots_in run k ≡ true
run_has [] first k up from below = absurd (omega (arith, from, below))
run_has (at ∷ run) first k up from below =
    let begins : at.0 ≡ first + 0 = up 0 (omega arith) in
    elim (cases_lt first k) [
      | inl less ↦ or_right (at.0 == k) (slots_in run k)
          (run_has run (suc first) k (rest_ascends at run first up) (omega (arith, less)) (omega (arith, below)))
      | inr most ↦
          let is : at.0 ≡ k = omega (arith, begins, from, most) in
          or_left (at.0 == k) (slots_in run k) (eq-eqb at.0 k is)
    ]

-- a slot alone
pub run_one : (slots : List Slot) (from : ℕ) → AreInRun slots from 1
run_one slots from k low =
    let none : from + k ≡ from = omega (arith, low) in
    ap (λ i. (get_or slots i no_slot).0) none ∙ omega (arith, low)

-- and one more
pub run_more : (slots : List Slot) (from count : ℕ) → AreInRun slots from count →
    (get_or slots (from + count) no_slot).0 ≡ (get_or slots from no_slot).0 + count → AreInRun slots from (count + 1)
run_more slots from count run next k low = elim (cases_lt k count) [
  | inl below ↦ run k below
  | inr above ↦
      let same : k ≡ count = omega (arith, low, above) in
      subst (λ i. (get_or slots (from + i) no_slot).0 ≡ (get_or slots from no_slot).0 + i) (sym same) next
]

module _ (slots : List Slot) (from count : ℕ) (within : from + count ≤ length slots)
    (run : AreInRun slots from count) where
  abbrev part : List Slot
  part = take count (drop from slots)

  abbrev first : ℕ
  first = (get_or slots from no_slot).0

  part_long : length part ≡ count
  part_long = omega (arith, length-take count (drop from slots), length-drop from slots, within)

  part_ascends : Ascends part first
  part_ascends i inside =
      let low : i < count = omega (arith, part_long, inside) in
      ap number (get_or-take count (drop from slots) i no_slot low ∙ get_or-drop from slots i no_slot) ∙ run i low

  pub inner : (k : ℕ) → slots_in part k ≡ true → (first ≤ k) × (k < first + count)
  inner k here =
      let there = in_run part first k part_ascends here in (there.0, omega (arith, there.1, part_long))

  pub outer : (k : ℕ) → slots_in part k ≡ false → (k < first) ⊎ (first + count ≤ k)
  outer k none = elim (cases_lt k first) [
    | inl low ↦ inl low
    | inr above ↦ elim (cases_lt k (first + count)) [
      | inl below ↦ absurd (both_ways (slots_in part k) none
          (run_has part first k part_ascends above (omega (arith, below, part_long))))
      | inr past ↦ inr past
    ]
  ]

  -- those that are due are these and those behind them
  pub due_parts : drop from slots ≡ part ++ drop (from + count) slots
  due_parts = sym (take-append-drop count (drop from slots)) ∙ ap (λ xs. part ++ xs) (drop-drop count from slots)

  -- and those that wait then are these and those before them
  pub waits_parts : take (from + count) slots ≡ take from slots ++ part
  waits_parts = take-add from count slots

  -- none is there again
  pub apart : AreOnce slots → (k : ℕ) → slots_in part k ≡ true → slots_in (drop (from + count) slots) k ≡ false
  apart once k here = elim (cases_Bool (slots_in (drop (from + count) slots) k)) [
    | inl again ↦ absurd (omega (
      arith,
      once k,
      ap (λ xs. times xs k) (take-append-drop from slots),
      times_both (take from slots) (drop from slots) k,
      ap (λ xs. times xs k) due_parts,
      times_both part (drop (from + count) slots) k,
      some_times part k here,
      some_times (drop (from + count) slots) k again,
    ))
    | inr none ↦ none
  ]

  -- all of them are slots of the flash
  pub exist : (shape : Shape) (image : List Contents) → IsImage shape image → AreProgrammed image slots → 1 ≤ count →
      first + count ≤ slots_of shape
  exist shape image is all some =
      let last : count - 1 < count = omega (arith, some) in
      let at = run (count - 1) last in
      let low = (all (from + (count - 1)) no_slot (omega (arith, within, some))).0 in
      omega (arith, at, low, is.slots, some)
