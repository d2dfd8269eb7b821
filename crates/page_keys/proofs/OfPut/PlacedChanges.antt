-- Changes in ascending order of their pages.
use Rattle.page_keys.proofs.Common.{◌≡◌, ℕ, ◌<◌, ◌≤◌, Bool, true, false, not, ◌&&◌, ◌==◌, nat_lt, cond, List, [], ◌∷◌, zero, suc, ◌-◌, take, drop, filter, length, get_or, inl, inr, refl, sym, ap, ◌∙◌, arith, is_lt, nat_cmp, Less, Equal, Greater, cases_lt, nat_tests, changes_of, of_page, Change}
use Rattle.std.proofs.Common.{leb, ltb-true, ltb-false, leb-true, leb-false}
use Rattle.std.specs.List.{slice_range}
use Rattle.std.specs.List.Sorted.{IsStableByKey, IsPartitionPoint, ties}
use Rattle.std.proofs.lemmas.Bool.{cond-true, cond-false}
use Rattle.page_keys.specs.Groups.{Placed, IsByPage, at_page}
use Rattle.page_keys.specs.KeyRuns.{no_change}

-- items that pass from one place to another, and nowhere else
filter_range : {X : Type 0} (p : X → Bool) (xs : List X) (a b : ℕ) (d : X) → a ≤ b → b ≤ length xs →
    ((k : ℕ) → k < a → p (get_or xs k d) ≡ false) → ((k : ℕ) → a ≤ k → k < b → p (get_or xs k d) ≡ true) →
    ((k : ℕ) → b ≤ k → k < length xs → p (get_or xs k d) ≡ false) → filter p xs ≡ slice_range xs a b
filter_range p [] zero zero d up within before here behind = refl
filter_range p [] zero (suc b) d up within before here behind = absurd (omega arith)
filter_range p [] (suc a) b d up within before here behind = absurd (omega arith)
filter_range p (x ∷ xs) (suc a) (suc b) d up within before here behind =
    cond-false (p x) (x ∷ filter p xs) (filter p xs) (before 0 (omega arith))
    ∙ filter_range p xs a b d (omega arith) (omega arith) (λ k low. before (suc k) (omega arith))
    (λ k low high. here (suc k) (omega arith) (omega arith)) (λ k low high. behind (suc k) (omega arith) (omega arith))
    ∙ (let e : b - a ≡ suc b - suc a = omega arith in ap (λ n. take n (drop a xs)) e)
filter_range p (x ∷ xs) zero (suc b) d up within before here behind =
    cond-true (p x) (x ∷ filter p xs) (filter p xs) (here 0 (omega arith) (omega arith))
    ∙ ap (λ l. x ∷ l) (filter_range p xs zero b d (omega arith) (omega arith) (λ k low. absurd (omega arith))
    (λ k low high. here (suc k) (omega arith) (omega arith)) (λ k low high. behind (suc k) (omega arith) (omega arith)))
    ∙ (let e : suc (b - 0) ≡ suc b - 0 = omega arith in ap (λ n. take n (x ∷ xs)) e)
filter_range p (x ∷ xs) (suc a) zero d up within before here behind = absurd (omega arith)
filter_range p (x ∷ xs) zero zero d up within before here behind =
    cond-false (p x) (x ∷ filter p xs) (filter p xs) (behind 0 (omega arith) (omega arith))
    ∙ filter_range p xs zero zero d (omega arith) (omega arith) (λ k low. absurd (omega arith))
    (λ k low high. absurd (omega arith)) (λ k low high. behind (suc k) (omega arith) (omega arith))

abbrev pub page_in : Placed → ℕ
page_in p = p.0

-- what stands for a placed change where there is none
abbrev pub nowhere : ℕ → Placed
nowhere page = (page, record { ref_ptr = (0, 0); now = no_change })

less_by : (x y : Bool) → is_lt (cond x Less (cond y Equal Greater)) ≡ x
less_by true y = refl
less_by false true = refl
less_by false false = refl

-- two pages tie where they are one
ties_page : (page other : ℕ) →
    (not (is_lt (nat_cmp page other)) && not (is_lt (nat_cmp other page))) ≡ (other == page)
ties_page page other =
    rw (less_by (nat_lt page other) (page == other), less_by (nat_lt other page) (other == page))
    (elim (cases_lt page other) [
      | inl less ↦
          let a : nat_lt page other ≡ true = grind (arith, nat_tests) in
          let b : (other == page) ≡ false = grind (arith, nat_tests) in
          rw (a, b) refl
      | inr more ↦ elim (cases_lt other page) [
        | inl less ↦
            let a : nat_lt page other ≡ false = grind (arith, nat_tests) in
            let b : nat_lt other page ≡ true = grind (arith, nat_tests) in
            let d : (other == page) ≡ false = grind (arith, nat_tests) in
            rw (a, b, d) refl
        | inr least ↦
            let a : nat_lt page other ≡ false = grind (arith, nat_tests) in
            let b : nat_lt other page ≡ false = grind (arith, nat_tests) in
            let d : (other == page) ≡ true = grind (arith, nat_tests) in
            rw (a, b, d) refl
      ]
    ])

-- the changes of a page are in the order that they had
pub same_group : (placed sorted : List Placed) → IsStableByKey page_in nat_cmp placed sorted →
    (page : ℕ) → at_page page sorted ≡ at_page page placed
same_group placed sorted stable page =
    let same : (p : Placed) → ties (λ x y. is_lt (nat_cmp (page_in x) (page_in y))) (nowhere page) p
    ≡ (p.0 == page) = λ p. ties_page page p.0 in
    sym (ap (λ (t : Placed → Bool). filter t sorted) (λ i p. same p i))
    ∙ stable (nowhere page) ∙ ap (λ (t : Placed → Bool). filter t placed) (λ i p. same p i)

module _ (placed : List Placed) (page from to : ℕ)
    (below : IsPartitionPoint (λ p. nat_lt (page_in p) page ≡ true) (λ p. nat_lt (page_in p) page ≡ false) placed from)
    (up_to : IsPartitionPoint (λ p. leb (page_in p) page ≡ true) (λ p. leb (page_in p) page ≡ false) placed to)
    (within : from ≤ length placed) (inside : to ≤ length placed) where
  pub group_up : from ≤ to
  group_up = elim (cases_lt to from) [
    | inr more ↦ more
    | inl less ↦ absurd (
        let low = ltb-true _ _ (below.0 to (nowhere page) (omega arith) less) in
        let high = leb-false _ _ (up_to.1 to (nowhere page) (omega arith) (omega arith)) in
        omega (arith, low, high))
  ]

  pub group_range : at_page page placed ≡ slice_range placed from to
  group_range =
      filter_range (λ (p : Placed). p.0 == page) placed from to (nowhere page) group_up inside
      (λ k low. let less = ltb-true _ _ (below.0 k (nowhere page) (omega arith) low) in grind (arith, nat_tests))
      (λ k low high.
      let least = ltb-false _ _ (below.1 k (nowhere page) low (omega arith)) in
      let most = leb-true _ _ (up_to.0 k (nowhere page) (omega arith) high) in grind (arith, nat_tests))
      (λ k low high. let more = leb-false _ _ (up_to.1 k (nowhere page) low high) in grind (arith, nat_tests))

-- those that were found for a page are its changes
pub group_is : (logical own page : ℕ) (cs : List Change) (placed there group : List Placed) →
    own ≡ logical → IsByPage logical cs placed → there ≡ placed → group ≡ at_page page there →
    of_page own page cs ≡ changes_of group
group_is logical own page cs placed there group same by read is =
    ap (λ k. of_page k page cs) same
    ∙ sym (ap changes_of (is ∙ ap (at_page page) read) ∙ by.each page)
