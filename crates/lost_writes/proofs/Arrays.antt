-- The array of pages once it takes the writes of a transaction.
use Rattle.lost_writes.proofs.Common.{◌≡◌, ◌≢◌, ℕ, ◌<◌, List, [], ◌∷◌, length, map, set, get_or, All, Option, sym, ap, ◌∙◌, inl, inr, arith, cond, cases_eq, length-set, get_or-set_same, get_or-set_other, All-head, All-tail, All-cons}
use Rattle.std.proofs.Common.{◌==◌, eq-eqb, ne_eqb}
use Rattle.std.proofs.lemmas.Bool.{cond-true, cond-false}
use Rattle.std.proofs.lemmas.List.FromFn.{length-map-range_with_len, get_or-map-range_with_len, fill_by_all}
use Rattle.std.specs.List.{range_with_len}
use Rattle.list_lemmas.proofs.Ranges.{same_range}
use Rattle.tx_types.specs.Batch.{PageWrite}
use Rattle.array_machine.specs.ArrayState.{put}

-- what an array has at a page
pub at_page : {X : Type 0} (f : ℕ → X) (n page : ℕ) (d : X) → page < n →
    get_or (map f (range_with_len 0 n)) page d ≡ f page
at_page f n page d within = get_or-map-range_with_len f 0 n page page d within (omega arith)

-- a function with another value at one page
abbrev with_page : {X : Type 0} → (ℕ → X) → ℕ → X → ℕ → X
with_page f at v page = cond (page == at) v (f page)

set_page : {X : Type 0} (f : ℕ → X) (n at : ℕ) (v : X) → set (map f (range_with_len 0 n)) at v
    ≡ map (with_page f at v) (range_with_len 0 n)
set_page f n at v =
    let long = length-map-range_with_len f 0 n in
    fill_by_all (with_page f at v) (set (map f (range_with_len 0 n)) at v) n v
    (length-set (map f (range_with_len 0 n)) at v ∙ long)
    (λ k within. elim (cases_eq k at) [
      | inl same ↦ (
          let inside : at < length (map f (range_with_len 0 n)) = omega arith in
          ap (λ j. get_or (set (map f (range_with_len 0 n)) at v) j v) same
          ∙ get_or-set_same (map f (range_with_len 0 n)) at v v inside
          ∙ sym (cond-true (k == at) v (f k) (eq-eqb k at same)))
      | inr other ↦
          get_or-set_other (map f (range_with_len 0 n)) at k v v other
          ∙ at_page f n k v within
          ∙ sym (cond-false (k == at) v (f k) (ne_eqb k at other))
    ])

-- it takes the writes, where it has then what each writes, and at all other pages what it had
pub put_is : (ws : List PageWrite) (old new : ℕ → Option (List ℕ)) (n : ℕ) →
    All (λ w. new w.page ≡ w.value) ws →
    ((page : ℕ) → page < n → All (λ w. w.page ≢ page) ws → new page ≡ old page) →
    map new (range_with_len 0 n) ≡ put (map old (range_with_len 0 n)) ws
put_is [] old new n takes stays = same_range new old n
    (λ page within. stays page within (λ k d less. absurd (omega arith)))
put_is (w ∷ ws) old new n takes stays =
    put_is ws (with_page old w.page w.value) new n (All-tail (λ w. new w.page ≡ w.value) w ws takes)
    (λ page within others. elim (cases_eq page w.page) [
      | inl same ↦ ap new same ∙ All-head (λ w. new w.page ≡ w.value) w ws takes
          ∙ sym (cond-true (page == w.page) w.value (old page) (eq-eqb page w.page same))
      | inr other ↦ stays page within (All-cons (λ w. w.page ≢ page) w ws (λ e. other (sym e)) others)
          ∙ sym (cond-false (page == w.page) w.value (old page) (ne_eqb page w.page other))
    ])
    ∙ ap (λ pages. put pages ws) (sym (set_page old n w.page w.value))
