-- The names of a round one after the other: each links to the next, the last to the first.
use Rattle.judged_records.proofs.Common.{◌≡◌, ◌≢◌, ℕ, zero, suc, ◌+◌, ◌<◌, true, List, [], ◌∷◌, ◌++◌, length, get_or, take, zip, AllPairs, refl, sym, ap, ◌∙◌, subst, arith, take_more, All-contains, Contains-get_or, pairs_head, Link, newest, is_present, link_of, next_names, found_in, IndexState, Derived, with_current, with_answers, all_current, all_answered}
use Rattle.std.proofs.lemmas.Slice.Zip.{length-zip, get_or-zip}
use Rattle.std.proofs.lemmas.List.{length-append, get_or_past}
use Rattle.judged_records.specs.IndexState.{IsCompleteCycle}
use Rattle.judged_records.specs.DerivedChanges.{IsRound, IsRoundByIndex}
use Rattle.judged_records.proofs.OfNotes.CurrentNames.{current_push, answered_push}

-- with what stands behind the last as what stands for none, one more changes nothing
push_default : {X : Type 0} (xs : List X) (d : X) (i : ℕ) → get_or (xs ++ d ∷ []) i d ≡ get_or xs i d
push_default [] d zero = refl
push_default [] d (suc i) = refl
push_default (x ∷ xs) d zero = refl
push_default (x ∷ xs) d (suc i) = push_default xs d i

-- the name after the one at an index
after_at : (start : Link) (rest : List Link) (i : ℕ) → get_or (next_names (start ∷ rest)) i start
    ≡ get_or (start ∷ rest) (i + 1) start
after_at start rest i = push_default rest start i ∙ ap (λ k. get_or (start ∷ rest) k start)
    (let next : suc i ≡ i + 1 = omega arith in next)

-- what a name of a round is
abbrev IsStep : IndexState → Link → Link → Type 0
IsStep n a b = (is_present (found_in n.notes) a ≡ true) × (newest (found_in n.notes) a.page ≡ a.version)
    × (link_of (found_in n.notes) a ≡ b)

module _ (n : IndexState) (names : List Link) (start : Link) (round : List Link) (r : IsRound n names start round) where
  step_at : (i : ℕ) → i < length (start ∷ r.rest) →
      IsStep n (get_or (start ∷ r.rest) i start) (get_or (start ∷ r.rest) (i + 1) start)
  step_at i within =
      let xs = start ∷ r.rest in
      let ys = next_names xs in
      let long : length ys ≡ length r.rest + 1 = length-append r.rest (start ∷ []) in
      let both = length-zip xs ys in
      let pair = get_or-zip xs ys i (start, start) within (omega arith) in
      let at = Contains-get_or (zip xs ys) i (start, start) (omega arith) in
      let cycle = subst (λ l. IsCompleteCycle n l) r.first r.cycle in
      let step = All-contains (λ (x : Link × Link). IsStep n x.0 x.1) (zip xs ys)
      (get_or (zip xs ys) i (start, start)) cycle at in
      subst (λ b. IsStep n (get_or xs i start) b) (after_at start r.rest i)
      (subst (λ (x : Link × Link). IsStep n x.0 x.1) pair step)

  pub round_by_index : IsRoundByIndex n start round
  round_by_index =
      let whole = r.first in
      record {
        top = λ i within. subst (λ l. (is_present (found_in n.notes) (get_or l i start) ≡ true) ×
            (newest (found_in n.notes) (get_or l i start).page ≡ (get_or l i start).version)) (sym whole)
            (let s = step_at i (subst (λ l. i < length l) whole within) in (s.0, s.1));
        link = λ i within. subst (λ l. link_of (found_in n.notes) (get_or l i start) ≡ get_or l (i + 1) start)
            (sym whole)
            (step_at i (subst (λ l. i < length l) whole within)).2;
        first = ap (λ l. get_or l 0 start) whole;
        last = get_or_past round (length round) start (omega arith);
        before = λ i low high e. (
            let apart = subst (AllPairs (λ a b. a.page ≢ b.page)) whole r.apart in
            inner start r.rest apart i low (subst (λ l. i < length l) whole high)
            (ap (λ l. (get_or l i start).page) (sym whole) ∙ e));
      }
    where
      inner : (x : Link) (xs : List Link) → AllPairs (λ a b. a.page ≢ b.page) (x ∷ xs) → (i : ℕ) → 0 < i →
          i < length (x ∷ xs) →
          (get_or (x ∷ xs) i x).page ≡ x.page → ⊥
      inner x xs apart zero low high e = absurd (omega arith)
      inner x xs apart (suc i) low high e = pairs_head (λ a b. a.page ≢ b.page) x xs (get_or xs i x) apart
          (Contains-get_or xs i x (omega arith)) (sym e)

-- what is derived with one name more of a list
pub current_more : (names : List Link) (j : Derived) (i : ℕ) (d : Link) → i < length names →
    all_current (take (i + 1) names) j ≡ with_current (get_or names i d) (all_current (take i names) j)
current_more names j i d within = ap (λ l. all_current l j) (take_more names i d within)
    ∙ current_push (take i names) (get_or names i d) j

pub answered_more : (names : List Link) (j : Derived) (i : ℕ) (d : Link) → i < length names →
    all_answered (take (i + 1) names) j ≡ with_answers (get_or names i d) (all_answered (take i names) j)
answered_more names j i d within = ap (λ l. all_answered l j) (take_more names i d within)
    ∙ answered_push (take i names) (get_or names i d) j
