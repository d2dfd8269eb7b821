-- An array that a state may have on its image is that of the state before it settled, or after.
use Rattle.lost_writes.proofs.Common.{◌≡◌, ◌≤◌, Bool, true, false, List, [], ◌∷◌, ◌++◌, All, Contains, refl, sym, ap, ◌∙◌, inl, inr, arith, cond, both_ways, All-head, All-tail, All-contains, Contains-cases, Contains-nil}
use Rattle.std.proofs.Common.{append-nil, ◌+◌, ℕ}
use Rattle.std.proofs.lemmas.List.Sums.{sum_by-cons}
use Rattle.std.specs.Prelude.{count_by}
use Rattle.list_lemmas.proofs.Tests.{all_uncounted}
use Rattle.array_machine.specs.ArrayState.{ArrayState, Entry, Pages, is_doubted, put, Represents}
use Rattle.array_machine.specs.Step.{doubted, settled}
use Rattle.array_runs.specs.Promises.{HasOneDoubt}
use Rattle.lost_writes.specs.AfterLoss.{RepresentsArray}

abbrev in_doubt : Entry → Bool
in_doubt e = is_doubted e.mark

-- the writes of what is in doubt, where none is
none_doubted : (es : List Entry) → All (λ e. in_doubt e ≡ false) es → doubted es ≡ []
none_doubted [] none = refl
none_doubted (x ∷ xs) none =
    ap (λ b. cond b (x.writes ++ doubted xs) (doubted xs)) (All-head (λ e. in_doubt e ≡ false) x xs none)
    ∙ none_doubted xs (All-tail (λ e. in_doubt e ≡ false) x xs none)

-- and where one alone is, by whether it is the first
one_first : (x : Entry) (xs : List Entry) (e : Entry) (b : Bool) → in_doubt x ≡ b → count_by in_doubt (x ∷ xs) ≤ 1 →
    Contains (x ∷ xs) e → in_doubt e ≡ true →
    (count_by in_doubt xs ≤ 1 → Contains xs e → doubted xs ≡ e.writes) → doubted (x ∷ xs) ≡ e.writes
one_first x xs e true is few i doubt rest =
    let split : count_by in_doubt (x ∷ xs) ≡ cond (in_doubt x) 1 0 + count_by in_doubt xs =
    sum_by-cons (λ y. cond (in_doubt y) 1 0) x xs in
    let one : ◌≡◌ {A = ℕ} (cond {A = ℕ} (in_doubt x) 1 0) 1 = ap (λ (b : Bool). cond {A = ℕ} b 1 0) is in
    let none = all_uncounted in_doubt xs (omega (arith, split, one, few)) in
    elim (Contains-cases x xs e i) [
      | inl same ↦ ap (λ b. cond b (x.writes ++ doubted xs) (doubted xs)) is
          ∙ ap (λ ws. x.writes ++ ws) (none_doubted xs none) ∙ append-nil x.writes
          ∙ ap (λ (y : Entry). y.writes) same
      | inr j ↦ absurd (both_ways (in_doubt e) (All-contains (λ y. in_doubt y ≡ false) xs e none j) doubt)
    ]
one_first x xs e false is few i doubt rest =
    let split : count_by in_doubt (x ∷ xs) ≡ cond (in_doubt x) 1 0 + count_by in_doubt xs =
    sum_by-cons (λ y. cond (in_doubt y) 1 0) x xs in
    let none : ◌≡◌ {A = ℕ} (cond {A = ℕ} (in_doubt x) 1 0) 0 = ap (λ (b : Bool). cond {A = ℕ} b 1 0) is in
    elim (Contains-cases x xs e i) [
      | inl same ↦ absurd (both_ways (in_doubt e) (ap in_doubt (sym same) ∙ is) doubt)
      | inr j ↦ ap (λ b. cond b (x.writes ++ doubted xs) (doubted xs)) is
          ∙ rest (omega (arith, split, none, few)) j
    ]

one_doubted : (es : List Entry) (e : Entry) → count_by in_doubt es ≤ 1 → Contains es e → in_doubt e ≡ true →
    doubted es ≡ e.writes
one_doubted [] e few i doubt = absurd (Contains-nil e i)
one_doubted (x ∷ xs) e few i doubt =
    one_first x xs e (in_doubt x) refl few i doubt (λ less j. one_doubted xs e less j doubt)

represented : (s : ArrayState) (pages : Pages) → HasOneDoubt s → Represents s pages →
    (there : Bool) × (pages ≡ (settled there s).pages)
represented s pages few (inl same) = (false, same)
represented s pages few (inr (e, i, doubt, took)) =
    (true, took ∙ ap (put s.pages) (sym (one_doubted s.entries e few i (ap is_doubted doubt))))

pub represents_array : RepresentsArray
represents_array protocol logical s image few stands = represented s _ few stands
