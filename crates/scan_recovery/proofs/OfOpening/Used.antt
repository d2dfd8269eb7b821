-- How many of the first slots are used, by where the last one stands that is not blank.
use Rattle.scan_recovery.proofs.Common.{◌≡◌, ◌≢◌, ℕ, zero, suc, ◌-◌, ◌<◌, ◌≤◌, Bool, true, false, cond, cases_Bool, ◌⊎◌, inl, inr, List, [], ◌∷◌, length, get_or, refl, sym, ap, ◌∙◌, subst, arith, false≢true, Seen, Blank, reads_blank}
use Rattle.std.specs.List.{list_all}
use Rattle.std.proofs.lemmas.List.Folds.{list_all_at}
use Rattle.tx_types.specs.declared.config.BlockState.TheVariants.{Clean, Shut}
use Rattle.die_alloc.specs.declared.block_use.BlockUse.{BlockUse}
use Rattle.die_alloc.specs.Opening.{used_in, use_if}

-- each slot is blank
pub all_blank : (slots : List Seen) → ((k : ℕ) → k < length slots → reads_blank (get_or slots k Blank) ≡ true) →
    list_all reads_blank slots ≡ true
all_blank [] h = refl
all_blank (x ∷ xs) h =
    let first : reads_blank x ≡ true = h 0 (omega arith) in
    let rest : list_all reads_blank xs ≡ true = all_blank xs (λ k within. h (suc k) (omega arith)) in
    cc

-- where all slots are blank, none is used
pub used_blank : (slots : List Seen) → list_all reads_blank slots ≡ true → used_in slots ≡ 0
unfolding used_in
used_blank [] h = refl
used_blank (x ∷ xs) h = ap (λ b. cond b 0 (suc (used_in xs))) h

used_more : (x : Seen) (xs : List Seen) → list_all reads_blank (x ∷ xs) ≡ false → used_in (x ∷ xs) ≡ suc (used_in xs)
unfolding used_in
used_more x xs h = ap (λ b. cond b 0 (suc (used_in xs))) h

-- the slots behind the first n are blank, and the last of these is not
pub count_used_is : (slots : List Seen) (n : ℕ) → n ≤ length slots →
    ((k : ℕ) → n ≤ k → k < length slots → reads_blank (get_or slots k Blank) ≡ true) →
    (n ≡ 0) ⊎ (reads_blank (get_or slots (n - 1) Blank) ≡ false) → used_in slots ≡ n
count_used_is slots zero within behind last = used_blank slots
    (all_blank slots (λ k inside. behind k (omega arith) inside))
count_used_is slots (suc m) within behind (inl none) = absurd (omega arith)
count_used_is [] (suc m) within behind (inr last) = absurd (omega arith)
count_used_is (x ∷ xs) (suc zero) within behind (inr last) =
    used_more x xs (list_all_at reads_blank (x ∷ xs) 0 Blank (omega arith) last)
    ∙ ap (λ n. suc n) (count_used_is xs 0 (omega arith) (λ k low inside. behind (suc k) (omega arith) (omega arith))
    (inl refl))
count_used_is (x ∷ xs) (suc (suc m)) within behind (inr last) =
    let at : suc (suc m) - 1 ≡ suc m = omega arith in
    let here : reads_blank (get_or xs m Blank) ≡ false =
    subst (λ k. reads_blank (get_or (x ∷ xs) k Blank) ≡ false) at last in
    let under : m ≡ suc m - 1 = omega arith in
    used_more x xs (list_all_at reads_blank (x ∷ xs) (suc m) Blank (omega arith) here)
    ∙ ap (λ n. suc n) (count_used_is xs (suc m) (omega arith)
    (λ k low inside. behind (suc k) (omega arith) (omega arith))
    (inr (subst (λ k. reads_blank (get_or xs k Blank) ≡ false) under here)))

-- where a slot is not blank, some are used
pub used_some : (slots : List Seen) → list_all reads_blank slots ≡ false → 1 ≤ used_in slots
used_some [] h = absurd (false≢true (sym h))
used_some (x ∷ xs) h = omega (arith, used_more x xs h)

-- what is kept of a block that is not the spare, by whether all its slots are blank
abbrev use_by : Bool → ℕ → BlockUse
use_by blank used = cond blank (record { state = Clean; used = 0 }) (record { state = Shut; used = used })

-- a block of which no slot is used is clean, and any other one is shut, where it is not the spare
pub use_none : (slots : List Seen) → used_in slots ≡ 0 → use_if false slots ≡ record { state = Clean; used = 0 }
use_none slots none = elim (cases_Bool (list_all reads_blank slots)) [
  | inl blank ↦ ap (λ (b : Bool). use_by b (used_in slots)) blank
  | inr some ↦ absurd (let used = used_some slots some in omega (arith, used, none))
]

pub use_some : (slots : List Seen) (used : ℕ) → used ≡ used_in slots → used ≢ 0 →
    use_if false slots ≡ record { state = Shut; used = used }
use_some slots used is other = elim (cases_Bool (list_all reads_blank slots)) [
  | inl blank ↦ absurd (other (is ∙ used_blank slots blank))
  | inr some ↦ ap (λ (b : Bool). use_by b (used_in slots)) some ∙ ap (λ (n : ℕ). use_by false n) (sym is)
]
