-- Counting the records up to one slot of an ascending list.
use Rattle.scan_recovery.proofs.Common.{◌≡◌, ℕ, zero, suc, ◌+◌, ◌<◌, ◌≤◌, Bool, false, ◌&&◌, cond, List, [], ◌∷◌, length, get_or, take, count_by, AllPairs, Some, sym, ap, ap₂, ◌∙◌, arith, Contains, Contains-get_or, all_from, pairs_head, pairs_tail, Found, nothing, is_compared, compared_to}
use Rattle.std.specs.Prelude.{nat_le}
use Rattle.std.proofs.lemmas.Bool.{le-leb, lt-leb}
use Rattle.std.proofs.lemmas.List.Sums.{sum_by-cons}
use Rattle.list_lemmas.proofs.Tests.{none_counted}
use Rattle.scan_recovery.specs.Twins.{compared_upto}

counted : (p : Found → Bool) (x : Found) (xs : List Found) → count_by p (x ∷ xs) ≡ cond (p x) 1 0 + count_by p xs
counted p x xs = sum_by-cons (λ f. cond (p f) 1 0) x xs

count_none : (p : Found → Bool) (xs : List Found) → ((f : Found) → Contains xs f → p f ≡ false) → count_by p xs ≡ 0
count_none p xs h = none_counted p xs (all_from (λ f. p f ≡ false) xs h)

-- the records up to this slot
abbrev upto : ℕ → (Found → Bool) → Found → Bool
upto top p f = nat_le f.slot.0 top && p f

passes : (top : ℕ) (p : Found → Bool) (f : Found) → f.slot.0 ≤ top → upto top p f ≡ p f
passes top p f low = ap (λ b. b && p f) (le-leb f.slot.0 top low)

fails : (top : ℕ) (p : Found → Bool) (f : Found) → top < f.slot.0 → upto top p f ≡ false
fails top p f high = ap (λ b. b && p f) (lt-leb f.slot.0 top high)

count_upto : (p : Found → Bool) (xs : List Found) (at : ℕ) → AllPairs (λ f g. f.slot.0 < g.slot.0) xs → at < length xs →
    count_by (upto (get_or xs at nothing).slot.0 p) xs ≡ count_by p (take (suc at) xs)
count_upto p [] at up within = absurd (omega arith)
count_upto p (x ∷ xs) zero up within =
    let top = x.slot.0 in
    counted (upto top p) x xs
    ∙ ap₂ (λ (b : Bool) (n : ℕ). cond b 1 0 + n) (passes top p x (omega arith))
    (count_none (upto top p) xs (λ f i. fails top p f (pairs_head (λ f g. f.slot.0 < g.slot.0) x xs f up i)))
    ∙ sym (counted p x [])
count_upto p (x ∷ xs) (suc at) up within =
    let top = (get_or xs at nothing).slot.0 in
    let low : x.slot.0 < top = pairs_head (λ f g. f.slot.0 < g.slot.0) x xs (get_or xs at nothing) up
    (Contains-get_or xs at nothing (omega arith)) in
    counted (upto top p) x xs
    ∙ ap₂ (λ (b : Bool) (n : ℕ). cond b 1 0 + n) (passes top p x (omega arith))
    (count_upto p xs at (pairs_tail (λ f g. f.slot.0 < g.slot.0) x xs up) (omega arith))
    ∙ sym (counted p x (take (suc at) xs))

-- the compared records up to one of them are those that were looked at until then
pub compared_until : (list : List Found) (at : ℕ) → AllPairs (λ f g. f.slot.0 < g.slot.0) list → at < length list →
    compared_to list (Some at) ≡ compared_upto list (get_or list at nothing).slot.0
unfolding compared_upto
compared_until list at up within =
    let next : at + 1 ≡ suc at = omega arith in
    ap (λ n. count_by (is_compared list) (take n list)) next ∙ sym (count_upto (is_compared list) list at up within)
