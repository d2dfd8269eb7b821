-- The greatest number of the records, taken in by a loop one record at a time.
use Rattle.record_list.proofs.Common.{◌≡◌, ℕ, ◌+◌, ◌<◌, List, length, take, get_or, refl, ap, ◌∙◌, Rec, Found, greatest, nothing}
use Rattle.std.proofs.Common.{max}
use Rattle.std.proofs.lemmas.Grind.{take_at_read}
use Rattle.std.proofs.lemmas.List.Recursion.{max_push}

-- one record more
pub greatest_step : (of : Rec → ℕ) (xs : List Found) (i : ℕ) → i < length xs →
    greatest of (take (i + 1) xs) ≡ max (greatest of (take i xs)) (of (get_or xs i nothing).rec)
greatest_step of xs i h = ap (greatest of) (take_at_read xs i nothing h).1
    ∙ max_push (greatest of) (λ f. of f.rec) refl (λ _ _. refl) (take i xs) (get_or xs i nothing)
