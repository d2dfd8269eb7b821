-- Bytes that are all zero.
use Rattle.page_keys.proofs.Common.{◌≡◌, ℕ, zero, suc, Bool, true, List, [], ◌∷◌, length, replicate, IsTrue, ◌==◌, refl, sym, ap, ◌∙◌, arith, list_all, nat_tests}
use Rattle.std.proofs.Common.{◌↔◌}
use Rattle.page_keys.proofs.OfBucket.EntryLists.{first_of, second_of}

abbrev pub is_zero : ℕ → Bool
is_zero b = b == 0

zeros_from : (bytes : List ℕ) → list_all is_zero bytes ≡ true → bytes ≡ replicate (length bytes) 0
zeros_from [] all = refl
zeros_from (b ∷ bs) all =
    let zero_here : b ≡ 0 = grind (arith, nat_tests, first_of (is_zero b) (list_all is_zero bs) all) in
    λ i. zero_here i ∷ zeros_from bs (second_of (is_zero b) (list_all is_zero bs) all) i

zeros_pass : (n : ℕ) → list_all is_zero (replicate n 0) ≡ true
zeros_pass zero = refl
zeros_pass (suc n) = zeros_pass n

pub all_zeros : (bytes : List ℕ) (r : Bool) → r ≡ list_all is_zero bytes →
    IsTrue r ↔ (bytes ≡ replicate (length bytes) 0)
all_zeros bytes r is = (
  λ h. zeros_from bytes (sym is ∙ h),
  λ h. is ∙ ap (list_all is_zero) h ∙ zeros_pass (length bytes),
)
