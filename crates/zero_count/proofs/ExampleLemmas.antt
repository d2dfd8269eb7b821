-- The worked slots.
use Rattle.std.proofs.Common.{◌≡◌, ◌⊎◌, ℕ, zero, suc, true, false, [], ◌∷◌, replicate, refl, inl, inr}
use Rattle.std.specs.Prelude.{slice_index}
use lib.Count.{ones, ones_in}
use Rattle.zero_count.specs.Zeros.{counted, is_whole, erased, IsTorn}
use Rattle.zero_count.specs.Examples.{slot, number_first, number_torn, all_set, zeros_torn}

pub example_counted : counted (15 ∷ 255 ∷ []) ≡ slot
unfolding ones ones_in
example_counted = refl

pub example_whole : is_whole slot ≡ true
unfolding ones ones_in
example_whole = refl

pub example_first : is_whole number_first ≡ false
unfolding ones ones_in
example_first = refl

pub example_torn : is_whole number_torn ≡ false
unfolding ones ones_in
example_torn = refl

pub example_erased : is_whole (erased 6) ≡ false
unfolding ones ones_in
example_erased = refl

pub example_set : is_whole all_set ≡ true
unfolding ones ones_in
example_set = refl

-- the first two bytes are erased, and the number is there
trap_each : (k : ℕ) → (slice_index zeros_torn k ≡ slice_index (erased 6) k)
    ⊎ (slice_index zeros_torn k ≡ slice_index (replicate 6 0) k)
trap_each zero = inl refl
trap_each (suc zero) = inl refl
trap_each (suc (suc zero)) = inr refl
trap_each (suc (suc (suc zero))) = inr refl
trap_each (suc (suc (suc (suc zero)))) = inr refl
trap_each (suc (suc (suc (suc (suc zero))))) = inr refl
trap_each (suc (suc (suc (suc (suc (suc k)))))) = inr refl

pub example_trap : IsTorn (erased 6) (replicate 6 0) zeros_torn
example_trap = record { old_long = refl; new_long = refl; each = λ k h. trap_each k }

pub example_trapped : is_whole zeros_torn ≡ true
unfolding ones ones_in
example_trapped = refl
