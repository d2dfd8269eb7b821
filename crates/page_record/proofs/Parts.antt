-- Bytes as parts one after the other.
use Rattle.std.proofs.Common.{◌≡◌, ℕ, ◌+◌, ◌^◌, ◌<◌, ◌≤◌, true, eqb, List, [], ◌∷◌, length, replicate, refl, arith, slice_range}
use Rattle.std.specs.Int.{w32, w64, to_le_bytes}
use Rattle.std.proofs.lemmas.Bool.{and_parts, eqb-true}
use Rattle.std.proofs.lemmas.Nat.{le_bytes_4, le_bytes_8}
use Rattle.list_lemmas.proofs.Bytes.{IsBytes, IsBytes-range}
use Rattle.list_lemmas.proofs.Lists.{length-range}
use Rattle.page_record.specs.Rules.{number_at, are_zeros}

-- bytes that are all 0
pub zeros : (bytes : List ℕ) → are_zeros bytes ≡ true → bytes ≡ replicate (length bytes) 0
zeros [] h = refl
zeros (b ∷ bytes) h =
    let parts = and_parts (eqb b 0) (are_zeros bytes) h in
    let first : b ≡ 0 = eqb-true b 0 parts.0 in
    let rest : bytes ≡ replicate (length bytes) 0 = zeros bytes parts.1 in
    cc

-- the number at an offset, as bytes, is what stands there
pub number_at-w32 : (offset : ℕ) (bytes : List ℕ) → offset + 4 ≤ length bytes → IsBytes bytes →
    to_le_bytes w32 (number_at w32 offset bytes) ≡ slice_range bytes offset (offset + 4)
unfolding number_at
number_at-w32 offset bytes le h = le_bytes_4 (slice_range bytes offset (offset + 4)) _ (length-range offset 4 bytes le)
    (IsBytes-range offset (offset + 4) bytes h).at refl

pub number_at-w64 : (offset : ℕ) (bytes : List ℕ) → offset + 8 ≤ length bytes → IsBytes bytes →
    to_le_bytes w64 (number_at w64 offset bytes) ≡ slice_range bytes offset (offset + 8)
unfolding number_at
number_at-w64 offset bytes le h = le_bytes_8 (slice_range bytes offset (offset + 8)) _ (length-range offset 8 bytes le)
    (IsBytes-range offset (offset + 8) bytes h).at refl

pub number_at-below : (offset : ℕ) (bytes : List ℕ) → IsBytes bytes → number_at w32 offset bytes < 2 ^ 32
unfolding number_at
number_at-below offset bytes h =
    let fits = IsBytes-range offset (offset + 4) bytes h in
    omega (arith, fits.at 0, fits.at 1, fits.at 2, fits.at 3)
