-- The zero bits of a byte.
use Rattle.std.proofs.Common.{◌≡◌, ℕ, ◌-◌, ◌<◌, ◌≤◌, arith}
use Rattle.std.proofs.lemmas.Nat.{ones-le, ones_le_self, zero_from_ones}
use Rattle.std.specs.Int.{w8, count_zeros}

pub byte_most : (b : ℕ) → count_zeros w8 b ≤ 8
byte_most b = ones-le 8 (255 - b) (omega arith)

-- a byte with each bit set has none, and no other byte has none
pub none_in_set : count_zeros w8 255 ≡ 0
none_in_set = omega (arith, ones_le_self 0)

pub set_of_none : (b : ℕ) → b < 256 → count_zeros w8 b ≡ 0 → b ≡ 255
set_of_none b h none = omega (arith, zero_from_ones (255 - b) none)
