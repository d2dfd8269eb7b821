-- The zero bits of bytes, slots that hold the number of those of their own bytes, and torn writes.
use Rattle.std.specs.Prelude.{◌≡◌, ◌⊎◌, ℕ, ◌-◌, ◌<◌, ◌≤◌, ◌==◌, Bool, List, ◌++◌, length, take, drop, replicate, slice_index, sum_by}
use Rattle.std.specs.Int.{w8, w32, count_zeros, from_le_bytes, to_le_bytes}

-- the bytes of a number, and the most own bytes, so that the number of their bits is below 2 ^ 31
abbrev pub number_bytes : ℕ
number_bytes = 4

abbrev pub max_own_bytes : ℕ
max_own_bytes = 268435455

-- how many bits of some bytes are zero
abbrev pub zeros : List ℕ → ℕ
zeros bytes = sum_by (count_zeros w8) bytes

-- a slot with these bytes of its own: behind them stands the number of their zero bits
abbrev pub counted : List ℕ → List ℕ
counted own = own ++ to_le_bytes w32 (zeros own)

-- the own bytes of a slot, and the number behind them
abbrev pub own_of : List ℕ → List ℕ
own_of slot = take (length slot - number_bytes) slot

abbrev pub number_of : List ℕ → ℕ
number_of slot = from_le_bytes w32 (drop (length slot - number_bytes) slot)

-- a slot is whole where its number is that of the zero bits of its own bytes
abbrev pub is_whole : List ℕ → Bool
is_whole slot = number_of slot == zeros (own_of slot)

-- a slot of so many bytes that is erased: each bit is set
abbrev pub erased : ℕ → List ℕ
erased n = replicate n 255

-- What a torn write of new bytes over old ones may leave: each byte is the old one or the new one.
pub record IsTorn (old new left : List ℕ) : Type 0 where
  pub old_long : length left ≡ length old
  pub new_long : length left ≡ length new
  pub each : (k : ℕ) → k < length left →
      (slice_index left k ≡ slice_index old k) ⊎ (slice_index left k ≡ slice_index new k)

-- A slot of which some bytes are erased has no more zero bits than it, and no smaller number; and if neither differs,
-- none is.
pub record IsFewer (slot left : List ℕ) : Type 0 where
  pub falls : zeros (own_of left) ≤ zeros (own_of slot)
  pub rises : number_of slot ≤ number_of left
  pub same : zeros (own_of slot) ≤ zeros (own_of left) → number_of left ≤ number_of slot → left ≡ slot
