-- Hexadecimal digits that are read before they are judged.
use Rattle.std.specs.Prelude.{◌≡◌, ◌+◌, ◌*◌, ◌<◌, ℕ, false, List, length, slice_index, Ok}
use Rattle.std.specs.Option.{unwrap_or}
use Rattle.hex.specs.Hex.{hex_digit_value, is_hex_digit, pair_value}

-- the value of a digit, and 16 for any other byte
abbrev pub digit_of : ℕ → ℕ
digit_of c = unwrap_or (hex_digit_value c) 16

-- the byte at this index is that of its two digits
abbrev pub ReadsPair : List ℕ → List ℕ → ℕ → Type 0
ReadsPair text bytes k =
    pair_value (slice_index text (2 * k)) (slice_index text (2 * k + 1)) (2 * k) ≡ Ok (slice_index bytes k)

-- a byte of the text is no digit
abbrev pub HasOther : List ℕ → Type 0
HasOther text = (k : ℕ) × (k < length text) × (is_hex_digit (slice_index text k) ≡ false)
