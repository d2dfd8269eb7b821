-- The numbers among the words of a call.
use Rattle.std.specs.Prelude.{ℕ, nat_le, Bool, ◌&&◌, List, length, Option, Some, None, if◌then◌else◌}
use Rattle.std.specs.List.{list_all}
use Rattle.std.specs.Option.{option_and_then}
use Rattle.host_protocol.specs.Numbers.{is_digit, value_of, number_of}

-- one to twenty decimal digits, for a number of 64 bits
abbrev pub is_wide_number : List ℕ → Bool
is_wide_number word =
    nat_le 1 (length word) && nat_le (length word) 20 && list_all is_digit word
    && nat_le (value_of word) 18446744073709551615

-- the number that a word is, from which a list of commands is drawn
unfoldable pub wide_number_of : List ℕ → Option ℕ
wide_number_of word = if is_wide_number word then Some (value_of word) else None

-- a number that is at most the number of transactions that may be drawn
abbrev pub drawable : ℕ → Option ℕ
drawable n = if nat_le n 100000 then Some n else None

-- the number of transactions that a word is
abbrev pub transaction_count_of : List ℕ → Option ℕ
transaction_count_of word = option_and_then drawable (number_of word)
