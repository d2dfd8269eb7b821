-- The numbers of a command line.
use Rattle.std.specs.Prelude.{ℕ, ◌+◌, ◌-◌, ◌*◌, nat_le, Bool, ◌&&◌, List, length, fold, Option, Some, None, if◌then◌else◌}
use Rattle.std.specs.List.{list_all, prefix_len}
use Rattle.std.specs.Option.{option_and_then}
use Rattle.tx_types.specs.Limits.{max_u32}

abbrev pub is_digit : ℕ → Bool
is_digit b = nat_le 48 b && nat_le b 57

-- what decimal digits stand for
abbrev pub value_of : List ℕ → ℕ
value_of digits = fold (λ n digit. n * 10 + (digit - 48)) 0 digits

-- how many decimal digits a text begins with
abbrev pub digits_in : List ℕ → ℕ
digits_in text = prefix_len is_digit text

-- one to ten decimal digits, for a number of 32 bits
abbrev pub is_number : List ℕ → Bool
is_number word =
    nat_le 1 (length word) && nat_le (length word) 10 && list_all is_digit word
    && nat_le (value_of word) max_u32

-- the number that a word is, a page or a tag
unfoldable pub number_of : List ℕ → Option ℕ
number_of word = if is_number word then Some (value_of word) else None

-- a number that is not 0
abbrev pub positive : ℕ → Option ℕ
positive n = if nat_le 1 n then Some n else None

-- the count that a word is, at least 1
abbrev pub count_of : List ℕ → Option ℕ
count_of word = option_and_then positive (number_of word)
