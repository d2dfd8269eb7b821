-- The number that the digits at the beginning of a text are.
use Rattle.host_protocol.proofs.Common.{◌≡◌, ℕ, ◌<◌, ◌≤◌, Bool, true, false, ◌⊎◌, inl, inr, List, length, take, refl, ap, sym, ◌∙◌, arith, Some, None, cases_lt, get_or-take, prefix_len-le-length, number_of, is_digit, digits_in}
use Rattle.std.proofs.Common.{◌&&◌, min}
use Rattle.std.proofs.Common.{take_all, length-take, if◌then◌else◌}
use Rattle.std.specs.Prelude.{nat_le}
use Rattle.std.specs.List.{list_all}
use Rattle.tx_types.specs.Limits.{max_u32}
use Rattle.std.proofs.lemmas.Bool.{le-leb, lt-leb}
use Rattle.std.proofs.lemmas.List.Folds.{list_all_at}
use Rattle.std.proofs.lemmas.List.Sums.{list_all-from_AllPass, prefix_len_passes, prefix_len_stops}
use Rattle.host_protocol.specs.Numbers.{value_of}

-- the digits that a text begins with
digits_pass : (text : List ℕ) → list_all is_digit (take (digits_in text) text) ≡ true
digits_pass text =
    let size = length-take (digits_in text) text in
    list_all-from_AllPass is_digit (take (digits_in text) text) (λ k d inside.
    let before : k < digits_in text = omega (arith, inside, size) in
    ap is_digit (get_or-take (digits_in text) text k d before) ∙ prefix_len_passes is_digit text k d before)

digits_long : (text : List ℕ) → length (take (digits_in text) text) ≡ digits_in text
digits_long text = omega (arith, length-take (digits_in text) text, prefix_len-le-length is_digit text)

-- too many digits are no number, nor is none
outside : (word : List ℕ) → (length word ≡ 0) ⊎ (10 < length word) → number_of word ≡ None
unfolding number_of
outside word (inl none) = rw none refl
outside word (inr more) =
    let some : 1 ≤ length word = omega arith in
    rw (le-leb 1 (length word) some, lt-leb (length word) 10 more) refl

pub leading_outside : (text : List ℕ) (count : ℕ) → count ≡ min 11 (digits_in text) → (count ≡ 0) ⊎ (10 < count) →
    number_of (take (digits_in text) text) ≡ None
leading_outside text count is out =
    let size = digits_long text in
    outside (take (digits_in text) text) (elim out [ inl none ↦ inl (omega arith) | inr more ↦ inr (omega arith) ])

pub leading_large : (text : List ℕ) (count : ℕ) → count ≡ min 11 (digits_in text) → 1 ≤ count → count ≤ 10 →
    4294967295 < value_of (take count text) →
    number_of (take (digits_in text) text) ≡ None
unfolding number_of
leading_large text count is some few large =
    let same : count ≡ digits_in text = omega arith in
    let size = digits_long text in
    let large' = rw same at large in
    rw (
      le-leb 1 (length (take (digits_in text) text)) (omega (arith, size)),
      le-leb (length (take (digits_in text) text)) 10 (omega (arith, size)),
      digits_pass text,
      lt-leb (value_of (take (digits_in text) text)) 4294967295 large',
    ) refl

pub leading_some : (text : List ℕ) (count : ℕ) → count ≡ min 11 (digits_in text) → 1 ≤ count → count ≤ 10 →
    value_of (take count text) ≤ 4294967295 →
    number_of (take (digits_in text) text) ≡ Some (value_of (take count text))
unfolding number_of
leading_some text count is some few fits =
    let same : count ≡ digits_in text = omega arith in
    let size = digits_long text in
    let fits' = rw same at fits in
    rw (
      same,
      le-leb 1 (length (take (digits_in text) text)) (omega (arith, size)),
      le-leb (length (take (digits_in text) text)) 10 (omega (arith, size)),
      digits_pass text,
      le-leb (value_of (take (digits_in text) text)) 4294967295 fits',
    ) refl

other_byte : (some few all fits : Bool) (n : ℕ) → all ≡ false →
    (if some && few && all && fits then Some n else None) ≡ None
other_byte true true false fits n is = refl
other_byte true false false fits n is = refl
other_byte false true false fits n is = refl
other_byte false false false fits n is = refl
other_byte some few true fits n is = absurd (cc)

-- a number is all digits
by_all : (word : List ℕ) (n : ℕ) (all : Bool) → list_all is_digit word ≡ all → number_of word ≡ Some n → all ≡ true
unfolding number_of
by_all word n true is some = refl
by_all word n false is some =
    let none = other_byte (nat_le 1 (length word)) (nat_le (length word) 10) (list_all is_digit word)
    (nat_le (value_of word) max_u32) (value_of word) is in
    absurd (cc)

pub number_digits : (word : List ℕ) (n : ℕ) → number_of word ≡ Some n → list_all is_digit word ≡ true
number_digits word n some = by_all word n (list_all is_digit word) refl some

-- where another byte follows the digits, the word is no number
pub number_other : (word : List ℕ) → digits_in word < length word → number_of word ≡ None
unfolding number_of
number_other word less =
    other_byte (nat_le 1 (length word)) (nat_le (length word) 10) (list_all is_digit word)
    (nat_le (value_of word) max_u32) (value_of word)
    (list_all_at is_digit word (digits_in word) 0 less (prefix_len_stops is_digit word 0 less))

pub number_whole : (word : List ℕ) → length word ≤ digits_in word →
    number_of (take (digits_in word) word) ≡ number_of word
number_whole word all = ap number_of (take_all (digits_in word) word all)

pub number_none : (word : List ℕ) → number_of (take (digits_in word) word) ≡ None → number_of word ≡ None
number_none word none = elim (cases_lt (digits_in word) (length word)) [
  | inl less ↦ number_other word less
  | inr all ↦ sym (number_whole word all) ∙ none
]
