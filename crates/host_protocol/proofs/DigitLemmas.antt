-- Digits that are read before they are judged.
use Rattle.std.proofs.Common.{◌≡◌, ◌⊎◌, ℕ, zero, suc, ◌+◌, ◌*◌, ◌<◌, ◌≤◌, false, List, length, take, drop, slice_index, Option, Some, None, Result, Ok, Err, refl, sym, ap, ◌∙◌, inl, inr, arith, unwrap_or, max, subst, slice_set, get_or-set_same, get_or-set_other}
use Rattle.std.proofs.lemmas.Bool.{cases_lt}
use Rattle.std.proofs.lemmas.List.{set-get_or}
use Rattle.std.specs.Prelude.{IsErr, is_some}
use Rattle.hex.specs.Hex.{decode_pairs, hex_digit_value, digit_or_error, pair_value}
use Rattle.hex.specs.declared.error.FromHexError.{FromHexError}
use Rattle.hex.proofs.HexLemmas.{decode_pairs-ok}
use Rattle.hex.proofs.Pairs.{prepend, decode_start, decode_step, decode_done}
use Rattle.host_protocol.specs.Digits.{digit_of, ReadsPair, HasOther}

-- what a digit gives, or 16
digit_read : (o : Option ℕ) (c i n : ℕ) → n ≡ unwrap_or o 16 → n < 16 → digit_or_error c i o ≡ Ok n
digit_read (Some v) c i n is small = ap Ok (sym is)
digit_read None c i n is small = absurd (omega (arith, is, small))

no_digit : (o : Option ℕ) (n : ℕ) → ((v : ℕ) → o ≡ Some v → v < 16) → n ≡ unwrap_or o 16 → 16 ≤ n → is_some o ≡ false
no_digit (Some v) n small is large = (let most = small v refl in absurd (omega (arith, is, most, large)))
no_digit None n small is large = refl

pub pair_read : (a b i m n : ℕ) → m ≡ digit_of a → n ≡ digit_of b → m < 16 → n < 16
    → pair_value a b i ≡ Ok (m * 16 + n)
pair_read a b i m n is_m is_n small_m small_n =
    rw (digit_read (hex_digit_value a) a i m is_m small_m, digit_read (hex_digit_value b) b (i + 1) n is_n small_n) refl

digit_small : (c v : ℕ) → hex_digit_value c ≡ Some v → v < 16
digit_small c v h = grind (arith)

-- a text of which a byte is no digit does not decode
pub undecoded : (text : List ℕ) (r : Result (List ℕ) FromHexError) → HasOther text → decode_pairs 0 text ≡ r → IsErr r
undecoded text (Ok bytes) other h = (let all = (decode_pairs-ok 0 text bytes h).0 other.0 0 other.1 in absurd (cc))
undecoded text (Err e) other h = refl

-- this byte is no digit
pub other_at : (text : List ℕ) (k n : ℕ) → k < length text → n ≡ digit_of (slice_index text k) → 16 ≤ n → HasOther text
other_at text k n within is large = (
  k,
  within,
  no_digit (hex_digit_value (slice_index text k)) n
      (digit_small (slice_index text k)) is large,
)

greatest_of : (before high low first second : ℕ) → first ≡ max before high → second ≡ max first low → 16 ≤ second →
    (16 ≤ before) ⊎ ((16 ≤ high) ⊎ (16 ≤ low))
greatest_of before high low first second is_first is_second large = elim (cases_lt before 16) [
  | inl small ↦ elim (cases_lt high 16) [
    | inl few ↦ inr (inr (grind (arith, is_first, is_second, large, small, few)))
    | inr many ↦ inr (inl many)
  ]
  | inr great ↦ inl great
]

-- a pair more is read
pub others_more : (text : List ℕ) (k before high low first second : ℕ) → k + 1 < length text → first ≡ max before high →
    second ≡ max first low → 16 ≤ second → (16 ≤ before → HasOther text) →
    high ≡ digit_of (slice_index text k) → low ≡ digit_of (slice_index text (k + 1)) → HasOther text
others_more text k before high low first second within is_first is_second large old is_high is_low =
    elim (greatest_of before high low first second is_first is_second large) [
      | inl great ↦ old great
      | inr (inl great) ↦ other_at text k high (omega (arith, within)) is_high great
      | inr (inr great) ↦ other_at text (k + 1) low within is_low great
    ]

-- the bytes of the first pairs are read
decoded_upto : (text bytes : List ℕ) (n : ℕ) → 2 * n ≤ length text → n ≤ length bytes →
    ((k : ℕ) → k < n → ReadsPair text bytes k)
    → decode_pairs 0 text ≡ prepend (take n bytes) (decode_pairs (2 * n) (drop (2 * n) text))
decoded_upto text bytes zero room within read = decode_start text bytes
decoded_upto text bytes (suc n) room within read =
    decode_step text bytes n (slice_index bytes n) (omega arith) (omega arith) (read n (omega arith))
    (decoded_upto text bytes n (omega arith) (omega arith) (λ k less. read k (omega arith)))
    ∙ ap (λ l. prepend (take (n + 1) l) (decode_pairs (2 * (n + 1)) (drop (2 * (n + 1)) text)))
    (set-get_or bytes n 0)
    ∙ ap (λ m. prepend (take m bytes) (decode_pairs (2 * m) (drop (2 * m) text))) (omega arith)

-- the bytes of all pairs are read
pub decoded : (text bytes : List ℕ) → length text ≡ 2 * length bytes →
    ((k : ℕ) → k < length bytes → ReadsPair text bytes k) → decode_pairs 0 text ≡ Ok bytes
decoded text bytes long read =
    decode_done text bytes (length bytes) (omega arith) (omega arith)
    (decoded_upto text bytes (length bytes) (omega arith) (omega arith) read)

-- a pair more is read, and its byte is written
pub pair_more : (text bytes : List ℕ) (i high low byte : ℕ) → i < length bytes → byte ≡ high * 16 + low
    → high ≡ digit_of (slice_index text (2 * i)) → low ≡ digit_of (slice_index text (2 * i + 1)) → high < 16 → low < 16
    → ((k : ℕ) → k < i → ReadsPair text bytes k)
    → (k : ℕ) → k < i + 1 → ReadsPair text (slice_set bytes i byte) k
pair_more text bytes i high low byte within is is_high is_low few less before k upto = elim (cases_lt k i) [
  | inl early ↦
      before k early ∙ ap Ok (sym (get_or-set_other bytes i k byte 0 (λ same. omega (arith, same, early))))
  | inr late ↦ subst (ReadsPair text (slice_set bytes i byte)) (omega arith)
      (pair_read (slice_index text (2 * i)) (slice_index text (2 * i + 1)) (2 * i) high low is_high is_low few less
      ∙ ap Ok (sym (get_or-set_same bytes i byte 0 within ∙ is)))
]
