-- The page and the contents that an entry gives.
use Rattle.host_protocol.proofs.Common.{◌≡◌, ℕ, ◌+◌, ◌*◌, ◌/◌, ◌<◌, ◌≤◌, ◌≢◌, true, false, ◌⊎◌, inl, inr, List, [], ◌∷◌, length, take, drop, refl, ap, sym, ◌∙◌, arith, Option, Some, None, Result, Ok, Err, position, slice_split, position_or_len, bytes_eq, eqb-true, passes_at_first, position_some, option_map, LineError, Bad, Memory, number_of, page_value, page_write_of}
use Rattle.std.specs.Prelude.{codes}
use Rattle.std.proofs.lemmas.Bool.{false_from_ne_true, le-leb, lt-leb}
use Rattle.std.proofs.lemmas.Slice.Eq.{bytes_eq-Decides}
use Rattle.hex.proofs.HexLemmas.{decode_of-ok}
use Rattle.hex.specs.Hex.{decode_of, is_hex_digit}
use Rattle.hex.specs.declared.error.FromHexError.{FromHexError}
use Rattle.std.specs.Prelude.{IfOk}
use Rattle.std.specs.Option.{unwrap_or}
use Rattle.std.specs.Result.{result_ok}
use Rattle.host_protocol.specs.Reading.{AnswersAs, AreDigits, Fails}
use Rattle.tx_types.specs.Batch.{padded}
use Rattle.host_protocol.specs.Commands.{page_contents, contents_from, page_write_from, write_of_texts, is_equals}
use Rattle.host_protocol.proofs.PartLemmas.{parts, split_some, split_none}

-- a word without an equals sign has no two parts
pub parts_none : (word : List ℕ) → position is_equals word ≡ None → (x y : List ℕ) →
    slice_split is_equals word ≢ x ∷ y ∷ []
parts_none word h x y two = let one = split_none is_equals word h in absurd (cc)

-- nor has one with two
pub parts_many : (word : List ℕ) (i j : ℕ) → position is_equals word ≡ Some i →
    position is_equals (drop (i + 1) word) ≡ Some j
    → (x y : List ℕ) → slice_split is_equals word ≢ x ∷ y ∷ []
parts_many word i j first second x y two =
    let text = drop (i + 1) word in
    let more = parts is_equals (drop (j + 1) text) in
    let three = rw (split_some is_equals word i first, split_some is_equals text j second, more.all) at two in
    absurd (cc)

-- one equals sign stands between two parts
pub parts_one : (word : List ℕ) (i : ℕ) → position is_equals word ≡ Some i →
    position is_equals (drop (i + 1) word) ≡ None
    → slice_split is_equals word ≡ take i word ∷ drop (i + 1) word ∷ []
parts_one word i first second =
    rw (split_some is_equals word i first, split_none is_equals (drop (i + 1) word) second) refl

-- two parts are the page and its contents
entry_parts : (size : ℕ) (word page text : List ℕ) → slice_split is_equals word ≡ page ∷ text ∷ []
    → page_write_of size word ≡ write_of_texts size page text
unfolding page_write_of
entry_parts size word page text two = ap (page_write_from size) two

from_others : (size : ℕ) (parts : List (List ℕ)) → ((x y : List ℕ) → parts ≢ x ∷ y ∷ []) →
    page_write_from size parts ≡ None
from_others size [] other = refl
from_others size (x ∷ []) other = refl
from_others size (x ∷ y ∷ []) other = absurd (other x y refl)
from_others size (x ∷ y ∷ z ∷ more) other = refl

-- and where there are not two, it is no entry
entry_others : (size : ℕ) (word : List ℕ) → ((x y : List ℕ) → slice_split is_equals word ≢ x ∷ y ∷ [])
    → page_write_of size word ≡ None
unfolding page_write_of
entry_others size word other = from_others size (slice_split is_equals word) other

pub contents_dash : (size : ℕ) (text : List ℕ) → bytes_eq text (codes "-") ≡ true →
    page_contents size text ≡ Some (padded size [])
unfolding page_contents
contents_dash size text h = rw h refl

-- digits for one byte up to a whole page
contents_hex : (size : ℕ) (text bytes : List ℕ) → bytes_eq text (codes "-") ≡ false → decode_of text ≡ Ok bytes
    → page_contents size text ≡ contents_from size bytes
unfolding page_contents
contents_hex size text bytes other h = rw (other, h) refl

within : (size : ℕ) (bytes : List ℕ) → 1 ≤ length bytes → length bytes ≤ size →
    contents_from size bytes ≡ Some (padded size bytes)
within size bytes some most = rw (le-leb 1 (length bytes) some, le-leb (length bytes) size most) refl

outside : (size : ℕ) (bytes : List ℕ) → (length bytes ≡ 0) ⊎ (size < length bytes) → contents_from size bytes ≡ None
outside size bytes (inl none) = rw none refl
outside size bytes (inr more) =
    let some : 1 ≤ length bytes = omega arith in
    rw (le-leb 1 (length bytes) some, lt-leb (length bytes) size more) refl

-- the digits of a page
contents_ok : (size : ℕ) (text bytes : List ℕ) → bytes_eq text (codes "-") ≡ false → decode_of text ≡ Ok bytes
    → length text ≢ 0 → length text / 2 ≤ size → page_contents size text ≡ Some (padded size bytes)
contents_ok size text bytes other h some most =
    let twice : length text ≡ 2 * length bytes = (decode_of-ok text bytes h).2 in
    contents_hex size text bytes other h ∙ within size bytes (omega arith) (omega arith)

contents_length : (size : ℕ) (text bytes : List ℕ) → decode_of text ≡ Ok bytes → length text / 2 ≤ size →
    length bytes ≤ size
contents_length size text bytes h most =
    let twice : length text ≡ 2 * length bytes = (decode_of-ok text bytes h).2 in omega arith

-- what is no digits
contents_err : (size : ℕ) (text : List ℕ) (e : FromHexError) → bytes_eq text (codes "-") ≡ false →
    decode_of text ≡ Err e → page_contents size text ≡ None
unfolding page_contents
contents_err size text e other h = rw (other, h) refl

by_decoding : (size : ℕ) (text : List ℕ) → bytes_eq text (codes "-") ≡ false → (length text ≡ 0)
    ⊎ (size < length text / 2)
    → (r : Result (List ℕ) FromHexError) → decode_of text ≡ r → page_contents size text ≡ None
by_decoding size text other out (Ok bytes) h =
    let twice : length text ≡ 2 * length bytes = (decode_of-ok text bytes h).2 in
    contents_hex size text bytes other h ∙ outside size bytes
    (elim out [ inl none ↦ inl (omega arith) | inr more ↦ inr (omega arith) ])
by_decoding size text other out (Err e) h = contents_err size text e other h

-- no digits, or too many
pub contents_out : (size : ℕ) (text : List ℕ) → bytes_eq text (codes "-") ≡ false → (length text ≡ 0)
    ⊎ (size < length text / 2) →
    page_contents size text ≡ None
contents_out size text other out = by_decoding size text other out (decode_of text) refl

is_decoded : (d : Result (List ℕ) FromHexError) (bytes : List ℕ) → result_ok d ≡ Some bytes → d ≡ Ok bytes
is_decoded (Ok x) bytes h = ap (λ o. Ok (unwrap_or o x)) h
is_decoded (Err e) bytes h = absurd (cc)

not_decoded : (size : ℕ) (text : List ℕ) → bytes_eq text (codes "-") ≡ false → result_ok (decode_of text) ≡ None →
    page_contents size text ≡ None
unfolding page_contents
not_decoded size text other h = rw (other, h) refl

-- what the digits tell is the contents of the page
pub contents_as : {X : Type 0} (view : X → List ℕ) (size : ℕ) (text : List ℕ) (r : Result X LineError)
    → bytes_eq text (codes "-") ≡ false → length text ≢ 0 → length text / 2 ≤ size
    → AnswersAs view r (result_ok (decode_of text)) → AnswersAs (λ x. padded size (view x)) r (page_contents size text)
contents_as view size text (Ok x) other some most h = contents_ok size text (view x) other
    (is_decoded (decode_of text) (view x) h) some most
contents_as view size text (Err Bad) other some most h = not_decoded size text other h
contents_as view size text (Err Memory) other some most h = tt

pub contents_within : {X : Type 0} (view : X → List ℕ) (size : ℕ) (text : List ℕ) (r : Result X LineError) →
    length text / 2 ≤ size
    → AnswersAs view r (result_ok (decode_of text)) → IfOk r (λ x. length (view x) ≤ size)
contents_within view size text (Ok x) most h = contents_length size text (view x)
    (is_decoded (decode_of text) (view x) h) most
contents_within view size text (Err e) most h = tt

-- a tilde discards, and any other text is its contents
pub value_tilde : (size : ℕ) (text : List ℕ) → bytes_eq text (codes "~") ≡ true → page_value size text ≡ Some None
unfolding page_value
value_tilde size text h = rw h refl

pub value_contents : (size : ℕ) (text : List ℕ) → bytes_eq text (codes "~") ≡ false →
    page_value size text ≡ option_map Some (page_contents size text)
unfolding page_value
value_contents size text h = rw h refl

long_other : (text one : List ℕ) → length text ≢ length one → bytes_eq text one ≡ false
long_other text one longer =
    false_from_ne_true (bytes_eq text one) (λ same. longer (ap length ((bytes_eq-Decides text one).0 same)))

-- the value of the digits of some bytes of a page, and how many bytes these are
pub digits_value : (size : ℕ) (text bytes : List ℕ) → AreDigits size text bytes →
    page_value size text ≡ Some (Some (padded size bytes))
digits_value size text bytes are =
    let some = are.some in
    let most = are.most in
    let twice : length text ≡ 2 * length bytes = (decode_of-ok text bytes are.digits).2 in
    value_contents size text (long_other text (codes "~") (λ same. absurd (omega (arith, same))))
    ∙ ap (option_map Some) (contents_ok size text bytes
    (long_other text (codes "-") (λ same. absurd (omega (arith, same)))) are.digits
    (λ none. absurd (omega (arith, none))) (omega arith))

pub digits_within : (size : ℕ) (text bytes : List ℕ) → AreDigits size text bytes → length bytes ≤ size
digits_within size text bytes are =
    let most = are.most in contents_length size text bytes are.digits (omega arith)

-- what is no contents is no value
pub value_fails : (size : ℕ) (text : List ℕ) (e : LineError) → bytes_eq text (codes "~") ≡ false →
    Fails e (page_contents size text) →
    Fails e (page_value size text)
value_fails size text Bad other none = value_contents size text other ∙ ap (option_map Some) none
value_fails size text Memory other none = tt

-- a text that is one byte, no equals sign, has none
no_sign : (text one : List ℕ) (i : ℕ) → position is_equals one ≡ None → position is_equals text ≡ Some i →
    bytes_eq text one ≡ false
no_sign text one i none some =
    let other : bytes_eq text one ≢ true = λ same. (let is = (bytes_eq-Decides text one).0 same in
    let h = ap (position is_equals) is in absurd (cc)) in
    false_from_ne_true (bytes_eq text one) other

not_digits : (text : List ℕ) (i : ℕ) → position is_equals text ≡ Some i → (d : Result (List ℕ) FromHexError) →
    decode_of text ≡ d → result_ok d ≡ None
not_digits text i h (Err e) is = refl
not_digits text i h (Ok bytes) is =
    let at = position_some is_equals text i h in
    let inside : position_or_len is_equals text < length text = omega (arith, at.0, at.1) in
    let sign = eqb-true _ 61 (passes_at_first is_equals text 0 inside) in
    let digit = (decode_of-ok text bytes is).1 (position_or_len is_equals text) 0 inside in
    absurd (let digit' : is_hex_digit 61 ≡ true = rw sign at digit in cc)

-- a text with an equals sign is no value
value_none : (size : ℕ) (text : List ℕ) (i : ℕ) → position is_equals text ≡ Some i → page_value size text ≡ None
value_none size text i h =
    value_contents size text (no_sign text (codes "~") i refl h)
    ∙ ap (option_map Some) (not_decoded size text (no_sign text (codes "-") i refl h)
    (not_digits text i h (decode_of text) refl))

write_none : (size : ℕ) (page text : List ℕ) (o : Option ℕ) → number_of page ≡ o → page_value size text ≡ None →
    write_of_texts size page text ≡ None
write_none size page text None is none = rw is refl
write_none size page text (Some p) is none = rw (is, none) refl

by_rest : (size : ℕ) (word : List ℕ) (i : ℕ) → position is_equals word ≡ Some i → (o : Option ℕ) →
    position is_equals (drop (i + 1) word) ≡ o
    → page_write_of size word ≡ write_of_texts size (take i word) (drop (i + 1) word)
by_rest size word i first None h = entry_parts size word (take i word) (drop (i + 1) word) (parts_one word i first h)
by_rest size word i first (Some j) h =
    entry_others size word (parts_many word i j first h)
    ∙ sym (write_none size (take i word) (drop (i + 1) word) (number_of (take i word)) refl
    (value_none size (drop (i + 1) word) j h))

-- an entry by the texts before and behind its first equals sign
pub entry_around : (size : ℕ) (word : List ℕ) (i : ℕ) → position is_equals word ≡ Some i
    → page_write_of size word ≡ write_of_texts size (take i word) (drop (i + 1) word)
entry_around size word i first = by_rest size word i first (position is_equals (drop (i + 1) word)) refl

-- a word without one is no entry
pub entry_none : (size : ℕ) (word : List ℕ) → position is_equals word ≡ None → page_write_of size word ≡ None
entry_none size word none = entry_others size word (parts_none word none)
