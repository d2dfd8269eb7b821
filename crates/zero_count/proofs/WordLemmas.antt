-- The zero bits of eight bytes are those of the word that they spell.
use Rattle.std.proofs.Common.{◌≡◌, ℕ, zero, suc, [], ◌+◌, ◌-◌, ◌*◌, ◌/◌, ◌<◌, ◌≤◌, ◌^◌, List, length, get_or, take, drop, count_ones, refl, sym, ap, ◌∙◌, arith}
use Rattle.std.specs.Int.{w8, w64, count_zeros, from_le_bytes}
use Rattle.std.specs.Simd.{first_chunks}
use Rattle.std.proofs.lemmas.List.{get_or-take, get_or-drop, drop-drop}
use Rattle.std.proofs.lemmas.List.Sums.{sum_by_more}
use Rattle.std.proofs.lemmas.Nat.{ones_cat}
use Rattle.list_lemmas.proofs.Bytes.{IsBytes, IsBytes-take, IsBytes-drop}
use Rattle.zero_count.specs.Zeros.{zeros}

-- the lowest digit to the base of 256 is counted apart
joined : (high low : ℕ) → low < 256 → count_ones (high * 256 + low) ≡ count_ones high + count_ones low
joined high low h = ones_cat 8 high low h

-- the bits that are set of eight digits to the base of 256
eight_ones : (a b c d e f g h : ℕ) → a < 256 → b < 256 → c < 256 → d < 256 → e < 256 → f < 256 → g < 256 →
    count_ones (((((((h * 256 + g) * 256 + f) * 256 + e) * 256 + d) * 256 + c) * 256 + b) * 256 + a) ≡
    count_ones h + count_ones g + count_ones f + count_ones e + count_ones d + count_ones c + count_ones b + count_ones a
eight_ones a b c d e f g h la lb lc ld le lf lg =
    omega (
      arith,
      joined h g lg,
      joined (h * 256 + g) f lf,
      joined ((h * 256 + g) * 256 + f) e le,
      joined (((h * 256 + g) * 256 + f) * 256 + e) d ld,
      joined ((((h * 256 + g) * 256 + f) * 256 + e) * 256 + d) c lc,
      joined (((((h * 256 + g) * 256 + f) * 256 + e) * 256 + d) * 256 + c) b lb,
      joined ((((((h * 256 + g) * 256 + f) * 256 + e) * 256 + d) * 256 + c) * 256 + b) a la,
    )

-- each digit of the complement is the complement of one
turned : (a b c d e f g h a' b' c' d' e' f' g' h' : ℕ) → a + a' ≡ 255 → b + b' ≡ 255 → c + c' ≡ 255 → d + d' ≡ 255 →
    e + e' ≡ 255 → f + f' ≡ 255 → g + g' ≡ 255 → h + h' ≡ 255 →
    2 ^ 64 - 1 - (a + b * 256 ^ 1 + c * 256 ^ 2 + d * 256 ^ 3 + e * 256 ^ 4 + f * 256 ^ 5 + g * 256 ^ 6 + h * 256 ^ 7) ≡
    ((((((h' * 256 + g') * 256 + f') * 256 + e') * 256 + d') * 256 + c') * 256 + b') * 256 + a'
turned a b c d e f g h a' b' c' d' e' f' g' h' sa sb sc sd se sf sg sh = omega arith

complement : (b : ℕ) → b < 256 → b + (255 - b) ≡ 255
complement b h = omega arith

-- the zero bits of a word are those of its bytes
pub word_zeros : (bytes : List ℕ) → ((k : ℕ) → get_or bytes k 0 < 256) → count_zeros w64 (from_le_bytes w64 bytes) ≡
    count_zeros w8 (get_or bytes 7 0) + count_zeros w8 (get_or bytes 6 0) + count_zeros w8 (get_or bytes 5 0)
    + count_zeros w8 (get_or bytes 4 0) + count_zeros w8 (get_or bytes 3 0) + count_zeros w8 (get_or bytes 2 0)
    + count_zeros w8 (get_or bytes 1 0) + count_zeros w8 (get_or bytes 0 0)
word_zeros bytes small =
    ap count_ones (turned (get_or bytes 0 0) (get_or bytes 1 0) (get_or bytes 2 0) (get_or bytes 3 0) (get_or bytes 4 0)
    (get_or bytes 5 0) (get_or bytes 6 0) (get_or bytes 7 0)
    (255 - get_or bytes 0 0) (255 - get_or bytes 1 0) (255 - get_or bytes 2 0) (255 - get_or bytes 3 0)
    (255 - get_or bytes 4 0) (255 - get_or bytes 5 0) (255 - get_or bytes 6 0) (255 - get_or bytes 7 0)
    (complement (get_or bytes 0 0) (small 0)) (complement (get_or bytes 1 0) (small 1))
    (complement (get_or bytes 2 0) (small 2)) (complement (get_or bytes 3 0) (small 3))
    (complement (get_or bytes 4 0) (small 4)) (complement (get_or bytes 5 0) (small 5))
    (complement (get_or bytes 6 0) (small 6)) (complement (get_or bytes 7 0) (small 7)))
    ∙ eight_ones (255 - get_or bytes 0 0) (255 - get_or bytes 1 0) (255 - get_or bytes 2 0) (255 - get_or bytes 3 0)
    (255 - get_or bytes 4 0) (255 - get_or bytes 5 0) (255 - get_or bytes 6 0) (255 - get_or bytes 7 0)
    (omega arith) (omega arith) (omega arith) (omega arith) (omega arith) (omega arith) (omega arith)

-- ---- the words of a slot

-- one byte more is counted
byte_more : (bytes : List ℕ) (start k : ℕ) → start + k < length bytes →
    zeros (take (start + suc k) bytes) ≡ zeros (take (start + k) bytes) + count_zeros w8 (get_or bytes (start + k) 0)
byte_more bytes start k h =
    let next : start + suc k ≡ start + k + 1 = omega arith in
    ap (λ n. zeros (take n bytes)) next ∙ sum_by_more (count_zeros w8) bytes (start + k) 0 h

-- the bytes of a word in a slot
byte_of_word : (bytes : List ℕ) (start k : ℕ) → k < 8 → get_or (take 8 (drop start bytes)) k 0 ≡ get_or bytes (start + k) 0
byte_of_word bytes start k h = get_or-take 8 (drop start bytes) k 0 h ∙ get_or-drop start bytes k 0

-- eight bytes more are counted by their word
word_at : (bytes : List ℕ) (start : ℕ) → IsBytes bytes → start + 8 ≤ length bytes →
    zeros (take (start + 8) bytes) ≡ zeros (take start bytes) + count_zeros w64 (from_le_bytes w64 (take 8 (drop start bytes)))
word_at bytes start small h =
    let word = take 8 (drop start bytes) in
    let spelled = word_zeros word ((IsBytes-take 8 (drop start bytes) (IsBytes-drop start bytes small)).at) in
    let same : (k : ℕ) → k < 8 → count_zeros w8 (get_or word k 0) ≡ count_zeros w8 (get_or bytes (start + k) 0) =
    λ k less. ap (count_zeros w8) (byte_of_word bytes start k less) in
    let first : zeros (take (start + 0) bytes) ≡ zeros (take start bytes) = ap (λ n. zeros (take n bytes)) (omega arith) in
    omega (
      arith,
      first,
      spelled,
      same 0 (omega arith),
      same 1 (omega arith),
      same 2 (omega arith),
      same 3 (omega arith),
      same 4 (omega arith),
      same 5 (omega arith),
      same 6 (omega arith),
      same 7 (omega arith),
      byte_more bytes start 0 (omega arith),
      byte_more bytes start 1 (omega arith),
      byte_more bytes start 2 (omega arith),
      byte_more bytes start 3 (omega arith),
      byte_more bytes start 4 (omega arith),
      byte_more bytes start 5 (omega arith),
      byte_more bytes start 6 (omega arith),
      byte_more bytes start 7 (omega arith),
    )

-- where a word lies in a slot
chunk_at : (count i : ℕ) (bytes : List ℕ) → i < count → get_or (first_chunks 8 count bytes) i [] ≡ take 8 (drop (i * 8) bytes)
chunk_at zero i bytes h = absurd (omega arith)
chunk_at (suc count) zero bytes h = refl
chunk_at (suc count) (suc i) bytes h =
    let place : 8 + i * 8 ≡ suc i * 8 = omega arith in
    chunk_at count i (drop 8 bytes) (omega arith)
    ∙ ap (take 8) (drop-drop (i * 8) 8 bytes) ∙ ap (λ n. take 8 (drop n bytes)) place

-- one word more is counted
pub word_more : (bytes : List ℕ) (i : ℕ) → IsBytes bytes → i < length bytes / 8 →
    zeros (take ((i + 1) * 8) bytes) ≡
    zeros (take (i * 8) bytes)
    + count_zeros w64 (from_le_bytes w64 (get_or (first_chunks 8 (length bytes / 8) bytes) i []))
word_more bytes i small h =
    let next : (i + 1) * 8 ≡ i * 8 + 8 = omega arith in
    ap (λ n. zeros (take n bytes)) next ∙ word_at bytes (i * 8) small (omega arith)
    ∙ ap (λ word. zeros (take (i * 8) bytes) + count_zeros w64 (from_le_bytes w64 word))
    (sym (chunk_at (length bytes / 8) i bytes h))
