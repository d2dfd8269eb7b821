-- A slot with its number.
use Rattle.std.proofs.Common.{◌≡◌, ℕ, zero, suc, ◌+◌, ◌-◌, ◌*◌, ◌<◌, ◌≤◌, ◌^◌, true, List, length, get_or, take, drop, replicate, refl, sym, ap, subst, ◌∙◌, inl, inr, arith}
use Rattle.std.specs.Int.{w8, w32, count_zeros, from_le_bytes, to_le_bytes}
use Rattle.std.proofs.lemmas.Bool.{cases_lt, eq-eqb, eqb-true}
use Rattle.std.proofs.Math.Seq.{take-append_seam, drop-append_seam}
use Rattle.std.proofs.lemmas.List.{length-append, length-replicate, take-replicate, drop-replicate, get_or_append_left, get_or-append_right}
use Rattle.std.proofs.lemmas.List.Folds.{sum_by-replicate}
use Rattle.std.proofs.lemmas.List.Sums.{sum_by-le}
use Rattle.std.proofs.lemmas.Nat.{from_le_bytes-to_le_bytes_4}
use Rattle.list_lemmas.proofs.Bytes.{IsBytes}
use Rattle.zero_count.specs.Zeros.{zeros, counted, own_of, number_of, is_whole, erased, IsTorn, max_own_bytes}
use Rattle.zero_count.proofs.ByteLemmas.{byte_most, none_in_set}
use Rattle.zero_count.proofs.TornLemmas.{fewer, torn_over}

pub zeros_most : (bytes : List ℕ) → zeros bytes ≤ length bytes * 8
zeros_most bytes = sum_by-le (count_zeros w8) 8 bytes (λ k d h. byte_most (get_or bytes k d))

pub zeros_fit : (own : List ℕ) → length own ≤ max_own_bytes → zeros own < 2 ^ 31
zeros_fit own few = omega (arith, zeros_most own)

-- ---- a slot that is made of its own bytes

four_more : (own : List ℕ) → length (counted own) - 4 ≡ length own
four_more own = omega (arith, length-append own (to_le_bytes w32 (zeros own)))

pub own_again : (own : List ℕ) → own_of (counted own) ≡ own
own_again own = ap (λ n. take n (counted own)) (four_more own) ∙ take-append_seam own (to_le_bytes w32 (zeros own))

pub number_again : (own : List ℕ) → length own ≤ max_own_bytes → number_of (counted own) ≡ zeros own
number_again own few =
    ap (λ n. from_le_bytes w32 (drop n (counted own))) (four_more own)
    ∙ ap (from_le_bytes w32) (drop-append_seam own (to_le_bytes w32 (zeros own)))
    ∙ from_le_bytes-to_le_bytes_4 (zeros own) (omega (arith, zeros_fit own few))

pub counted_whole : (own : List ℕ) → length own ≤ max_own_bytes → is_whole (counted own) ≡ true
counted_whole own few =
    eq-eqb (number_of (counted own)) (zeros (own_of (counted own)))
    (number_again own few ∙ sym (ap zeros (own_again own)))

pub length_counted : (own : List ℕ) → length (counted own) ≡ length own + 4
length_counted own = omega (arith, length-append own (to_le_bytes w32 (zeros own)))

-- each byte of a number is one
number_byte : (n k : ℕ) → get_or (to_le_bytes w32 n) k 0 < 256
number_byte n zero = omega arith
number_byte n (suc zero) = omega arith
number_byte n (suc (suc zero)) = omega arith
number_byte n (suc (suc (suc zero))) = omega arith
number_byte n (suc (suc (suc (suc k)))) = omega arith

-- and each of the slot
pub counted_bytes : (own : List ℕ) → IsBytes own → IsBytes (counted own)
counted_bytes own bytes = record {
  at = λ k. elim (cases_lt k (length own)) [
    | inl inside ↦ rw (get_or_append_left own (to_le_bytes w32 (zeros own)) 0 k inside) (bytes.at k)
    | inr past ↦ rw (get_or-append_right own (to_le_bytes w32 (zeros own)) (length own) k 0 refl past)
        (number_byte (zeros own) (k - length own))
  ];
}

-- ---- torn slots

-- a slot that is torn over an erased one is whole only as it is
pub torn_whole : (own left : List ℕ) → IsBytes own → length own ≤ max_own_bytes →
    IsTorn (erased (length own + 4)) (counted own) left → is_whole left ≡ true → left ≡ counted own
torn_whole own left bytes few torn whole =
    let torn' : IsTorn (erased (length (counted own))) (counted own) left =
    subst (λ n. IsTorn (erased n) (counted own) left) (sym (length_counted own)) torn in
    let e = torn_over (counted own) left (counted_bytes own bytes) torn' in
    let f = fewer (counted own) left e (omega (arith, length_counted own)) in
    let is : number_of left ≡ zeros (own_of left) = eqb-true (number_of left) (zeros (own_of left)) whole in
    let was : number_of (counted own) ≡ zeros (own_of (counted own)) =
    number_again own few ∙ sym (ap zeros (own_again own)) in
    f.same (omega (arith, is, was, f.falls, f.rises)) (omega (arith, is, was, f.falls, f.rises))

-- ---- an erased slot

own_erased : (n : ℕ) → own_of (erased (n + 4)) ≡ replicate n 255
own_erased n =
    let long : length (erased (n + 4)) - 4 ≡ n = omega (arith, length-replicate {A = ℕ} (n + 4) 255) in
    ap (λ k. take k (erased (n + 4))) long ∙ take-replicate n (n + 4) 255 (omega arith)

pub none_erased : (n : ℕ) → zeros (own_of (erased (n + 4))) ≡ 0
none_erased n =
    ap zeros (own_erased n) ∙ sum_by-replicate (count_zeros w8) n 255
    ∙ omega (arith, ap (λ k. n * k) none_in_set)

pub number_erased : (n : ℕ) → number_of (erased (n + 4)) ≡ 4294967295
number_erased n =
    let long : length (erased (n + 4)) - 4 ≡ n = omega (arith, length-replicate {A = ℕ} (n + 4) 255) in
    let four : n + 4 - n ≡ 4 = omega arith in
    ap (λ k. from_le_bytes w32 (drop k (erased (n + 4)))) long
    ∙ ap (from_le_bytes w32) (drop-replicate n (n + 4) 255)
    ∙ ap (λ k. from_le_bytes w32 (replicate k 255)) four
