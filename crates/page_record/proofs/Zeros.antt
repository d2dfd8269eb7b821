-- A number is 0 exactly where its bytes are.
use Rattle.std.proofs.Common.{◌≡◌, ℕ, ◌+◌, ◌≤◌, ◌&&◌, Bool, true, false, eqb, List, length, drop, replicate, refl, sym, ap, ap₂, ◌∙◌, arith, lit≤, slice_range}
use Rattle.std.specs.Int.{w32, w64, to_le_bytes, from_le_bytes}
use Rattle.std.proofs.lemmas.Bool.{eqb-true, eq-eqb}
use Rattle.std.proofs.lemmas.List.{take_all, length-drop}
use Rattle.std.proofs.lemmas.List.Folds.{list_all-append}
use Rattle.list_lemmas.proofs.Lists.{split_at, length-range}
use Rattle.list_lemmas.proofs.Bytes.{IsBytes}
use Rattle.page_record.specs.Rules.{number_at, are_zeros}
use Rattle.page_record.proofs.Parts.{zeros, number_at-w32, number_at-w64}

same_truth : (a b : Bool) → (a ≡ true → b ≡ true) → (b ≡ true → a ≡ true) → a ≡ b
same_truth true b f g = sym (f refl)
same_truth false true f g = g refl
same_truth false false f g = refl

pub zero_w32 : (offset : ℕ) (bytes : List ℕ) → offset + 4 ≤ length bytes → IsBytes bytes →
    eqb (number_at w32 offset bytes) 0 ≡ are_zeros (slice_range bytes offset (offset + 4))
unfolding number_at
zero_w32 offset bytes le fits =
    let part = slice_range bytes offset (offset + 4) in
    same_truth _ _
    (λ h. ap are_zeros (sym (number_at-w32 offset bytes le fits)
    ∙ ap (to_le_bytes w32) (eqb-true (number_at w32 offset bytes) 0 h)))
    (λ h. eq-eqb _ 0 (ap (from_le_bytes w32) (zeros part h ∙ ap (λ n. replicate n 0) (length-range offset 4 bytes le))))

pub zero_w64 : (offset : ℕ) (bytes : List ℕ) → offset + 8 ≤ length bytes → IsBytes bytes →
    eqb (number_at w64 offset bytes) 0 ≡ are_zeros (slice_range bytes offset (offset + 8))
unfolding number_at
zero_w64 offset bytes le fits =
    let part = slice_range bytes offset (offset + 8) in
    same_truth _ _
    (λ h. ap are_zeros (sym (number_at-w64 offset bytes le fits)
    ∙ ap (to_le_bytes w64) (eqb-true (number_at w64 offset bytes) 0 h)))
    (λ h. eq-eqb _ 0 (ap (from_le_bytes w64) (zeros part h ∙ ap (λ n. replicate n 0) (length-range offset 8 bytes le))))

-- zeros up to a place and behind it
zeros_split : (m n : ℕ) (bytes : List ℕ) → m ≤ n → are_zeros (drop m bytes)
    ≡ (are_zeros (slice_range bytes m n) && are_zeros (drop n bytes))
zeros_split m n bytes le = ap are_zeros (split_at m n bytes le)
    ∙ list_all-append _ (slice_range bytes m n) (drop n bytes)

-- to the end
to_end : (m : ℕ) (bytes : List ℕ) → length bytes ≡ 64 → slice_range bytes m 64 ≡ drop m bytes
to_end m bytes len = take_all _ (drop m bytes) (omega (arith, length-drop m bytes))

-- the bytes behind the count
pub zero_tail : (bytes : List ℕ) → length bytes ≡ 64 → IsBytes bytes →
    are_zeros (slice_range bytes 44 64)
    ≡ (eqb (number_at w32 44 bytes) 0 && (eqb (number_at w64 48 bytes) 0 && eqb (number_at w64 56 bytes) 0))
zero_tail bytes len fits =
    let a = zero_w32 44 bytes (omega arith) fits in
    let b = zero_w64 48 bytes (omega arith) fits in
    let c = zero_w64 56 bytes (omega arith) fits in
    ap are_zeros (to_end 44 bytes len) ∙ zeros_split 44 48 bytes (lit≤ tt)
    ∙ ap₂ (λ x y. x && y) (sym a)
    (zeros_split 48 56 bytes (lit≤ tt) ∙ ap₂ (λ x y. x && y) (sym b) (ap are_zeros (sym (to_end 56 bytes len)) ∙ sym c))

-- those of the count and behind it
pub zero_count : (bytes : List ℕ) → length bytes ≡ 64 → IsBytes bytes →
    are_zeros (slice_range bytes 40 64) ≡ (eqb (number_at w32 40 bytes) 0 && are_zeros (slice_range bytes 44 64))
zero_count bytes len fits =
    ap are_zeros (to_end 40 bytes len) ∙ zeros_split 40 44 bytes (lit≤ tt)
    ∙ ap₂ (λ x y. x && y) (sym (zero_w32 40 bytes (omega arith) fits)) (ap are_zeros (sym (to_end 44 bytes len)))
