-- Lists whose numbers are bytes.
use Rattle.std.proofs.Common.{ℕ, ◌<◌, List, get_or, ◌+◌, ◌-◌, drop, take, arith, inl, inr, slice_range, ◌≡◌, zero, suc, true, ltb, [], ◌∷◌, refl, length}
use Rattle.std.specs.List.{list_all, All}
use Rattle.std.proofs.lemmas.Bool.{cases_lt, and_parts, ltb-true, lt-ltb}
use Rattle.std.proofs.lemmas.List.{get_or-drop, length-take, get_or-take, get_or_past}

-- each is a byte
pub record IsBytes (bytes : List ℕ) : Type 0 where
  pub at : (i : ℕ) → get_or bytes i 0 < 256

-- so is each behind some
pub IsBytes-drop : (n : ℕ) (bytes : List ℕ) → IsBytes bytes → IsBytes (drop n bytes)
IsBytes-drop n bytes h = record { at = λ i. rw get_or-drop (h.at (n + i)) }

-- and each of the first
pub IsBytes-take : (n : ℕ) (bytes : List ℕ) → IsBytes bytes → IsBytes (take n bytes)
IsBytes-take n bytes h = record {
  at = λ i.
      elim (cases_lt i n) [
        | inl lt ↦ rw (get_or-take n bytes i 0 lt) (h.at i)
        | inr le ↦ rw (get_or_past (take n bytes) i 0 (omega (arith, length-take n bytes))) (omega arith)
      ];
}

-- and each of a part
pub IsBytes-range : (m n : ℕ) (bytes : List ℕ) → IsBytes bytes → IsBytes (slice_range bytes m n)
IsBytes-range m n bytes h = IsBytes-take (n - m) (drop m bytes) (IsBytes-drop m bytes h)

-- bytes are below 256, by test and by fact
pub tested : (bytes : List ℕ) → list_all (λ b. ltb b 256) bytes ≡ true → IsBytes bytes
tested [] h = record { at = λ i. omega arith }
tested (b ∷ bytes) h =
    let parts = and_parts (ltb b 256) (list_all (λ x. ltb x 256) bytes) h in
    let rest = tested bytes parts.1 in
    record {
      at = λ i. elim i as (λ k. get_or (b ∷ bytes) k 0 < 256) [
        | zero ↦ ltb-true b 256 parts.0
        | suc k ↦ rest.at k
      ];
    }

-- and the other way round
pub tests : (bytes : List ℕ) → IsBytes bytes → list_all (λ b. ltb b 256) bytes ≡ true
tests [] h = refl
tests (b ∷ bytes) h = rw (lt-ltb b 256 (h.at 0)) (tests bytes (record { at = λ i. h.at (suc i) }))

-- from a fact of each item
pub IsBytes-all : (bytes : List ℕ) → All (λ b. b < 256) bytes → IsBytes bytes
IsBytes-all bytes all = record {
  at = λ i. elim (cases_lt i (length bytes)) [
    | inl inside ↦ all i 0 inside
    | inr past ↦ rw (get_or_past bytes i 0 past) (omega arith)
  ];
}
