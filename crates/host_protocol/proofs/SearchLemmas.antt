-- A search for a byte, as the first place of a list that passes a test.
use Rattle.host_protocol.proofs.Common.{◌≡◌, ℕ, Bool, true, false, List, Option, Some, None, sym, take, arith, position, get_or-take, length-take, passes_at_first, position_some}
use Rattle.std.proofs.Common.{subst}
use Rattle.std.specs.Prelude.{is_some}
use Rattle.std.proofs.lemmas.Bool.{false_from_ne_true}
use Rattle.std.proofs.lemmas.List.Sums.{fails_before_first}
use Rattle.list_lemmas.proofs.Positions.{position-at, position-none}
use Rattle.memchr.specs.Find.{IsFirstByte}

pub found_first : (test : ℕ → Bool) (bytes : List ℕ) (found : Option ℕ) → IsFirstByte test bytes found →
    found ≡ position test bytes
found_first test bytes None h = sym (position-none test bytes 0
    (λ k inside. false_from_ne_true _ (h k (omega arith) inside)))
found_first test bytes (Some k) h =
    sym (position-at test bytes 0 k h.0.high (λ i before. false_from_ne_true _ (h.0.before i (omega arith) before)) h.1)

-- the first place of the first elements that passes is that of the list
pub near_first : (test : ℕ → Bool) (n : ℕ) (bytes : List ℕ) (i : ℕ) → position test (take n bytes) ≡ Some i →
    position test bytes ≡ Some i
near_first test n bytes i h =
    let at = position_some test (take n bytes) i h in
    let size = length-take n bytes in
    position-at test bytes 0 i (omega (arith, at.1, size))
    (λ k before. subst (λ b. test b ≡ false) (get_or-take n bytes k 0 (omega (arith, before, at.1, size)))
    (fails_before_first test (take n bytes) k 0 (omega (arith, before, at.0))))
    (subst (λ b. test b ≡ true) (get_or-take n bytes i 0 (omega (arith, at.1, size)))
    (rw at.0 at (passes_at_first test (take n bytes) 0 (omega (arith, at.0, at.1)))))

pub near_is : (test : ℕ → Bool) (n : ℕ) (bytes : List ℕ) (found : Option ℕ) → found ≡ position test (take n bytes) →
    is_some found ≡ true
    → found ≡ position test bytes
near_is test n bytes (Some i) h some = sym (near_first test n bytes i (sym h))
near_is test n bytes None h some = absurd (cc)
