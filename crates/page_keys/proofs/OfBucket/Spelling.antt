-- The bytes of entries tell the entries.
use Rattle.page_keys.proofs.Common.{◌≡◌, ◌≢◌, ℕ, zero, suc, ◌-◌, ◌≤◌, List, [], ◌∷◌, ◌++◌, length, take, drop, get_or, replicate, flat_map, refl, sym, ap, ◌∙◌, arith, length-append, append_assoc, AllByRecursion, take-append_seam, drop-append_seam, Pair, entry_bytes, IsEntry, HoldsEntries}
use Rattle.std.proofs.lemmas.Grind.{common_steps}
use Rattle.page_keys.specs.Buckets.{padded_short}

-- two parts of equal length are equal where the whole is
pub parts_equal : (a b c d : List ℕ) → length a ≡ length b → a ++ c ≡ b ++ d → (a ≡ b) × (c ≡ d)
parts_equal a b c d same e =
    let front : a ≡ b =
    sym (take-append_seam a c) ∙ ap (take (length a)) e
    ∙ rw same (take-append_seam b d) in
    let behind : c ≡ d =
    sym (drop-append_seam a c) ∙ ap (drop (length a)) e
    ∙ rw same (drop-append_seam b d) in
    (front, behind)

pub length_zeros : (n : ℕ) → length (replicate {A = ℕ} n 0) ≡ n
length_zeros n = grind (arith, common_steps)

pub length_short : (s : List ℕ) → length s ≤ 15 → length (padded_short s) ≡ 16
length_short s few =
    omega (arith, length-append s (replicate (15 - length s) 0), length_zeros (15 - length s))

pub short_equal : (s t : List ℕ) → padded_short s ≡ padded_short t → s ≡ t
short_equal s t e =
    let lengths : length s ≡ length t = ap (λ (l : List ℕ). get_or l 0 0) e in
    (parts_equal s t _ _ lengths (ap (drop 1) e)).0

pub length_entry : (e : Pair) → IsEntry e → length (entry_bytes e) ≡ 32
length_entry e is =
    length-append (padded_short e.0) (padded_short e.1)
    ∙ rw (length_short e.0 is.most, length_short e.1 is.value) refl

pub entry_equal : (e f : Pair) → IsEntry e → IsEntry f → entry_bytes e ≡ entry_bytes f → e ≡ f
entry_equal e f is its same =
    let lengths = length_short e.0 is.most ∙ sym (length_short f.0 its.most) in
    let parts = parts_equal (padded_short e.0) (padded_short f.0) _ _ lengths same in
    let key = short_equal e.0 f.0 parts.0 in
    let value = short_equal e.1 f.1 parts.1 in
    λ i. (key i, value i)

pub first_zero : (n : ℕ) → get_or (replicate {A = ℕ} n 0) 0 0 ≡ 0
first_zero zero = refl
first_zero (suc n) = refl

-- an entry does not begin with a zero
no_zeros : (e : Pair) (bytes : List ℕ) (n : ℕ) → IsEntry e → entry_bytes e ++ bytes ≢ replicate n 0
no_zeros e bytes n is same =
    let first : length e.0 ≡ 0 = ap (λ (l : List ℕ). get_or l 0 0) same ∙ first_zero n in
    omega (arith, is.least)

pub record GoesOn (pairs all : List Pair) (rest : List ℕ) (n : ℕ) : Type 0 where
  pub more : List Pair
  pub parts : all ≡ pairs ++ more
  pub spelled : rest ≡ flat_map entry_bytes more ++ replicate n 0
  pub each : AllByRecursion IsEntry more

-- bytes that begin with some entries, and are some entries and zeros, are those and more
pub goes_on : (pairs all : List Pair) (rest : List ℕ) (n : ℕ) → AllByRecursion IsEntry pairs →
    AllByRecursion IsEntry all →
    flat_map entry_bytes pairs ++ rest ≡ flat_map entry_bytes all ++ replicate n 0 →
    GoesOn pairs all rest n
goes_on [] all rest n each its same =
    record { more = all; parts = refl; spelled = same; each = its }
goes_on (e ∷ pairs) [] rest n each its same =
    absurd (no_zeros e (flat_map entry_bytes pairs ++ rest) n each.0
    (sym (append_assoc (entry_bytes e) (flat_map entry_bytes pairs) rest) ∙ same))
goes_on (e ∷ pairs) (f ∷ all) rest n each its same =
    let moved = sym (append_assoc (entry_bytes e) (flat_map entry_bytes pairs) rest) ∙ same
    ∙ append_assoc (entry_bytes f) (flat_map entry_bytes all) (replicate n 0) in
    let lengths = length_entry e each.0 ∙ sym (length_entry f its.0) in
    let parts = parts_equal (entry_bytes e) (entry_bytes f) _ _ lengths moved in
    let one = entry_equal e f each.0 its.0 parts.0 in
    let later = goes_on pairs all rest n each.1 its.1 parts.1 in
    record {
      more = later.more;
      parts = λ i. sym one i ∷ later.parts i;
      spelled = later.spelled;
      each = later.each;
    }

-- zeros are no entries
pub none_in_zeros : (more : List Pair) (m n : ℕ) → AllByRecursion IsEntry more →
    replicate m 0 ≡ flat_map entry_bytes more ++ replicate n 0 → more ≡ []
none_in_zeros [] m n each same = refl
none_in_zeros (e ∷ more) m n each same =
    absurd (no_zeros e (flat_map entry_bytes more ++ replicate n 0) m each.0
    (sym (append_assoc (entry_bytes e) (flat_map entry_bytes more) (replicate n 0)) ∙ sym same))

-- the bytes of a page are those of one list of entries at most
pub one_list : (page_bytes : ℕ) (bytes : List ℕ) (pairs all : List Pair) →
    HoldsEntries page_bytes bytes pairs → HoldsEntries page_bytes bytes all → all ≡ pairs
one_list page_bytes bytes pairs all holds its =
    let on = goes_on pairs all _ _ holds.each its.each (sym holds.spelled ∙ its.spelled) in
    let none = none_in_zeros on.more _ _ on.each on.spelled in
    on.parts ∙ rw none (grind (arith, common_steps))
