-- Of a slot of which some bytes are erased the zero bits fall, the number rises, and if neither does it is the slot.
use Rattle.std.proofs.Common.{◌≡◌, ◌⊎◌, ℕ, suc, ◌+◌, ◌-◌, ◌<◌, ◌≤◌, List, [], ◌∷◌, ◌++◌, length, get_or, take, drop, refl, sym, ap, ◌∙◌, inl, inr, arith}
use Rattle.std.proofs.lemmas.Bool.{cases_lt}
use Rattle.std.proofs.lemmas.List.{get_or_past, length-take, length-drop, get_or-take, get_or-drop, get_or-replicate, take-append-drop}
use Rattle.std.proofs.lemmas.List.Sums.{sum_by-cons}
use Rattle.std.proofs.lemmas.Nat.{le_bytes_4}
use Rattle.std.specs.Int.{w8, w32, count_zeros, from_le_bytes, to_le_bytes}
use Rattle.list_lemmas.proofs.Bytes.{IsBytes, IsBytes-take, IsBytes-drop}
use Rattle.zero_count.specs.Zeros.{zeros, erased, IsTorn, IsFewer}
use Rattle.zero_count.proofs.ByteLemmas.{none_in_set, set_of_none}

-- each byte is erased, or that of the slot
pub record IsErased (slot left : List ℕ) : Type 0 where
  pub long : length left ≡ length slot
  pub bytes : IsBytes slot
  pub each : (k : ℕ) → k < length slot → (get_or left k 0 ≡ 255) ⊎ (get_or left k 0 ≡ get_or slot k 0)

behind : (s l : ℕ) (ss ls : List ℕ) → IsErased (s ∷ ss) (l ∷ ls) → IsErased ss ls
behind s l ss ls e = record {
  long = let long : suc (length ls) ≡ suc (length ss) = e.long in omega arith;
  bytes = record { at = λ k. e.bytes.at (suc k) };
  each = λ k h. e.each (suc k) (omega arith);
}

-- ---- the zero bits

byte_falls : (s l : ℕ) → s < 256 → (l ≡ 255) ⊎ (l ≡ s) → count_zeros w8 l ≤ count_zeros w8 s
byte_falls s l h (inl is) = omega (arith, ap (count_zeros w8) is, none_in_set)
byte_falls s l h (inr is) = omega (arith, ap (count_zeros w8) is)

byte_same : (s l : ℕ) → s < 256 → (l ≡ 255) ⊎ (l ≡ s) → count_zeros w8 s ≤ count_zeros w8 l → l ≡ s
byte_same s l h (inl is) le =
    let none : count_zeros w8 s ≡ 0 = omega (arith, ap (count_zeros w8) is, none_in_set) in
    is ∙ sym (set_of_none s h none)
byte_same s l h (inr is) le = is

pub zeros_fall : (slot left : List ℕ) → IsErased slot left → zeros left ≤ zeros slot
zeros_fall [] [] e = omega arith
zeros_fall [] (l ∷ ls) e = absurd (omega (arith, e.long))
zeros_fall (s ∷ ss) [] e = absurd (omega (arith, e.long))
zeros_fall (s ∷ ss) (l ∷ ls) e =
    let one = byte_falls s l (e.bytes.at 0) (e.each 0 (omega arith)) in
    let rest = zeros_fall ss ls (behind s l ss ls e) in
    omega (arith, one, rest, sum_by-cons (count_zeros w8) s ss, sum_by-cons (count_zeros w8) l ls)

pub zeros_same : (slot left : List ℕ) → IsErased slot left → zeros slot ≤ zeros left → left ≡ slot
zeros_same [] [] e le = refl
zeros_same [] (l ∷ ls) e le = absurd (omega (arith, e.long))
zeros_same (s ∷ ss) [] e le = absurd (omega (arith, e.long))
zeros_same (s ∷ ss) (l ∷ ls) e le =
    let one = byte_falls s l (e.bytes.at 0) (e.each 0 (omega arith)) in
    let more = behind s l ss ls e in
    let rest = zeros_fall ss ls more in
    let sums : (count_zeros w8 s + zeros ss ≤ count_zeros w8 l + zeros ls) =
    omega (arith, le, sum_by-cons (count_zeros w8) s ss, sum_by-cons (count_zeros w8) l ls) in
    let head = byte_same s l (e.bytes.at 0) (e.each 0 (omega arith)) (omega (arith, sums, one, rest)) in
    let tail = zeros_same ss ls more (omega (arith, sums, one, rest)) in
    ap (λ b. b ∷ ls) head ∙ ap (λ bs. s ∷ bs) tail

-- ---- the number

byte_rises : (slot left : List ℕ) → IsErased slot left → (k : ℕ) → k < length slot →
    get_or slot k 0 ≤ get_or left k 0
byte_rises slot left e k h = elim (e.each k h) [
  | inl is ↦ omega (arith, e.bytes.at k, is)
  | inr is ↦ omega (arith, is)
]

pub number_rises : (slot left : List ℕ) → IsErased slot left → length slot ≡ 4 →
    from_le_bytes w32 slot ≤ from_le_bytes w32 left
number_rises slot left e four =
    let b0 = byte_rises slot left e 0 (omega arith) in
    let b1 = byte_rises slot left e 1 (omega arith) in
    let b2 = byte_rises slot left e 2 (omega arith) in
    let b3 = byte_rises slot left e 3 (omega arith) in
    omega (arith, b0, b1, b2, b3)

-- a byte that is erased or not is a byte
erased_byte : (slot left : List ℕ) → IsErased slot left → (k : ℕ) → k < length slot → get_or left k 0 < 256
erased_byte slot left e k h = elim (e.each k h) [
  | inl is ↦ omega (arith, is)
  | inr is ↦ omega (arith, e.bytes.at k, is)
]

-- ---- a slot

-- its first bytes, and those behind them
first_bytes : (n : ℕ) (slot left : List ℕ) → IsErased slot left → IsErased (take n slot) (take n left)
first_bytes n slot left e = record {
  long = omega (arith, length-take n slot, length-take n left, e.long);
  bytes = IsBytes-take n slot e.bytes;
  each = λ k h.
      let inside : k < n = omega (arith, h, length-take n slot) in
      let within : k < length slot = omega (arith, h, length-take n slot) in
      rw (get_or-take n slot k 0 inside, get_or-take n left k 0 inside) (e.each k within);
}

last_bytes : (n : ℕ) (slot left : List ℕ) → IsErased slot left → IsErased (drop n slot) (drop n left)
last_bytes n slot left e = record {
  long = omega (arith, length-drop n slot, length-drop n left, e.long);
  bytes = IsBytes-drop n slot e.bytes;
  each = λ k h.
      let within : n + k < length slot = omega (arith, h, length-drop n slot) in
      rw (get_or-drop n slot k 0, get_or-drop n left k 0) (e.each (n + k) within);
}

-- two numbers of four bytes that are equal have the same bytes
same_number : (a b : List ℕ) → IsBytes a → IsBytes b → length a ≡ 4 → length b ≡ 4 →
    from_le_bytes w32 a ≡ from_le_bytes w32 b → a ≡ b
same_number a b ba bb la lb e =
    sym (le_bytes_4 a (from_le_bytes w32 a) la ba.at refl)
    ∙ ap (to_le_bytes w32) e
    ∙ le_bytes_4 b (from_le_bytes w32 b) lb bb.at refl

left_bytes : (slot left : List ℕ) → IsErased slot left → IsBytes left
left_bytes slot left e = record {
  at = λ k. elim (cases_lt k (length slot)) [
    | inl inside ↦ erased_byte slot left e k inside
    | inr past ↦ rw (get_or_past left k 0 (omega (arith, past, e.long))) (omega arith)
  ];
}

fewer_at : (n : ℕ) (slot left : List ℕ) → IsErased slot left → n + 4 ≡ length slot →
    (zeros (take n left) ≤ zeros (take n slot))
    × (from_le_bytes w32 (drop n slot) ≤ from_le_bytes w32 (drop n left))
    × (zeros (take n slot) ≤ zeros (take n left) →
    from_le_bytes w32 (drop n left) ≤ from_le_bytes w32 (drop n slot) → left ≡ slot)
fewer_at n slot left e long =
    let own = first_bytes n slot left e in
    let number = last_bytes n slot left e in
    let four : length (drop n slot) ≡ 4 = omega (arith, length-drop n slot, long) in
    let four_left : length (drop n left) ≡ 4 = omega (arith, four, number.long) in
    let rises = number_rises (drop n slot) (drop n left) number four in (
      zeros_fall (take n slot) (take n left) own,
      rises,
      λ few much.
          let same_own : take n left ≡ take n slot = zeros_same (take n slot) (take n left) own few in
          let equal : from_le_bytes w32 (drop n left) ≡ from_le_bytes w32 (drop n slot) = omega (arith, rises, much) in
          let same_last : drop n left ≡ drop n slot =
          same_number (drop n left) (drop n slot) (left_bytes (drop n slot) (drop n left) number) number.bytes
          four_left four equal in
          sym (take-append-drop n left)
          ∙ ap (λ xs. xs ++ drop n left) same_own
          ∙ ap (λ xs. take n slot ++ xs) same_last
          ∙ take-append-drop n slot,
    )

pub fewer : (slot left : List ℕ) → IsErased slot left → 4 ≤ length slot → IsFewer slot left
fewer slot left e least =
    let n = length slot - 4 in
    let all = fewer_at (length slot - 4) slot left e (omega arith) in
    let at_left : length left - 4 ≡ length slot - 4 = ap (λ k. k - 4) e.long in
    record {
      falls = rw at_left (all.0);
      rises = rw at_left (all.1);
      same = rw at_left (all.2);
    }

-- a torn write over an erased slot erases bytes of the new one, and so does a torn erase
pub torn_over : (slot left : List ℕ) → IsBytes slot → IsTorn (erased (length slot)) slot left → IsErased slot left
torn_over slot left bytes torn = record {
  long = torn.new_long;
  bytes = bytes;
  each = λ k h.
      let set : get_or (erased (length slot)) k 0 ≡ 255 = get_or-replicate (length slot) k 255 0 h in
      elim (torn.each k (omega (arith, h, torn.new_long))) [
        | inl is ↦ inl (is ∙ set)
        | inr is ↦ inr is
      ];
}

pub torn_back : (old new left : List ℕ) → IsTorn old new left → IsTorn new old left
torn_back old new left torn = record {
  old_long = torn.new_long;
  new_long = torn.old_long;
  each = λ k h. elim (torn.each k h) [
    | inl is ↦ inr is
    | inr is ↦ inl is
  ];
}
