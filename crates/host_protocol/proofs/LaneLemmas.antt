-- From the lanes of two loads to the digits of a text.
use Rattle.std.proofs.Common.{◌≡◌, ◌⊎◌, ℕ, zero, suc, ◌+◌, ◌-◌, ◌*◌, ◌%◌, ◌^◌, ◌<◌, ◌≤◌, eqb, ltb, leb, Bool, true, false, cond, List, [], ◌∷◌, ◌++◌, map, length, take, drop, get_or, replicate, Ok, refl, sym, ap, ap₂, subst, ◌∙◌, inl, inr, arith, w8, Fits, take-add, drop-drop}
use Rattle.std.proofs.lemmas.Bool.{agree_below, agree_below_at, cases_lt, cases_Bool, cond-true, cond-false, lt-ltb, le-ltb, leb-true, leb-false, eqb-true, eqb-false}
use Rattle.std.proofs.lemmas.List.{get_or-map}
use Rattle.std.proofs.lemmas.Simd.{map-map, mask_l-mod, get_or-chunk, get_or-put_chunk_below, get_or-put_chunk_at}
use lib.Lanes.{chunk, put_chunk, zip2, sel_l, mask_l, top, Each1}
use Rattle.host_protocol.specs.Digits.{digit_of, ReadsPair, HasOther}
use Rattle.host_protocol.proofs.DigitLemmas.{pair_read, other_at}

zip2-map : (h : ℕ → ℕ → ℕ) (f g : ℕ → ℕ) (v : List ℕ) → zip2 h (map f v) (map g v) ≡ map (λ x. h (f x) (g x)) v
zip2-map h f g [] = refl
zip2-map h f g (x ∷ xs) = ap (λ r. h (f x) (g x) ∷ r) (zip2-map h f g xs)

-- an operation on two vectors that were computed lane by lane from v
pub joined : (h : ℕ → ℕ → ℕ) (f g : ℕ → ℕ) (v : List ℕ) {a b : List ℕ} → a ≡ map f v → b ≡ map g v
    → zip2 h a b ≡ map (λ x. h (f x) (g x)) v
joined h f g v p q = ap₂ (zip2 h) p q ∙ zip2-map h f g v

-- a vector of one value
pub splat_is : (v : List ℕ) (n y : ℕ) → length v ≡ n → replicate n y ≡ map (λ _. y) v
splat_is [] n y e = ap (λ k. replicate k y) (sym e)
splat_is (x ∷ xs) n y e = ap (λ k. replicate k y) (sym e) ∙ ap (λ r. y ∷ r) (splat_is xs (length xs) y refl)

pub itself : (v : List ℕ) → v ≡ map (λ x. x) v
itself [] = refl
itself (x ∷ xs) = ap (λ r. x ∷ r) (itself xs)

sel_l-map : (p : ℕ → Bool) (f g : ℕ → ℕ) (v : List ℕ)
    → sel_l (map p v) (map f v) (map g v) ≡ map (λ x. cond (p x) (f x) (g x)) v
sel_l-map p f g [] = refl
sel_l-map p f g (x ∷ xs) = ap (λ r. cond (p x) (f x) (g x) ∷ r) (sel_l-map p f g xs)

-- a choice between two such vectors
pub selected : (p : ℕ → Bool) (f g : ℕ → ℕ) (v : List ℕ) {m : List Bool} {a b : List ℕ} → m ≡ map p v → a ≡ map f v
    → b ≡ map g v → sel_l m a b ≡ map (λ x. cond (p x) (f x) (g x)) v
selected p f g v {m} {a} {b} r s t =
    ap (λ l. sel_l l a b) r ∙ ap₂ (λ x y. sel_l (map p v) x y) s t ∙ sel_l-map p f g v

-- the top bits of one
pub tops : (f : ℕ → ℕ) (v : List ℕ) {a : List ℕ} → a ≡ map f v → map (top 7) a ≡ map (λ x. top 7 (f x)) v
tops f v p = ap (map (top 7)) p ∙ map-map (top 7) f v

same_below : (f g : ℕ → ℕ) (v : List ℕ) → Each1 (Fits w8) v
    → agree_below (λ c. eqb (f c) (g c)) (λ _. true) 256 ≡ true → map f v ≡ map g v
same_below f g [] fits all = refl
same_below f g (x ∷ xs) fits all =
    ap₂ (λ a b. a ∷ b)
    (eqb-true (f x) (g x) (agree_below_at (λ c. eqb (f c) (g c)) (λ _. true) 256 x all fits.0.fits))
    (same_below f g xs fits.1 all)

-- what is the value of each of the 256 bytes is that of each lane
pub values_are : (v z : List ℕ) → Each1 (Fits w8) v → (f : ℕ → ℕ) → z ≡ map f v
    → agree_below (λ c. eqb (f c) (digit_of c)) (λ _. true) 256 ≡ true → z ≡ map digit_of v
values_are v z fits f lanes all = lanes ∙ same_below f digit_of v fits all

-- ---- the lanes by their indices

abbrev pub indices : List ℕ
indices = 0 ∷ 1 ∷ 2 ∷ 3 ∷ 4 ∷ 5 ∷ 6 ∷ 7 ∷ 8 ∷ 9 ∷ 10 ∷ 11 ∷ 12 ∷ 13 ∷ 14 ∷ 15 ∷ []

index_at : (k : ℕ) → k < 16 → get_or indices k 0 ≡ k
index_at k less =
    eqb-true _ k (agree_below_at (λ i. eqb (get_or indices i 0) i) (λ _. true) 16 k refl less)

at_index : (f : ℕ → ℕ) (k : ℕ) → k < 16 → get_or (map f indices) k 0 ≡ f k
at_index f k less = get_or-map f indices k 0 0 less ∙ ap f (index_at k less)

-- ---- the bits of a comparison

unset : (b : Bool) (n : ℕ) → cond b 1 0 + 2 * n ≡ 0 → (b ≡ false) × (n ≡ 0)
unset true n e = absurd (omega arith)
unset false n e = (refl, omega arith)

none_set : (p : ℕ → Bool) (xs : List ℕ) → mask_l (map p xs) ≡ 0 → (k : ℕ) → k < length xs → p (get_or xs k 0) ≡ false
none_set p [] e k less = absurd (omega arith)
none_set p (x ∷ xs) e zero less = (unset (p x) (mask_l (map p xs)) e).0
none_set p (x ∷ xs) e (suc k) less = none_set p xs (unset (p x) (mask_l (map p xs)) e).1 k (omega arith)

some_set : (p : ℕ → Bool) (xs : List ℕ) → (mask_l (map p xs) ≡ 0 → ⊥)
    → (k : ℕ) × (k < length xs) × (p (get_or xs k 0) ≡ true)
some_set p [] some = absurd (some refl)
some_set p (x ∷ xs) some = elim (cases_Bool (p x)) [
  | inl here ↦ (0, omega arith, here)
  | inr other ↦
      let rest = some_set p xs (λ none. some (ap (λ b. cond b 1 0 + 2 * mask_l (map p xs)) other
      ∙ ap (λ n. 0 + 2 * n) none)) in
      (suc rest.0, omega (arith, rest.1), rest.2)
]

flag : (b : Bool) → top 7 (cond b 255 0) ≡ b
flag true = refl
flag false = refl

-- whether the greater of two values is that of no digit
abbrev great : ℕ → ℕ → Bool
great h l = top 7 (cond (leb 16 (cond (top 7 (cond (ltb h l) 255 0)) l h)) 255 0)

great_is : (h l : ℕ) → great h l ≡ leb 16 (cond (ltb h l) l h)
great_is h l =
    flag (leb 16 (cond (top 7 (cond (ltb h l) 255 0)) l h)) ∙ ap (λ b. leb 16 (cond b l h)) (flag (ltb h l))

both_small : (h l : ℕ) → great h l ≡ false → (h < 16) × (l < 16)
both_small h l is =
    let most = leb-false 16 _ (sym (great_is h l) ∙ is) in
    elim (cases_lt h l) [
      | inl less ↦
          let last : l < 16 = subst (λ n. n < 16) (cond-true (ltb h l) l h (lt-ltb h l less)) most in
          (omega (arith, less, last), last)
      | inr more ↦
          let first : h < 16 = subst (λ n. n < 16) (cond-false (ltb h l) l h (le-ltb h l more)) most in
          (first, omega (arith, more, first))
    ]

one_large : (h l : ℕ) → great h l ≡ true → (16 ≤ h) ⊎ (16 ≤ l)
one_large h l is =
    let most = leb-true 16 _ (sym (great_is h l) ∙ is) in
    elim (cases_lt h l) [
      | inl less ↦ inr (subst (λ n. 16 ≤ n) (cond-true (ltb h l) l h (lt-ltb h l less)) most)
      | inr more ↦ inl (subst (λ n. 16 ≤ n) (cond-false (ltb h l) l h (le-ltb h l more)) most)
    ]

-- ---- 32 digits of a text

-- the bytes of two loads
abbrev pub loaded : ℕ → List ℕ → List ℕ
loaded i text = chunk i 16 text ++ chunk (i + 16) 16 text

loaded_at : (i : ℕ) (text : List ℕ) (j : ℕ) → j < 32 → get_or (loaded i text) j 0 ≡ get_or text (i + j) 0
loaded_at i text j less =
    ap (λ l. get_or l j 0) (ap (λ l. take 16 (drop i text) ++ take 16 l) (sym (drop-drop 16 i text))
    ∙ sym (take-add 16 16 (drop i text)))
    ∙ get_or-chunk i 32 text j 0 less

abbrev pub high_of : ℕ → List ℕ → ℕ → ℕ
high_of at text k = digit_of (get_or (loaded (2 * at) text) (2 * k) 0)

abbrev pub low_of : ℕ → List ℕ → ℕ → ℕ
low_of at text k = digit_of (get_or (loaded (2 * at) text) (2 * k + 1) 0)

module _ (at : ℕ) (text high low : List ℕ) (room : 2 * at + 32 ≤ length text)
    (highs : high ≡ map (high_of at text) indices) (lows : low ≡ map (low_of at text) indices) where
  high_is : (k : ℕ) → k < 16 → high_of at text k ≡ digit_of (get_or text (2 * (at + k)) 0)
  high_is k less =
      ap digit_of (loaded_at (2 * at) text (2 * k) (omega arith) ∙ ap (λ n. get_or text n 0) (omega arith))

  low_is : (k : ℕ) → k < 16 → low_of at text k ≡ digit_of (get_or text (2 * (at + k) + 1) 0)
  low_is k less =
      ap digit_of (loaded_at (2 * at) text (2 * k + 1) (omega arith) ∙ ap (λ n. get_or text n 0) (omega arith))

  abbrev pub judged : List ℕ
  judged = zip2 (λ a b. cond (leb a b) 255 0) (replicate 16 16)
      (sel_l (map (top 7) (zip2 (λ a b. cond (ltb a b) 255 0) high low)) low high)

  abbrev is_great : ℕ → Bool
  is_great k = great (high_of at text k) (low_of at text k)

  mask_is : mask_l (map (top 7) judged) % 2 ^ 64 ≡ mask_l (map is_great indices)
  mask_is =
      let few : 16 ≤ 64 = omega arith in
      let high_k : ℕ → ℕ = high_of at text in
      let low_k : ℕ → ℕ = low_of at text in
      let lower = joined (λ a b. cond (ltb a b) 255 0) high_k low_k indices highs lows in
      let greater = selected (λ k. top 7 (cond (ltb (high_k k) (low_k k)) 255 0)) low_k high_k indices
      (tops (λ k. cond (ltb (high_k k) (low_k k)) 255 0) indices lower) lows highs in
      let most : ℕ → ℕ = λ k. cond (top 7 (cond (ltb (high_k k) (low_k k)) 255 0)) (low_k k) (high_k k) in
      ap (λ bits. mask_l bits % 2 ^ 64)
      (tops (λ k. cond (leb 16 (most k)) 255 0) indices
      (joined (λ a b. cond (leb a b) 255 0) (λ _. 16) most indices (splat_is indices 16 16 refl) greater))
      ∙ mask_l-mod (map is_great indices) 64 few

  pub all_small : eqb (mask_l (map (top 7) judged) % 2 ^ 64) 0 ≡ true
      → (k : ℕ) → k < 16 → (high_of at text k < 16) × (low_of at text k < 16)
  all_small none k less =
      both_small _ _ (subst (λ i. is_great i ≡ false) (index_at k less)
      (none_set is_great indices (sym mask_is ∙ eqb-true _ 0 none) k less))

  pub one_other : eqb (mask_l (map (top 7) judged) % 2 ^ 64) 0 ≡ false → HasOther text
  one_other some =
      let found = some_set is_great indices (λ none. eqb-false _ 0 some (mask_is ∙ none)) in
      let less : found.0 < 16 = found.1 in
      elim (one_large _ _ (subst (λ i. is_great i ≡ true) (index_at found.0 less) found.2)) [
        | inl large ↦ other_at text (2 * (at + found.0)) _ (omega (arith, less, room)) (high_is found.0 less) large
        | inr large ↦ other_at text (2 * (at + found.0) + 1) _ (omega (arith, less, room)) (low_is found.0 less) large
      ]

  module _ (add mul : ℕ → ℕ → ℕ) (bytes : List ℕ) (space : at + 16 ≤ length bytes)
      (exact : (h l : ℕ) → h < 16 → l < 16 → add (mul h 16) l ≡ h * 16 + l)
      (small : (k : ℕ) → k < 16 → (high_of at text k < 16) × (low_of at text k < 16)) where
    abbrev pub told : List ℕ
    told = zip2 add (zip2 mul high (replicate 16 16)) low

    told_is : told ≡ map (λ k. add (mul (high_of at text k) 16) (low_of at text k)) indices
    told_is =
        joined add (λ k. mul (high_of at text k) 16) (low_of at text) indices
        (joined mul (high_of at text) (λ _. 16) indices highs (splat_is indices 16 16 refl)) lows

    long : length told ≡ 16
    long = ap length told_is

    pair_at : (k : ℕ) → k < 16 → ReadsPair text (put_chunk at bytes told) (at + k)
    pair_at k less =
        let h = high_of at text k in
        let l = low_of at text k in
        let byte = get_or-put_chunk_at at bytes told k 0 (omega (arith, long, less)) (omega (arith, long, space))
        ∙ ap (λ t. get_or t k 0) told_is
        ∙ at_index (λ i. add (mul (high_of at text i) 16) (low_of at text i)) k less
        ∙ exact h l (small k less).0 (small k less).1 in
        pair_read (get_or text (2 * (at + k)) 0) (get_or text (2 * (at + k) + 1) 0) (2 * (at + k)) h l
        (high_is k less) (low_is k less) (small k less).0 (small k less).1
        ∙ ap Ok (sym byte)

    pub pairs_at : ((k : ℕ) → k < at → ReadsPair text bytes k) → (k : ℕ) → k < at + 16
        → ReadsPair text (put_chunk at bytes told) k
    pairs_at before k within = elim (cases_lt k at) [
      | inl early ↦ before k early ∙ ap Ok (sym (get_or-put_chunk_below at bytes told k 0 early))
      | inr late ↦ subst (ReadsPair text (put_chunk at bytes told)) (omega arith) (pair_at (k - at) (omega arith))
    ]
