-- From the parts of a list that were compared to the whole list.
use Rattle.std.proofs.Common.{◌≡◌, ◌≢◌, ℕ, suc, ◌+◌, ◌-◌, ◌<◌, ◌≤◌, eqb, ltb, Bool, true, false, ◌&&◌, cond, List, [], ◌∷◌, ◌++◌, length, take, drop, Some}
use Rattle.std.proofs.Common.{None}
use Rattle.std.proofs.Common.{refl, sym, ap, subst, ◌∙◌, arith, inl, inr}
use Rattle.std.specs.List.{common_prefix_len}
use Rattle.std.proofs.lemmas.Bool.{cases_eq, eq-eqb, ne_eqb, lt-ltb, le-ltb}
use Rattle.std.proofs.lemmas.List.{take-append-drop, length-take, length-drop, take_all, drop-drop}
use Rattle.std.proofs.lemmas.List.Folds.{list_all-append}
use Rattle.std.proofs.Math.Seq.{take-add}
use Rattle.lane_scan.specs.Scans.{all_equal, first_difference, DifferFirstAt}
use Rattle.lane_scan.proofs.LaneLemmas.{prefix_len-zip, length-zip}

split : (n : ℕ) (bytes : List ℕ) (value : ℕ) → (all_equal (take n bytes) value && all_equal (drop n bytes) value)
    ≡ all_equal bytes value
split n bytes value =
    sym (list_all-append (λ b. eqb b value) (take n bytes) (drop n bytes))
    ∙ ap (λ all. all_equal all value) (take-append-drop n bytes)

-- the first n bytes have the value: the others decide
pub all_equal-drop : (n : ℕ) (bytes : List ℕ) (value : ℕ) → all_equal (take n bytes) value ≡ true →
    all_equal (drop n bytes) value ≡ all_equal bytes value
all_equal-drop n bytes value front = ap (λ b. b && all_equal (drop n bytes) value) (sym front) ∙ split n bytes value

-- one of the first n has it not
pub all_equal-take : (n : ℕ) (bytes : List ℕ) (value : ℕ) → all_equal (take n bytes) value ≡ false →
    false ≡ all_equal bytes value
all_equal-take n bytes value front = ap (λ b. b && all_equal (drop n bytes) value) (sym front) ∙ split n bytes value

-- bytes that end with the same ones: where all of the longer part have the value, those of the shorter part have it
part_decides : (x y whole part all : Bool) → (x && whole) ≡ all → (y && part) ≡ whole → part ≡ all → whole ≡ all
part_decides x true true true all h1 h2 h3 = h3
part_decides x true true false all h1 h2 h3 = absurd cc
part_decides x false true part all h1 h2 h3 = absurd cc
part_decides true y false part all h1 h2 h3 = h1
part_decides false y false part all h1 h2 h3 = h1

-- the last n bytes decide for all where fewer of the last ones do
pub last_decides : (n : ℕ) (bytes rest : List ℕ) (value : ℕ) → n ≤ length bytes → length rest ≤ n →
    rest ≡ drop (length bytes - length rest) bytes
    → all_equal rest value ≡ all_equal bytes value → all_equal (drop (length bytes - n) bytes) value
    ≡ all_equal bytes value
last_decides n bytes rest value room few last h =
    let from = length bytes - n in
    let inner : drop (n - length rest) (drop from bytes) ≡ rest =
    drop-drop (n - length rest) from bytes ∙ ap (λ k. drop k bytes) (omega arith) ∙ sym last in
    let part : (all_equal (take (n - length rest) (drop from bytes)) value && all_equal rest value)
    ≡ all_equal (drop from bytes) value =
    ap (λ l. all_equal (take (n - length rest) (drop from bytes)) value && all_equal l value) (sym inner)
    ∙ split (n - length rest) (drop from bytes) value in
    part_decides (all_equal (take from bytes) value) (all_equal (take (n - length rest) (drop from bytes)) value)
    (all_equal (drop from bytes) value) (all_equal rest value) (all_equal bytes value) (split from bytes value) part h

-- how many bytes at the front are the same in both
abbrev pub same_front : List ℕ → List ℕ → ℕ
same_front a b = common_prefix_len eqb a b

pub first_difference-is : (a b : List ℕ) → length a ≡ length b →
    first_difference a b ≡ cond (ltb (same_front a b) (length a)) (Some (same_front a b)) None
first_difference-is a b long = rw (prefix_len-zip a b, length-zip a b long) refl

same_at : (x y : ℕ) (xs ys : List ℕ) → x ≡ y → same_front (x ∷ xs) (y ∷ ys) ≡ suc (same_front xs ys)
same_at x y xs ys same = ap (λ b. cond b (1 + same_front xs ys) 0) (eq-eqb x y same) ∙ omega arith

apart_at : (x y : ℕ) (xs ys : List ℕ) → x ≢ y → same_front (x ∷ xs) (y ∷ ys) ≡ 0
apart_at x y xs ys apart = ap (λ b. cond b (1 + same_front xs ys) 0) (ne_eqb x y apart)

-- lists that are the same at the front
same_front-append : (xs a b : List ℕ) → same_front (xs ++ a) (xs ++ b) ≡ length xs + same_front a b
same_front-append [] a b = omega arith
same_front-append (x ∷ xs) a b =
    let rest = same_front-append xs a b in
    same_at x x (xs ++ a) (xs ++ b) refl ∙ omega arith

-- parts of one length, which differ
same_front-parts : (xs ys a b : List ℕ) → length xs ≡ length ys → same_front xs ys < length xs →
    same_front (xs ++ a) (ys ++ b) ≡ same_front xs ys
same_front-parts [] ys a b long less = absurd (omega arith)
same_front-parts (x ∷ xs) [] a b long less = absurd (omega arith)
same_front-parts (x ∷ xs) (y ∷ ys) a b long less =
    elim (cases_eq x y) [
      | inl same ↦
          let here = same_at x y xs ys same in
          let rest : same_front (xs ++ a) (ys ++ b) ≡ same_front xs ys =
          same_front-parts xs ys a b (omega arith) (omega arith) in
          same_at x y (xs ++ a) (ys ++ b) same ∙ ap (λ n. suc n) rest ∙ sym here
      | inr apart ↦ apart_at x y (xs ++ a) (ys ++ b) apart ∙ sym (apart_at x y xs ys apart)
    ]

-- parts of one length, which are the same
whole_same : (xs ys : List ℕ) → length xs ≡ length ys → length xs ≤ same_front xs ys → xs ≡ ys
whole_same [] [] long all = refl
whole_same [] (y ∷ ys) long all = absurd (omega arith)
whole_same (x ∷ xs) [] long all = absurd (omega arith)
whole_same (x ∷ xs) (y ∷ ys) long all =
    elim (cases_eq x y) [
      | inl same ↦
          let here = same_at x y xs ys same in
          let rest : xs ≡ ys = whole_same xs ys (omega arith) (omega arith) in
          cc
      | inr apart ↦ let here = apart_at x y xs ys apart in absurd (omega arith)
    ]

-- a slice from an index to the end
pub rest_is : (at : ℕ) (bytes : List ℕ) → take (length bytes - at) (drop at bytes) ≡ drop at bytes
rest_is at bytes = take_all _ (drop at bytes) (omega (arith, length-drop at bytes))

module _ (at : ℕ) (a b : List ℕ) (long : length a ≡ length b) (inside : at ≤ length a)
    (same : take at a ≡ take at b) where
  -- as many are the same as before the index and from there on
  pub front_is : same_front a b ≡ at + same_front (drop at a) (drop at b)
  front_is =
      let whole : take at a ++ drop at b ≡ b = ap (λ front. front ++ drop at b) same ∙ take-append-drop at b in
      ap (λ all. same_front all b) (sym (take-append-drop at a))
      ∙ ap (λ all. same_front (take at a ++ drop at a) all) (sym whole)
      ∙ same_front-append (take at a) (drop at a) (drop at b) ∙ omega (arith, length-take at a)

  -- the next n differ
  pub front_differs : (n : ℕ) → at + n ≤ length a → same_front (take n (drop at a)) (take n (drop at b)) < n
      → same_front a b ≡ at + same_front (take n (drop at a)) (take n (drop at b))
  front_differs n room less =
      let long_a : length (take n (drop at a)) ≡ n = omega (arith, length-take n (drop at a), length-drop at a) in
      let long_b : length (take n (drop at b)) ≡ n = omega (arith, length-take n (drop at b), length-drop at b) in
      let parts = same_front-parts (take n (drop at a)) (take n (drop at b)) (drop n (drop at a)) (drop n (drop at b))
      (omega arith) (omega arith) in
      front_is ∙ ap (λ k. at + k)
      (ap (λ all. same_front all (drop at b)) (sym (take-append-drop n (drop at a)))
      ∙ ap (λ all. same_front (take n (drop at a) ++ drop n (drop at a)) all) (sym (take-append-drop n (drop at b)))
      ∙ parts)

  -- the next n are the same
  pub front_goes_on : (n : ℕ) → at + n ≤ length a → n ≤ same_front (take n (drop at a)) (take n (drop at b)) →
      take (at + n) a ≡ take (at + n) b
  front_goes_on n room all =
      let long_a : length (take n (drop at a)) ≡ n = omega (arith, length-take n (drop at a), length-drop at a) in
      let long_b : length (take n (drop at b)) ≡ n = omega (arith, length-take n (drop at b), length-drop at b) in
      let next = whole_same (take n (drop at a)) (take n (drop at b)) (omega arith) (omega arith) in
      take-add at n a ∙ ap (λ front. front ++ take n (drop at a)) same ∙ ap (λ rest. take at b ++ rest) next
      ∙ sym (take-add at n b)

-- what the first n have in common ends where the lists differ first
same_front-differs : (a b : List ℕ) → length a ≡ length b → same_front a b < length a →
    DifferFirstAt a b (same_front a b)
same_front-differs [] b long less = absurd (omega arith)
same_front-differs (x ∷ xs) [] long less = absurd (omega arith)
same_front-differs (x ∷ xs) (y ∷ ys) long less =
    elim (cases_eq x y) [
      | inl same ↦
          let rest = same_front-differs xs ys (omega arith) (let here = same_at x y xs ys same in omega arith) in
          subst (DifferFirstAt (x ∷ xs) (y ∷ ys)) (sym (same_at x y xs ys same)) (record {
            in_range = let inside = rest.in_range in omega arith;
            before = let before = rest.before in cc;
            here = rest.here;
          })
      | inr apart ↦ subst (DifferFirstAt (x ∷ xs) (y ∷ ys)) (sym (apart_at x y xs ys apart))
          (record { in_range = omega arith; before = refl; here = apart })
    ]

same_front-whole : (a : List ℕ) → same_front a a ≡ length a
same_front-whole [] = refl
same_front-whole (x ∷ xs) = same_at x x xs xs refl ∙ ap (λ n. suc n) (same_front-whole xs)

-- the answers
module _ (a b : List ℕ) (long : length a ≡ length b) where
  -- the two have as many bytes in common at the front, and then differ
  pub some_exact : (at : ℕ) → same_front a b ≡ at → at < length a → Some at ≡ first_difference a b
  some_exact at front inside =
      sym (first_difference-is a b long ∙ rw front (rw (lt-ltb at (length a) inside) refl))

  pub some_apart : (at : ℕ) → same_front a b ≡ at → at < length a → a ≢ b
  some_apart at front inside same = let whole = ap (same_front a) (sym same) ∙ same_front-whole a in
      absurd (omega arith)

  pub some_least : (at : ℕ) → same_front a b ≡ at → at < length a → DifferFirstAt a b at
  some_least at front inside = subst (DifferFirstAt a b) front (same_front-differs a b long (omega arith))

  pub none_exact : length a ≤ same_front a b → None ≡ first_difference a b
  none_exact all = sym (first_difference-is a b long ∙ rw (le-ltb (same_front a b) (length a) all) refl)

  pub none_same : length a ≤ same_front a b → a ≡ b
  none_same all = whole_same a b long all
